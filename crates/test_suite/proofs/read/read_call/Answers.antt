use Rattle.std.proofs.Common.{sym, ◌∙◌}
use Rattle.function_names.proofs.Numbered.{named_within}
use Rattle.test_suite.proofs.Reading.{is_there}
use Rattle.test_suite.proofs.read.read_call.Goals as goal

pub unreachable-requires : goal.unreachable-requires
unreachable-requires c =
    is_there c.args.code.now.funcs c.in-Some.function _
    (named_within c.args.code.now _ c.in-Some.function (sym (c.requires.named c.in_ok-name.name) ∙ sym c.find.ensures ∙ c.in-Some.is)) c.get.ensures c.in-None.is
