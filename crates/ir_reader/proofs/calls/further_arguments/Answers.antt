use Rattle.std.proofs.Common.{ap, sym, ◌∙◌}
use Rattle.ir_grammar.specs.Rule.{onto, further}
use Rattle.ir_grammar.specs.Starts.{sees_type}
use Rattle.ir_grammar.specs.Ops.{argument}
use Rattle.ir_grammar.proofs.Loops.{further-goes, further-shorter}
use Rattle.ir_grammar.proofs.Productions.{argument-exact}
use Rattle.ir_reader.proofs.calls.further_arguments.Goals as goal

pub turns-preserved : goal.turns-preserved
turns-preserved c =
    let b = sym c.sees_more_types.ensures ∙ c.turns-test.true in
    let goes = further-goes sees_type argument argument-exact c.turns.found c.turns.cursor b c.sign.new.self c.in_ok-argument.field-0 c.argument.new.cursor
    c.in_ok-sign.ensures c.in_ok-argument.ensures in
    ap (λ f. onto f ((further sees_type argument).parse c.argument.new.cursor)) c.in_ok-push.ensures.ok ∙ sym goes ∙ c.turns.invariant

pub turns-smaller : goal.turns-smaller
turns-smaller c = further-shorter sees_type argument argument-exact c.turns.cursor c.sign.new.self c.in_ok-argument.field-0 c.argument.new.cursor
    c.in_ok-sign.ensures c.in_ok-argument.ensures
