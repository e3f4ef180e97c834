use Rattle.std.proofs.Common.{◌∙◌}
use Rattle.ir_tokens.proofs.Digits.{is_some-SomeIff}
use Rattle.ir_lexer.proofs.parts.is_small_number.Goals as goal

pub returns : goal.returns
returns c = c.is_some.ensures ∙ is_some-SomeIff c.small_number.result c.args.text.now c.small_number.ensures
