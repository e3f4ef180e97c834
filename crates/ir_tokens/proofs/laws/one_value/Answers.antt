use Rattle.ir_tokens.proofs.Values.{Unescapes-unescaped, Unescapes-quoted_value, StandsFor-token}
use Rattle.ir_tokens.proofs.laws.one_value.Goals as goal

pub returns-clause-escapes : goal.returns-clause-escapes
returns-clause-escapes c = Unescapes-unescaped

pub returns-clause-quoted : goal.returns-clause-quoted
returns-clause-quoted c = Unescapes-quoted_value

pub returns-clause-names : goal.returns-clause-names
returns-clause-names c = StandsFor-token
