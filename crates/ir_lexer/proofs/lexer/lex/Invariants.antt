use Rattle.std.proofs.Common.{◌≤◌, length}
use Rattle.ir_tokens.specs.Tokens.{Begins}
use Rattle.ir_lexer.proofs.lexer.lex.Given as goal

abbrev pub invariant-turns : goal.invariant-turns
invariant-turns l = record { begins : Begins (length l.text) l.text l.tokens.items l.rest; within : length l.rest ≤ length l.text }

abbrev pub decreases-turns : goal.decreases-turns
decreases-turns l = length l.rest
