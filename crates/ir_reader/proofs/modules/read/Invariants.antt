use Rattle.std.proofs.Common.{length}
use Rattle.ir_grammar.specs.Lexeme.{lexemes}
use Rattle.ir_reader.proofs.Turns.{HasRead}
use Rattle.ir_reader.proofs.modules.read.Given as goal

abbrev pub invariant-turns : goal.invariant-turns
invariant-turns l = HasRead (lexemes l.text l.tokens) l.inside l.cursor l.items l.starts

abbrev pub decreases-turns : goal.decreases-turns
decreases-turns l = length l.cursor
