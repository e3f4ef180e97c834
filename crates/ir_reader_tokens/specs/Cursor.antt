-- The view of a cursor.
use Rattle.std.specs.Prelude.{◌≤◌, List, length, [], ◌∷◌}
use Rattle.ir_tokens.specs.Bytes.{Text}
use Rattle.ir_tokens.specs.declared.token.Token.{Token}
use Rattle.ir_grammar.specs.Lexeme.{Lexemes, lexemes}
use Rattle.ir_reader_tokens.specs.declared.cursor.Cursor.TheInside.{Inside}

abbrev pub shown : Inside → Lexemes
shown c = lexemes c.text.now c.tokens.now

-- each token lies in the text
abbrev pub LieIn : Text → List Token → Type 0
LieIn text [] = Unit {0}
LieIn text (t ∷ ts) = (t.from ≤ t.to) × (t.to ≤ length text) × LieIn text ts

abbrev pub IsReady : Inside → Type 0
IsReady c = LieIn c.text.now c.tokens.now
