-- The results of `lex`.
use Rattle.std.specs.Prelude.{◌≡◌, ◌++◌, ℕ}
use Rattle.ir_tokens.specs.declared.token.TokenKind.{TokenKind}
use Rattle.ir_tokens.specs.Bytes.{Text}
use Rattle.ir_tokens.specs.Tokens.{IsToken, BadByte, OpenQuote, FaultAt, HasFault}
use Rattle.ir_lexer.specs.declared.error.LexError.{LexError}
use Rattle.ir_lexer.specs.declared.error.LexError.TheVariants as error

-- the error names the first fault of the text. Want of memory may come at any text.
abbrev pub NamesFault : Text → LexError → Type 0
NamesFault text (error.BadByte at) = HasFault text at BadByte
NamesFault text (error.OpenQuote at) = HasFault text at OpenQuote
NamesFault text error.OutOfMemory = Unit {0}

-- the error names the fault of the byte at the front, at this place
abbrev pub NamesFront : Text → ℕ → LexError → Type 0
NamesFront left at (error.BadByte n) = FaultAt left BadByte × (n ≡ at)
NamesFront left at (error.OpenQuote n) = FaultAt left OpenQuote × (n ≡ at)
NamesFront left at error.OutOfMemory = ⊥

-- the text is a token of the kind, and then rest
pub record Follows (text : Text) (k : TokenKind) (rest : Text) : Type 0 where
  pub s : Text
  pub whole : text ≡ s ++ rest
  pub is_token : IsToken k s rest
