-- Why a text isn't read, printed and read again.
use Rattle.std.specs.Prelude.{◌<◌, List, length}
use Rattle.am_base.specs.declared.limits.TheConstants.{MAX_FILE_BYTES}
use Rattle.ir_tokens.specs.Bytes.{Text}
use Rattle.ir_tokens.specs.Tokens.{Fault, HasFault, HasTokens}
use Rattle.ir_tokens.specs.declared.token.Token.{Token}
use Rattle.ir_tree.specs.declared.item.Item.{Item}
use Rattle.ir_grammar.specs.Lexeme.{lexemes}
use Rattle.ir_grammar.specs.Modules.{IsUnread}
use Rattle.ir_text.specs.Lines.{canon}
use Rattle.ir_text.specs.Texts.{IsTextOf}
use Rattle.ir_rows.specs.declared.again.ReadBackError.{ReadBackError}
use Rattle.ir_rows.specs.declared.again.ReadBackError.TheVariants as error

-- Why no module is read from a text: its first fault, or the first of its tokens that isn't read. Want of memory may come at any text.
abbrev pub IsUnreadable : Text → ReadBackError → Type 0
IsUnreadable text (error.NoToken at) = (fault : Fault) × HasFault text at fault
IsUnreadable text (error.NoItem at) = (tokens : List Token) × HasTokens text tokens × IsUnread (lexemes text tokens) at
IsUnreadable text error.TooLong = ⊥
IsUnreadable text error.OutOfMemory = Unit {0}

-- the same, or the canonical text of the module is too long to be read
abbrev pub IsNotReadBack : Text → ReadBackError → Type 0
IsNotReadBack text error.TooLong = (items : List Item) × IsTextOf text items × (MAX_FILE_BYTES < length (canon items))
IsNotReadBack text e = IsUnreadable text e

-- want of memory, which no text keeps away
abbrev pub IsWant : ReadBackError → Type 0
IsWant (error.NoToken at) = ⊥
IsWant (error.NoItem at) = ⊥
IsWant error.TooLong = ⊥
IsWant error.OutOfMemory = Unit {0}
