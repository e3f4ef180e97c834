-- The module of a file: what it gives where it is accepted, and the line where it is refused.
use Rattle.std.specs.Prelude.{◌≡◌, ℕ, List, Some, None}
use Rattle.code_form.specs.declared.sign.PortSign.{PortSign}
use Rattle.ir_tokens.specs.Bytes.{Text}
use Rattle.ir_tokens.specs.Tokens.{HasTokens}
use Rattle.ir_tokens.specs.declared.token.Token.{Token}
use Rattle.ir_lexer.specs.Answer.{NamesFault}
use Rattle.ir_lexer.specs.declared.error.LexError.{LexError}
use Rattle.ir_tree.specs.declared.item.Item.{Item}
use Rattle.ir_grammar.specs.Lexeme.{lexemes}
use Rattle.ir_grammar.specs.Modules.{IsModule}
use Rattle.ir_reader.specs.Answers.{NamesUnread}
use Rattle.ir_reader.specs.declared.error.ReadError.{ReadError}
use Rattle.ir_rules.specs.Rules.{fault}
use Rattle.ir_rules.specs.Modules.{code_of}
use Rattle.ir_rules.specs.declared.rule.Fault.{Fault}
use Rattle.refused_lines.specs.Refusals.{unlexed_line, unread_line, broken_line}
use Rattle.command_files.specs.declared.module.Loaded.{Loaded}

-- the text is cut into these tokens, and they are these items, each of which begins at the token with this number
pub record HasItems (text : Text) (tokens : List Token) (items : List Item) (starts : List ℕ) : Type 0 where
  pub cut : HasTokens text tokens
  pub whole : IsModule (lexemes text tokens) items starts

-- the text is a module that breaks no rule, where the ports have these signs: this is what it is read and checked as
pub record IsAccepted (signs : List PortSign) (text : Text) (m : Loaded) : Type 0 where
  pub tokens : List Token
  pub starts : List ℕ
  pub items : HasItems text tokens m.module.items starts
  pub no_fault : fault m.module.items signs ≡ None
  pub code : m.code ≡ code_of m.module.items signs

-- The line that refuses a text as a module: for its lexical fault, for the first token that isn't read, or for the first item that breaks a rule.
pub data IsRefused (signs : List PortSign) (text line : Text) : Type 0 where
  unlexed : (e : LexError) → NamesFault text e → unlexed_line text e ≡ Some line → IsRefused signs text line
  unread : (tokens : List Token) (e : ReadError) → HasTokens text tokens → NamesUnread (lexemes text tokens) e → unread_line text tokens e ≡ Some line
      → IsRefused signs text line
  broken : (tokens : List Token) (items : List Item) (starts : List ℕ) (f : Fault) → HasItems text tokens items starts → fault items signs ≡ Some f
      → line ≡ broken_line text tokens starts f → IsRefused signs text line
