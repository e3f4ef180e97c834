-- Which text is that of a module, and which names are plain.
use Rattle.std.specs.Prelude.{◌≡◌, ℕ, nat_lt, List, [], ◌∷◌, ◌++◌, Some}
use Rattle.ir_tokens.specs.Bytes.{Text, Each}
use Rattle.ir_tokens.specs.Tokens.{IsToken, HasTokens}
use Rattle.ir_tokens.specs.declared.token.Token.{Token}
use Rattle.ir_tokens.specs.declared.token.TokenKind.TheVariants as kind
use Rattle.ir_tree.specs.declared.name.Name.TheVariants as name
use Rattle.ir_tree.specs.declared.item.Item.{Item}
use Rattle.ir_tree.specs.declared.item.Item.TheVariants as tree
use Rattle.ir_grammar.specs.Lexeme.{lexemes}
use Rattle.ir_grammar.specs.Words.{local_of, global_of, label_of}
use Rattle.ir_grammar.specs.Modules.{IsModule}

-- each number of the text is a byte
abbrev pub AreBytes : Text → Type 0
AreBytes text = Each (λ b. nat_lt b 256) text

-- the text is cut into tokens, and they are the module with these items
pub record IsTextOf (text : Text) (items : List Item) : Type 0 where
  pub tokens : List Token
  pub starts : List ℕ
  pub cut : HasTokens text tokens
  pub whole : IsModule (lexemes text tokens) items starts

-- the item is an instruction
abbrev pub IsInstr : Item → Type 0
IsInstr (tree.Instr n o) = Unit {0}
IsInstr _ = ⊥

-- ---- names

-- `%` and these bytes are a token, and its name is these bytes
abbrev pub ReadsAsLocal : Text → Type 0
ReadsAsLocal s = IsToken kind.Local (37 ∷ s) [] × (local_of (kind.Local, 37 ∷ s) ≡ Some (name.Text s))

-- and so are `@` and these bytes
abbrev pub ReadsAsGlobal : Text → Type 0
ReadsAsGlobal s = IsToken kind.Global (64 ∷ s) [] × (global_of (kind.Global, 64 ∷ s) ≡ Some (name.Text s))

-- and these bytes and `:`
abbrev pub ReadsAsLabel : Text → Type 0
ReadsAsLabel s = IsToken kind.Label (s ++ (58 ∷ [])) [] × (label_of (kind.Label, s ++ (58 ∷ [])) ≡ Some (name.Text s))
