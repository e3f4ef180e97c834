-- The results of `read` and `read_instruction`.
use Rattle.std.specs.Prelude.{◌≡◌, ℕ, Bool, true, Some, None, Result, Ok, Err}
use Rattle.ir_tokens.specs.Bytes.{Text}
use Rattle.ir_tree.specs.declared.op.Op.{Op}
use Rattle.ir_tree.specs.declared.item.Item.{Item}
use Rattle.ir_tree.specs.declared.item.Item.TheVariants as tree
use Rattle.ir_grammar.specs.Instructions.{AreInstruction, IsInstruction}
use Rattle.ir_grammar.specs.Lexeme.{Lexemes}
use Rattle.ir_grammar.specs.Items.{SomeItem, item}
use Rattle.ir_grammar.specs.Modules.{is_allowed, IsUnread}
use Rattle.ir_reader.specs.declared.error.ReadError.{ReadError}
use Rattle.ir_reader.specs.declared.error.ReadError.TheVariants as error
use Rattle.ir_reader.specs.declared.error.InstrError.{InstrError}
use Rattle.ir_reader.specs.declared.error.InstrError.TheVariants as instr_error

-- the error names the first place that isn't read. Want of memory may come at any tokens.
abbrev pub NamesUnread : Lexemes → ReadError → Type 0
NamesUnread ts (error.NotAnItem at) = IsUnread ts at
NamesUnread ts error.OutOfMemory = Unit {0}

-- no item begins here that is allowed
abbrev pub NoItem : Bool → Lexemes → Type 0
NoItem inside ts = (x : SomeItem) (mid : Lexemes) → item.reads ts x mid → is_allowed inside x ≡ true → ⊥

-- the item that begins here, where it is allowed
abbrev pub IsReadAt : Bool → ℕ → Lexemes → Result SomeItem ReadError → Lexemes → Type 0
IsReadAt inside at ts (Ok x) rest = (item.parse ts ≡ Some (x, rest)) × (is_allowed inside x ≡ true)
IsReadAt inside at ts (Err (error.NotAnItem n)) rest = (n ≡ at) × NoItem inside ts
IsReadAt inside at ts (Err error.OutOfMemory) rest = Unit {0}

-- ---- one instruction

-- all lexemes are one instruction without a written result
pub record IsWhole (ts : Lexemes) (x : Item) : Type 0 where
  pub op : Op
  pub bare : x ≡ tree.Instr None op
  pub whole : AreInstruction ts op

abbrev pub SaysWhole : Lexemes → Result Item InstrError → Type 0
SaysWhole ts (Ok x) = IsWhole ts x
SaysWhole ts (Err instr_error.NotAnInstruction) = (x : Item) → IsWhole ts x → ⊥
SaysWhole ts (Err instr_error.OutOfMemory) = Unit {0}

-- the item is the one instruction, without a written result, that is the whole text
pub record IsWholeInstruction (text : Text) (x : Item) : Type 0 where
  pub op : Op
  pub bare : x ≡ tree.Instr None op
  pub whole : IsInstruction text op

-- the text is no such instruction. Want of memory may come at any text.
abbrev pub IsNoInstruction : Text → InstrError → Type 0
IsNoInstruction text instr_error.NotAnInstruction = (x : Item) → IsWholeInstruction text x → ⊥
IsNoInstruction text instr_error.OutOfMemory = Unit {0}

-- an item that is an instruction without a result, or none
abbrev pub IsBare : SomeItem → Result Item InstrError → Type 0
IsBare found (Ok x) = (o : Op) × (found ≡ Some x) × (x ≡ tree.Instr None o)
IsBare found (Err instr_error.NotAnInstruction) = (o : Op) → found ≡ Some (tree.Instr None o) → ⊥
IsBare found (Err instr_error.OutOfMemory) = ⊥
