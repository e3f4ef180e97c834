-- Parts whose canonical texts are read as themselves, and instructions that are made of such parts.
use Rattle.std.specs.Prelude.{◌<◌, ◌^◌, List, [], ◌∷◌, Option, Some, None, ℤ, pos, negsuc}
use Rattle.ir_tokens.specs.Bytes.{Text}
use Rattle.ir_tokens.specs.Tokens.{HasTokens}
use Rattle.ir_tokens.specs.declared.token.Token.{Token}
use Rattle.ir_tree.specs.declared.name.Name.{Name}
use Rattle.ir_tree.specs.declared.type_text.TyText.{TyText}
use Rattle.ir_tree.specs.declared.operand.Opd.{Opd}
use Rattle.ir_tree.specs.declared.op.Op.{Op}
use Rattle.ir_tree.specs.declared.op.Op.TheVariants as op
use Rattle.ir_grammar.specs.Lexeme.{lexemes}
use Rattle.ir_grammar.specs.Rule.{Rule}
use Rattle.ir_grammar.specs.Words as words
use Rattle.ir_grammar.specs.Types.{type_text, result_type}
use Rattle.ir_grammar.specs.Operands.{operand}
use Rattle.ir_text.specs.Spelling.{local, global}
use Rattle.ir_text.specs.Parts.{type_lexemes, operand_lexemes}
use Rattle.ir_text.specs.Lines.{spaced}
use Rattle.ir_text.specs.Texts.{AreBytes}

-- the text is of bytes and is cut into tokens, and the rule reads them all as this part
pub record IsTextOfPart {A : Type 0} (rule : Rule A) (text : Text) (part : A) : Type 0 where
  pub bytes : AreBytes text
  pub tokens : List Token
  pub cut : HasTokens text tokens
  pub whole : rule.reads (lexemes text tokens) part []

-- ---- a part reads back where its canonical text is read as it

abbrev pub TypeReadsBack : TyText → Type 0
TypeReadsBack t = IsTextOfPart type_text (spaced (type_lexemes t)) t

-- the result of a call, which may be `void`
abbrev pub ResultReadsBack : TyText → Type 0
ResultReadsBack t = IsTextOfPart result_type (spaced (type_lexemes t)) t

abbrev pub OperandReadsBack : Opd → Type 0
OperandReadsBack x = IsTextOfPart operand (spaced (operand_lexemes x)) x

-- an operand behind its type
abbrev pub TypedReadsBack : TyText × Opd → Type 0
TypedReadsBack x = TypeReadsBack x.0 × OperandReadsBack x.1

-- the name of a label that a branch goes to
abbrev pub LocalReadsBack : Name → Type 0
LocalReadsBack n = IsTextOfPart words.local (spaced (local n ∷ [])) n

-- the name of a callee
abbrev pub GlobalReadsBack : Name → Type 0
GlobalReadsBack n = IsTextOfPart words.global_name (spaced (global n ∷ [])) n

-- a number within 128 signed bits, as the texts of numbers are
abbrev pub IsWide : ℤ → Type 0
IsWide (pos n) = n < 2 ^ 127
IsWide (negsuc n) = n < 2 ^ 127

-- ---- an instruction each of whose parts reads back

abbrev pub EachOf : {A : Type 0} → (A → Type 0) → List A → Type 0
EachOf P [] = Unit {0}
EachOf P (x ∷ xs) = P x × EachOf P xs

-- the same of a list that has an element
abbrev pub SomeOf : {A : Type 0} → (A → Type 0) → List A → Type 0
SomeOf P [] = ⊥
SomeOf P (x ∷ xs) = P x × EachOf P xs

abbrev pub IfAny : {A : Type 0} → (A → Type 0) → Option A → Type 0
IfAny P None = Unit {0}
IfAny P (Some x) = P x

-- an entry of a `phi`
abbrev pub EntryReadsBack : Opd × Name → Type 0
EntryReadsBack e = OperandReadsBack e.0 × LocalReadsBack e.1

-- a case of a `switch`
abbrev pub CaseReadsBack : TyText × Opd × Name → Type 0
CaseReadsBack c = TypedReadsBack (c.0, c.1) × LocalReadsBack c.2

abbrev pub PartsReadBack : Op → Type 0
PartsReadBack (op.Bin b t x y) = TypeReadsBack t × OperandReadsBack x × OperandReadsBack y
PartsReadBack (op.Cmp p t x y) = TypeReadsBack t × OperandReadsBack x × OperandReadsBack y
PartsReadBack (op.Select s c t x u y) = TypedReadsBack (s, c) × TypedReadsBack (t, x) × TypedReadsBack (u, y)
PartsReadBack (op.Cast c t x to) = TypedReadsBack (t, x) × TypeReadsBack to
PartsReadBack (op.Freeze t x) = TypedReadsBack (t, x)
PartsReadBack (op.Alloca t n) = TypeReadsBack t × IfAny TypedReadsBack n
PartsReadBack (op.Load t u address) = TypeReadsBack t × TypedReadsBack (u, address)
PartsReadBack (op.Store t x u address) = TypedReadsBack (t, x) × TypedReadsBack (u, address)
PartsReadBack (op.Get of t base indices) = TypeReadsBack of × TypedReadsBack (t, base) × EachOf TypedReadsBack indices
PartsReadBack (op.Phi t entries) = TypeReadsBack t × SomeOf EntryReadsBack entries
PartsReadBack (op.Call t callee arguments) = ResultReadsBack t × GlobalReadsBack callee × EachOf TypedReadsBack arguments
PartsReadBack (op.Jump to) = LocalReadsBack to
PartsReadBack (op.Branch t c chosen other) = TypedReadsBack (t, c) × LocalReadsBack chosen × LocalReadsBack other
PartsReadBack (op.Switch t x other cases) = TypedReadsBack (t, x) × LocalReadsBack other × EachOf CaseReadsBack cases
PartsReadBack (op.Ret x) = IfAny TypedReadsBack x
PartsReadBack op.Unreachable = Unit {0}
