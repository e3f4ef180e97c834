-- The one list of lexemes of each part of a tree and of each item.
use Rattle.std.specs.Prelude.{ℕ, Bool, true, false, ◌==◌, if◌then◌else◌, List, [], ◌∷◌, ◌++◌, map, codes, Option, Some, None, ℤ}
use Rattle.ir_tokens.specs.Bytes.{Text}
use Rattle.ir_tree.specs.declared.name.Name.{Name}
use Rattle.ir_tree.specs.declared.type_text.TyText.{TyText}
use Rattle.ir_tree.specs.declared.type_text.TyText.TheOpen.{TyText-F}
use Rattle.ir_tree.specs.declared.type_text.TyText.TheFolds.{fold-TyText}
use Rattle.ir_tree.specs.declared.operand.Opd.{Opd}
use Rattle.ir_tree.specs.declared.operand.Opd.TheVariants as opd
use Rattle.ir_tree.specs.declared.operand.Init.{Init}
use Rattle.ir_tree.specs.declared.operand.Init.TheOpen.{Init-F}
use Rattle.ir_tree.specs.declared.operand.Init.TheFolds.{fold-Init}
use Rattle.ir_tree.specs.declared.op.Op.{Op}
use Rattle.ir_tree.specs.declared.op.Op.TheVariants as op
use Rattle.ir_tree.specs.declared.item.Item.{Item}
use Rattle.ir_tree.specs.declared.item.Item.TheVariants as tree
use Rattle.ir_grammar.specs.Lexeme.{Lexemes}
use Rattle.ir_text.specs.Spelling.{local, global, label, number, array_length, cstring, word, sign, comma, width_word, binary_word, cast_word, predicate_word}

-- ---- lists

-- one list after the other
abbrev pub joined : List Lexemes → Lexemes
joined [] = []
joined (part ∷ parts) = part ++ joined parts

-- each one after a comma
abbrev pub behind_commas : List Lexemes → Lexemes
behind_commas parts = joined (map (λ part. comma ∷ part) parts)

-- with commas between
abbrev pub with_commas : List Lexemes → Lexemes
with_commas [] = []
with_commas (part ∷ parts) = part ++ behind_commas parts

-- the comma before the element of this number
abbrev pub comma_before : ℕ → Lexemes
comma_before at = if at == 0 then [] else comma ∷ []

-- the same between `(` and `)`
abbrev pub in_parentheses : List Lexemes → Lexemes
in_parentheses parts = sign 40 ∷ (with_commas parts ++ sign 41 ∷ [])

-- ---- types

-- one level of a type, with the lexemes of each part in its place
abbrev pub type_step : TyText-F Lexemes → Lexemes
type_step (TyText-F.Int w) = word (width_word w) ∷ []
type_step TyText-F.Ptr = word (codes "ptr") ∷ []
type_step TyText-F.Void = word (codes "void") ∷ []
type_step (TyText-F.Array n of) = sign 91 ∷ array_length n ∷ word (codes "x") ∷ (of ++ sign 93 ∷ [])
type_step (TyText-F.Struct fields) = sign 123 ∷ (with_commas fields ++ sign 125 ∷ [])
type_step (TyText-F.Named n) = local n ∷ []

unfoldable pub type_lexemes : TyText → Lexemes
type_lexemes = fold-TyText Lexemes type_step

-- ---- operands

abbrev pub constant_index : TyText × ℤ → Lexemes
constant_index i = type_lexemes i.0 ++ number i.1 ∷ []

unfoldable pub operand_lexemes : Opd → Lexemes
operand_lexemes (opd.Local n) = local n ∷ []
operand_lexemes (opd.Global n) = global n ∷ []
operand_lexemes (opd.Number z) = number z ∷ []
operand_lexemes opd.True = word (codes "true") ∷ []
operand_lexemes opd.False = word (codes "false") ∷ []
operand_lexemes opd.Null = word (codes "null") ∷ []
operand_lexemes opd.Undef = word (codes "undef") ∷ []
operand_lexemes opd.Poison = word (codes "poison") ∷ []
operand_lexemes opd.Zero = word (codes "zeroinitializer") ∷ []
operand_lexemes (opd.Get (of, base, n, indices)) =
    word (codes "getelementptr") ∷ sign 40 ∷ (type_lexemes of ++ comma ∷
    (type_lexemes base ++ global n ∷ (behind_commas (map constant_index indices) ++ sign 41 ∷ [])))

-- an operand after its type
abbrev pub typed : TyText → Opd → Lexemes
typed t x = type_lexemes t ++ operand_lexemes x

abbrev pub typed_operand : TyText × Opd → Lexemes
typed_operand x = typed x.0 x.1

-- ---- initialisers

abbrev pub element : TyText × Lexemes → Lexemes
element e = type_lexemes e.0 ++ e.1

abbrev pub init_step : Init-F Lexemes → Lexemes
init_step (Init-F.One x) = operand_lexemes x
init_step (Init-F.Text s) = cstring s ∷ []
init_step (Init-F.Array elements) = sign 91 ∷ (with_commas (map element elements) ++ sign 93 ∷ [])
init_step (Init-F.Struct fields) = sign 123 ∷ (with_commas (map element fields) ++ sign 125 ∷ [])

unfoldable pub init_lexemes : Init → Lexemes
init_lexemes = fold-Init Lexemes init_step

-- an element after its type
abbrev pub init_element : TyText × Init → Lexemes
init_element e = type_lexemes e.0 ++ init_lexemes e.1

-- ---- instructions

-- label Local
abbrev pub target : Name → Lexemes
target n = word (codes "label") ∷ local n ∷ []

-- , T opd, where there is one
abbrev pub count : Option (TyText × Opd) → Lexemes
count None = []
count (Some x) = comma ∷ typed_operand x

-- [ opd , Local ]
abbrev pub entry : Opd × Name → Lexemes
entry e = sign 91 ∷ (operand_lexemes e.0 ++ comma ∷ local e.1 ∷ sign 93 ∷ [])

-- T opd , label Local
abbrev pub case : TyText × Opd × Name → Lexemes
case c = typed c.0 c.1 ++ comma ∷ target c.2

-- void, or T opd
abbrev pub returned : Option (TyText × Opd) → Lexemes
returned None = word (codes "void") ∷ []
returned (Some x) = typed_operand x

-- an instruction without its result
unfoldable pub op_lexemes : Op → Lexemes
op_lexemes (op.Bin b t x y) = word (binary_word b) ∷ (type_lexemes t ++ (operand_lexemes x ++ comma ∷ operand_lexemes y))
op_lexemes (op.Cmp p t x y) = word (codes "icmp") ∷ word (predicate_word p) ∷ (type_lexemes t ++ (operand_lexemes x ++ comma ∷ operand_lexemes y))
op_lexemes (op.Select s c t x u y) = word (codes "select") ∷ (typed s c ++ comma ∷ (typed t x ++ comma ∷ typed u y))
op_lexemes (op.Cast c t x to) = word (cast_word c) ∷ (typed t x ++ word (codes "to") ∷ type_lexemes to)
op_lexemes (op.Freeze t x) = word (codes "freeze") ∷ typed t x
op_lexemes (op.Alloca t n) = word (codes "alloca") ∷ (type_lexemes t ++ count n)
op_lexemes (op.Load t u address) = word (codes "load") ∷ (type_lexemes t ++ comma ∷ typed u address)
op_lexemes (op.Store t x u address) = word (codes "store") ∷ (typed t x ++ comma ∷ typed u address)
op_lexemes (op.Get of t base indices) = word (codes "getelementptr") ∷ (type_lexemes of ++ comma ∷ (typed t base ++ behind_commas (map typed_operand indices)))
op_lexemes (op.Phi t entries) = word (codes "phi") ∷ (type_lexemes t ++ with_commas (map entry entries))
op_lexemes (op.Call t callee arguments) = word (codes "call") ∷ (type_lexemes t ++ global callee ∷ in_parentheses (map typed_operand arguments))
op_lexemes (op.Jump to) = word (codes "br") ∷ target to
op_lexemes (op.Branch t c chosen other) = word (codes "br") ∷ (typed t c ++ comma ∷ (target chosen ++ comma ∷ target other))
op_lexemes (op.Switch t x other cases) = word (codes "switch") ∷ (typed t x ++ comma ∷ (target other ++ sign 91 ∷ (joined (map case cases) ++ sign 93 ∷ [])))
op_lexemes (op.Ret x) = word (codes "ret") ∷ returned x
op_lexemes op.Unreachable = word (codes "unreachable") ∷ []

-- ---- items

abbrev pub global_kind : Bool → Text
global_kind true = codes "constant"
global_kind false = codes "global"

abbrev pub some_local : Option Name → Lexemes
some_local None = []
some_local (Some n) = local n ∷ []

-- T Local?
abbrev pub parameter : TyText × Option Name → Lexemes
parameter p = type_lexemes p.0 ++ some_local p.1

-- Local =, where there is one
abbrev pub result : Option Name → Lexemes
result None = []
result (Some n) = local n ∷ sign 61 ∷ []

unfoldable pub item_lexemes : Item → Lexemes
item_lexemes (tree.TypeDef n t) = local n ∷ sign 61 ∷ word (codes "type") ∷ type_lexemes t
item_lexemes (tree.Global n constant t x) = global n ∷ sign 61 ∷ word (global_kind constant) ∷ (type_lexemes t ++ init_lexemes x)
item_lexemes (tree.Declare n t ts) = word (codes "declare") ∷ (type_lexemes t ++ global n ∷ in_parentheses (map type_lexemes ts))
item_lexemes (tree.Head n t ps) = word (codes "define") ∷ (type_lexemes t ++ global n ∷ (in_parentheses (map parameter ps) ++ sign 123 ∷ []))
item_lexemes (tree.Label n) = label n ∷ []
item_lexemes (tree.Instr n o) = result n ++ op_lexemes o
item_lexemes tree.End = sign 125 ∷ []
