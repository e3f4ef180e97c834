-- What the items of a function define, one after another.
use Rattle.std.specs.Prelude.{ℕ, ◌+◌, Bool, true, false, nat_lt, not, ◌||◌, List, [], ◌∷◌, ◌++◌, length, map, fold, Option, Some, None, is_some, if◌then◌else◌}
use Rattle.am_base.specs.declared.word.Width.TheVariants.{W1}
use Rattle.code_form.specs.declared.code.TyScalar.{TyScalar}
use Rattle.ir_tree.specs.declared.name.Name.{Name}
use Rattle.ir_tree.specs.declared.name.Name.TheVariants.{Text, Number}
use Rattle.ir_tree.specs.declared.type_text.TyText.{TyText}
use Rattle.ir_tree.specs.declared.type_text.TyText.TheVariants as text
use Rattle.ir_tree.specs.declared.op.Op.{Op}
use Rattle.ir_tree.specs.declared.op.Op.TheVariants as op
use Rattle.ir_tree.specs.declared.item.Item.{Item}
use Rattle.ir_tree.specs.declared.item.Item.TheVariants as item
use Rattle.ir_names.specs.Names.{defined, with_first}
use Rattle.ir_rules.specs.declared.local.Local.{Local}
use Rattle.ir_rules.specs.declared.local.Local.TheVariants.{Value, NoType, Block}
use Rattle.ir_rules.specs.declared.scope.Scope.{Scope}
use Rattle.ir_rules.specs.Types.{Kinds}

-- before the items of a function
abbrev pub empty_scope : Scope
empty_scope = record { table = []; types = []; starts = []; results = []; counter = 0; terminated = false; mixed = false; again = false; low = false }

-- ---- the counter of unnamed values

-- a written number moves it to that number plus one
abbrev pub counter_after : Name → ℕ → ℕ
counter_after (Text s) counter = counter
counter_after (Number n) counter = n + 1

-- a number below 2^32 can be a name
abbrev pub is_name : ℕ → Bool
is_name counter = nat_lt counter 4294967296

-- a written number below the counter
abbrev pub is_low : ℕ → Name → Bool
is_low counter (Text s) = false
is_low counter (Number n) = nat_lt n counter

-- ---- names

-- one name more: the first definition of a name counts
abbrev pub with_name : Scope → Name → Local → Scope
with_name s name what = record s {
  table = with_first s.table (name, what);
  counter = counter_after name s.counter;
  again = s.again || is_some (defined s.table name);
  low = s.low || is_low s.counter name;
}

-- the counter's number, where a name can be that number
abbrev pub with_number : Scope → Local → Scope
with_number s what = if is_name s.counter then with_name s (Number s.counter) what else s

abbrev pub with_name_or_number : Scope → Option Name → Local → Scope
with_name_or_number s (Some name) what = with_name s name what
with_name_or_number s None what = with_number s what

-- ---- parameters

abbrev pub with_register : Option TyScalar → Scope → Scope
with_register k s = record s { types = s.types ++ k ∷ [] }

abbrev pub with_parameter : Kinds → Scope → TyText × Option Name → Scope
with_parameter kind s p = with_register (kind p.0) (with_name_or_number s p.1 (Value (kind p.0) (length s.types)))

-- ---- blocks

abbrev pub with_start : Scope → Scope
with_start s = record s { starts = s.starts ++ length s.results ∷ []; terminated = false; mixed = false }

abbrev pub with_block : Scope → Option Name → Scope
with_block s label = with_start (with_name_or_number s label (Block (length s.starts)))

-- an instruction before the first label opens a block without one
abbrev pub with_first_block : Scope → Scope
with_first_block s = if nat_lt 0 (length s.starts) then s else with_block s None

-- ---- instructions

-- the type of an instruction's value, as it is written; nothing for an instruction without a value
abbrev pub value_type : Op → Option TyText
value_type (op.Bin o t a b) = Some t
value_type (op.Cmp p t a b) = Some (text.Int W1)
value_type (op.Select s c t a u b) = Some t
value_type (op.Cast c t a to) = Some to
value_type (op.Freeze t a) = Some t
value_type (op.Alloca t n) = Some text.Ptr
value_type (op.Load t u a) = Some t
value_type (op.Store t a u b) = None
value_type (op.Get t u a is) = Some text.Ptr
value_type (op.Phi t es) = Some t
value_type (op.Call text.Void f xs) = None
value_type (op.Call t f xs) = Some t
value_type (op.Jump n) = None
value_type (op.Branch t c a b) = None
value_type (op.Switch t a o cs) = None
value_type (op.Ret v) = None
value_type op.Unreachable = None

-- the integer or pointer that it stands for; to have no value counts as a type
abbrev pub kind_or_none : Kinds → Option TyText → Option (Option TyScalar)
kind_or_none kind None = None
kind_or_none kind (Some t) = Some (kind t)

abbrev pub value_kind : Kinds → Op → Option (Option TyScalar)
value_kind kind o = kind_or_none kind (value_type o)

abbrev pub has_value : Op → Bool
has_value o = is_some (value_type o)

abbrev pub is_call : Op → Bool
is_call (op.Call t f xs) = true
is_call _ = false

abbrev pub is_phi : Op → Bool
is_phi (op.Phi t es) = true
is_phi _ = false

abbrev pub is_terminator : Op → Bool
is_terminator (op.Jump n) = true
is_terminator (op.Branch t c a b) = true
is_terminator (op.Switch t a o cs) = true
is_terminator (op.Ret v) = true
is_terminator op.Unreachable = true
is_terminator _ = false

-- a value by the name that is written, and the value of a call by the counter's number where none is
abbrev pub with_value_name : Scope → Option Name → Bool → Local → Scope
with_value_name s (Some name) call what = with_name s name what
with_value_name s None true what = with_number s what
with_value_name s None false what = s

abbrev pub with_value : Scope → Option Name → Bool → Option TyScalar → Scope
with_value s name call k = with_register k (with_value_name s name call (Value k (length s.types)))

abbrev pub with_no_value : Scope → Option Name → Scope
with_no_value s (Some name) = with_name s name NoType
with_no_value s None = s

abbrev pub with_result : Scope → Option Name → Bool → Option (Option TyScalar) → Scope
with_result s name call (Some k) = with_value s name call k
with_result s name call None = with_no_value s name

-- the register of an instruction's value: the next one of its function
abbrev pub value_register : Scope → Op → Option ℕ
value_register s o = if has_value o then Some (length s.types) else None

abbrev pub with_instruction : Scope → Option ℕ → Op → Scope
with_instruction s register o = record s {
  results = s.results ++ register ∷ [];
  terminated = s.terminated || is_terminator o;
  mixed = s.mixed || not (is_phi o);
}

abbrev pub with_op : Kinds → Scope → Option Name → Op → Scope
with_op kind s name o = with_instruction (with_result (with_first_block s) name (is_call o) (value_kind kind o)) (value_register s o) o

-- ---- items

abbrev pub with_parts : Kinds → Scope → Item → Scope
with_parts kind s (item.Head n t ps) = fold (with_parameter kind) s ps
with_parts kind s (item.Label n) = with_block s (Some n)
with_parts kind s (item.Instr r o) = with_op kind s r o
with_parts kind s _ = s

-- `again` and `low` are of one item
abbrev pub with_item : Kinds → Scope → Item → Scope
with_item kind s x = with_parts kind (record s { again = false; low = false }) x

-- what the items of a function, from its head on, define
abbrev pub scope_of : Kinds → List Item → Scope
scope_of kind items = fold (with_item kind) empty_scope items

-- ---- the names that an item defines in its function

-- the result that an item defines: the written one, or the counter's number for the value of a call
abbrev pub result_name : Option Name → Op → List (Option Name)
result_name (Some n) o = Some n ∷ []
result_name None o = if is_call o then (if has_value o then None ∷ [] else []) else []

abbrev pub first_block_name : Scope → List (Option Name)
first_block_name before = if nat_lt 0 (length before.starts) then [] else None ∷ []

-- what an item defines in its function's space, in order, each with its name where one is written
abbrev pub written_names : Scope → Item → List (Option Name)
written_names before (item.Head n t ps) = map (λ p. p.1) ps
written_names before (item.Label n) = Some n ∷ []
written_names before (item.Instr r o) = first_block_name before ++ result_name r o
written_names before _ = []

-- the same with the numbers that the counter gives
abbrev pub numbered_names : ℕ → List (Option Name) → List Name
numbered_names counter [] = []
numbered_names counter (Some n ∷ more) = n ∷ numbered_names (counter_after n counter) more
numbered_names counter (None ∷ more) = if is_name counter then Number counter ∷ numbered_names (counter + 1) more else numbered_names counter more

-- one of the names is a number below the counter where it is written
abbrev pub has_low : ℕ → List (Option Name) → Bool
has_low counter [] = false
has_low counter (Some n ∷ more) = is_low counter n || has_low (counter_after n counter) more
has_low counter (None ∷ more) = if is_name counter then has_low (counter + 1) more else has_low counter more
