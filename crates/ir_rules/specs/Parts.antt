-- The parts of an item that the rules speak of: its types, operands, labels and constant indices.
use Rattle.std.specs.Prelude.{List, [], ◌∷◌, ◌++◌, map, flat_map, Option, Some, None, ℤ}
use Rattle.ir_tree.specs.declared.name.Name.{Name}
use Rattle.ir_tree.specs.declared.type_text.TyText.{TyText}
use Rattle.ir_tree.specs.declared.type_text.TyText.TheVariants as text
use Rattle.ir_tree.specs.declared.operand.Opd.{Opd}
use Rattle.ir_tree.specs.declared.operand.Opd.TheVariants as opd
use Rattle.ir_tree.specs.declared.operand.Init.{Init}
use Rattle.ir_tree.specs.declared.operand.Init.TheOpen.{Init-F}
use Rattle.ir_tree.specs.declared.operand.Init.TheFolds.{fold-Init}
use Rattle.ir_tree.specs.declared.op.Op.{Op}
use Rattle.ir_tree.specs.declared.op.Op.TheVariants as op
use Rattle.ir_tree.specs.declared.item.Item.{Item}
use Rattle.ir_tree.specs.declared.item.Item.TheVariants as item

-- an operand behind its type
abbrev pub Typed : Type 0
Typed = TyText × Opd

-- ---- operands

abbrev pub maybe : Option Typed → List Typed
maybe None = []
maybe (Some v) = v ∷ []

-- the operands of an instruction, each with the type that is written for it
abbrev pub op_operands : Op → List Typed
op_operands (op.Bin o t a b) = (t, a) ∷ (t, b) ∷ []
op_operands (op.Cmp p t a b) = (t, a) ∷ (t, b) ∷ []
op_operands (op.Select s c t a u b) = (s, c) ∷ (t, a) ∷ (u, b) ∷ []
op_operands (op.Cast c t a to) = (t, a) ∷ []
op_operands (op.Freeze t a) = (t, a) ∷ []
op_operands (op.Alloca t n) = maybe n
op_operands (op.Load t u a) = (u, a) ∷ []
op_operands (op.Store t a u b) = (t, a) ∷ (u, b) ∷ []
op_operands (op.Get of t a is) = (t, a) ∷ is
op_operands (op.Phi t es) = map (λ e. (t, e.0)) es
op_operands (op.Call t f xs) = xs
op_operands (op.Jump n) = []
op_operands (op.Branch t c a b) = (t, c) ∷ []
op_operands (op.Switch t a n cs) = (t, a) ∷ map (λ c. (c.0, c.1)) cs
op_operands (op.Ret v) = maybe v
op_operands op.Unreachable = []

-- the operands of an initialiser of a type, each with the type that is written before it
abbrev pub init_operands_step : Init-F (TyText → List Typed) → TyText → List Typed
init_operands_step (Init-F.One a) t = (t, a) ∷ []
init_operands_step (Init-F.Text s) t = []
init_operands_step (Init-F.Array es) t = flat_map (λ e. e.1 e.0) es
init_operands_step (Init-F.Struct es) t = flat_map (λ e. e.1 e.0) es

unfoldable pub init_operands : TyText → Init → List Typed
init_operands t i = fold-Init (TyText → List Typed) init_operands_step i t

-- the operands of an item, those of an initialiser included
abbrev pub operands_of : Item → List Typed
operands_of (item.Instr r o) = op_operands o
operands_of (item.Global n c t i) = init_operands t i
operands_of _ = []

-- the indices of a `getelementptr` constant
abbrev pub indices_of : Opd → List (TyText × ℤ)
indices_of (opd.Get g) = g.3
indices_of _ = []

-- all constant indices of an item
abbrev pub constant_indices : Item → List (TyText × ℤ)
constant_indices x = flat_map (λ (v : Typed). indices_of v.1) (operands_of x)

-- ---- types

-- the types that are written in an operand
abbrev pub opd_types : Opd → List TyText
opd_types (opd.Get g) = g.0 ∷ g.1 ∷ map (λ i. i.0) g.3
opd_types _ = []

-- the types that are written in an instruction outside of its operands
abbrev pub op_types : Op → List TyText
op_types (op.Cast c t a to) = to ∷ []
op_types (op.Alloca t n) = t ∷ []
op_types (op.Load t u a) = t ∷ []
op_types (op.Get of t a is) = of ∷ []
op_types (op.Phi t es) = t ∷ []
op_types (op.Call t f xs) = t ∷ []
op_types _ = []

abbrev pub own_types : Item → List TyText
own_types (item.TypeDef n t) = t ∷ []
own_types (item.Global n c t i) = t ∷ []
own_types (item.Declare n t ts) = t ∷ ts
own_types (item.Head n t ps) = t ∷ map (λ p. p.0) ps
own_types (item.Instr r o) = op_types o
own_types _ = []

-- the types of initialisers that are in no operand: those of the elements
abbrev pub init_types_step : Init-F (List TyText) → List TyText
init_types_step (Init-F.One a) = []
init_types_step (Init-F.Text s) = []
init_types_step (Init-F.Array es) = flat_map (λ e. e.0 ∷ e.1) es
init_types_step (Init-F.Struct es) = flat_map (λ e. e.0 ∷ e.1) es

unfoldable pub init_types : Init → List TyText
init_types = fold-Init (List TyText) init_types_step

abbrev pub element_types : Item → List TyText
element_types (item.Global n c t i) = init_types i
element_types _ = []

-- every type that is written in an item
abbrev pub types_of : Item → List TyText
types_of x = own_types x ++ element_types x ++ flat_map (λ (v : Typed). v.0 ∷ opd_types v.1) (operands_of x)

-- ---- types that have to be integers or pointers

-- the type of a result, where it isn't `void`
abbrev pub unless_void : TyText → List TyText
unless_void text.Void = []
unless_void t = t ∷ []

-- the types of an instruction outside of its operands that have to be scalar; the result of a call may be `void`
abbrev pub op_scalars : Op → List TyText
op_scalars (op.Cast c t a to) = to ∷ []
op_scalars (op.Load t u a) = t ∷ []
op_scalars (op.Phi t es) = t ∷ []
op_scalars (op.Call t f xs) = unless_void t
op_scalars _ = []

-- the types of parameters, results, operands, loads and stores, and of constant indices; a constant's base has a rule of its own, and an initialiser is no
-- operand
abbrev pub scalars_of : Item → List TyText
scalars_of (item.Declare n t ts) = unless_void t ++ ts
scalars_of (item.Head n t ps) = unless_void t ++ map (λ p. p.0) ps
scalars_of (item.Instr r o) = op_scalars o ++ map (λ v. v.0) (op_operands o) ++ map (λ i. i.0) (constant_indices (item.Instr r o))
scalars_of (item.Global n c t i) = map (λ v. v.0) (constant_indices (item.Global n c t i))
scalars_of _ = []

-- ---- labels

-- the labels that a `br` or `switch` may go to
abbrev pub branch_labels : Op → List Name
branch_labels (op.Jump n) = n ∷ []
branch_labels (op.Branch t c a b) = a ∷ b ∷ []
branch_labels (op.Switch t a n cs) = n ∷ map (λ c. c.2) cs
branch_labels _ = []

-- those, and the labels of a `phi`
abbrev pub op_labels : Op → List Name
op_labels (op.Phi t es) = map (λ e. e.1) es
op_labels o = branch_labels o

abbrev pub labels_of : Item → List Name
labels_of (item.Instr r o) = op_labels o
labels_of _ = []
