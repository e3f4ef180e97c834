-- Types of a text: the names in them, what they stand for, and how large they are.
use Rattle.std.specs.Prelude.{ℕ, zero, suc, nat_lt, Bool, true, false, not, ◌&&◌, ◌||◌, List, [], ◌∷◌, ◌++◌, length, Option, Some, None, is_some, if◌then◌else◌}
use Rattle.std.specs.List.{list_any}
use Rattle.am_base.specs.declared.limits.TheConstants.{MAX_TYPE_BYTES}
use Rattle.am_base.specs.declared.word.Width.{Width}
use Rattle.am_base.specs.declared.word.Width.TheVariants.{W1, W8, W16, W32, W64}
use Rattle.code_form.specs.declared.code.TyScalar.{TyScalar}
use Rattle.code_form.specs.declared.code.TyScalar.TheVariants as scalar
use Rattle.type_layout.specs.declared.ty.Ty.{Ty}
use Rattle.type_layout.specs.declared.ty.Ty.TheVariants as ty
use Rattle.type_layout.specs.Types.{Layout, layout_of}
use Rattle.ir_tree.specs.declared.name.Name.{Name}
use Rattle.ir_tree.specs.declared.type_text.TyText.{TyText}
use Rattle.ir_tree.specs.declared.type_text.TyText.TheVariants as text
use Rattle.ir_tree.specs.declared.type_text.TyText.TheOpen.{TyText-F}
use Rattle.ir_tree.specs.declared.type_text.TyText.TheFolds.{fold-TyText}
use Rattle.ir_tree.specs.declared.item.Item.{Item}
use Rattle.ir_tree.specs.declared.item.Item.TheVariants as item
use Rattle.ir_names.specs.Names.{same_name, defined}

-- the type definitions of a module, in text order; of a name that is defined twice the first one counts
abbrev pub TypeDefs : Type 0
TypeDefs = List (Name × TyText)

abbrev pub type_defs : List Item → TypeDefs
type_defs [] = []
type_defs (item.TypeDef n t ∷ more) = (n, t) ∷ type_defs more
type_defs (_ ∷ more) = type_defs more

-- ---- the names in a type

abbrev pub joined : List (List Name) → List Name
joined [] = []
joined (ns ∷ more) = ns ++ joined more

-- one level of a type, with the names of each part in its place
abbrev pub names_step : TyText-F (List Name) → List Name
names_step (TyText-F.Int w) = []
names_step TyText-F.Ptr = []
names_step TyText-F.Void = []
names_step (TyText-F.Array n of) = of
names_step (TyText-F.Struct fields) = joined fields
names_step (TyText-F.Named n) = n ∷ []

-- an array of length 0 has the names of its element's type too
unfoldable pub names_in : TyText → List Name
names_in = fold-TyText (List Name) names_step

-- a type names no type definition
abbrev pub has_unknown : TypeDefs → TyText → Bool
has_unknown defs t = list_any (λ n. not (is_some (defined defs n))) (names_in t)

-- ---- a definition that contains itself

abbrev pub names_of : Option TyText → List Name
names_of None = []
names_of (Some t) = names_in t

-- the definition of one name leads to another name in so many steps or fewer
unfoldable pub leads : TypeDefs → ℕ → Name → Name → Bool
leads defs zero a b = false
leads defs (suc k) a b = list_any (λ c. same_name c b || leads defs k c b) (names_of (defined defs a))

-- the definition of a name contains that name, through arrays, structs and other definitions; no way is longer than there are definitions
abbrev pub holds_itself : TypeDefs → Name → Bool
holds_itself defs n = leads defs (length defs) n n

-- ---- what a type stands for

abbrev pub empty : Ty
empty = ty.Struct []

-- one level of a type, with what each part stands for in its place, and what the names stand for
abbrev pub expand_step : (Name → Ty) → TyText-F Ty → Ty
expand_step named (TyText-F.Int w) = ty.Int w
expand_step named TyText-F.Ptr = ty.Ptr
expand_step named TyText-F.Void = empty
expand_step named (TyText-F.Array n of) = ty.Array n of
expand_step named (TyText-F.Struct fields) = ty.Struct fields
expand_step named (TyText-F.Named n) = named n

abbrev pub expand_by : (Name → Ty) → TyText → Ty
expand_by named = fold-TyText Ty (expand_step named)

abbrev pub body_or_empty : (TyText → Ty) → Option TyText → Ty
body_or_empty expand None = empty
body_or_empty expand (Some t) = expand t

-- what a name stands for, where names are looked through so many times; one without a definition, and one whose definition contains itself, count as `{}`
unfoldable pub named_type : TypeDefs → ℕ → Name → Ty
named_type defs zero n = empty
named_type defs (suc k) n = if holds_itself defs n then empty else body_or_empty (expand_by (named_type defs k)) (defined defs n)

-- a type with every name replaced by what it stands for
abbrev pub expanded : TypeDefs → TyText → Ty
expanded defs = expand_by (named_type defs (length defs))

abbrev pub layout_in : TypeDefs → TyText → Layout
layout_in defs t = layout_of (expanded defs t)

-- the size of the type or of a type inside it is over the memory
abbrev pub is_large : TypeDefs → TyText → Bool
is_large defs t = nat_lt MAX_TYPE_BYTES (layout_in defs t).most

-- ---- integers and pointers

abbrev pub scalar_of : Ty → Option TyScalar
scalar_of (ty.Int w) = Some (scalar.Int w)
scalar_of ty.Ptr = Some scalar.Ptr
scalar_of _ = None

-- the integer or pointer that a type stands for; nothing for `void`, an array or a struct
abbrev pub kind_of : TypeDefs → TyText → Option TyScalar
kind_of defs (text.Int w) = Some (scalar.Int w)
kind_of defs text.Ptr = Some scalar.Ptr
kind_of defs (text.Named n) = scalar_of (named_type defs (length defs) n)
kind_of defs _ = None

-- what tells the integer or pointer that a type stands for
abbrev pub Kinds : Type 0
Kinds = TyText → Option TyScalar

-- the same of the type of a result, where `void` is no type
abbrev pub result_kind : Kinds → TyText → Option (Option TyScalar)
result_kind kind text.Void = None
result_kind kind t = Some (kind t)

-- ---- equality, as tests

abbrev pub same_width : Width → Width → Bool
same_width W1 W1 = true
same_width W8 W8 = true
same_width W16 W16 = true
same_width W32 W32 = true
same_width W64 W64 = true
same_width _ _ = false

abbrev pub same_scalar : TyScalar → TyScalar → Bool
same_scalar (scalar.Int v) (scalar.Int w) = same_width v w
same_scalar scalar.Ptr scalar.Ptr = true
same_scalar _ _ = false

abbrev pub same_kind : Option TyScalar → Option TyScalar → Bool
same_kind None None = true
same_kind (Some t) (Some u) = same_scalar t u
same_kind _ _ = false

abbrev pub is_integer : Option TyScalar → Bool
is_integer (Some (scalar.Int w)) = true
is_integer _ = false

-- each test holds of the element in its place, and there are as many of both
abbrev pub all_agree : {X : Type 0} → List (X → Bool) → List X → Bool
all_agree [] [] = true
all_agree (test ∷ tests) (x ∷ xs) = test x && all_agree tests xs
all_agree _ _ = false
