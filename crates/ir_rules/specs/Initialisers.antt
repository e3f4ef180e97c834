-- The rule on initialisers.
use Rattle.std.specs.Prelude.{ℕ, nat_eq, Bool, true, false, not, ◌&&◌, List, [], ◌∷◌, length, Option, Some}
use Rattle.am_base.specs.declared.word.Width.TheVariants.{W1, W8}
use Rattle.code_form.specs.declared.code.TyScalar.{TyScalar}
use Rattle.code_form.specs.declared.code.TyScalar.TheVariants as scalar
use Rattle.type_layout.specs.declared.ty.Ty.{Ty}
use Rattle.type_layout.specs.declared.ty.Ty.{out-Ty}
use Rattle.type_layout.specs.declared.ty.Ty.TheOpen.{Ty-F}
use Rattle.type_layout.specs.declared.ty.Ty.TheFolds.{fold-Ty}
use Rattle.ir_tree.specs.declared.type_text.TyText.{TyText}
use Rattle.ir_tree.specs.declared.operand.Opd.{Opd}
use Rattle.ir_tree.specs.declared.operand.Opd.TheVariants as opd
use Rattle.ir_tree.specs.declared.operand.Init.{Init}
use Rattle.ir_tree.specs.declared.operand.Init.TheOpen.{Init-F}
use Rattle.ir_tree.specs.declared.operand.Init.TheFolds.{fold-Init}
use Rattle.ir_tree.specs.declared.item.Item.{Item}
use Rattle.ir_tree.specs.declared.item.Item.TheVariants as item
use Rattle.ir_rules.specs.Types.{TypeDefs, expanded, scalar_of, same_width, all_agree, same_kind, is_integer}
use Rattle.ir_rules.specs.Settings.{Setting}

-- ---- types of one structure

abbrev pub same_type_step : Ty-F (Ty → Bool) → Ty-F Ty → Bool
same_type_step (Ty-F.Int v) (Ty-F.Int w) = same_width v w
same_type_step Ty-F.Ptr Ty-F.Ptr = true
same_type_step (Ty-F.Array m of) (Ty-F.Array n t) = nat_eq m n && of t
same_type_step (Ty-F.Struct tests) (Ty-F.Struct ts) = all_agree tests ts
same_type_step _ _ = false

unfoldable pub same_type : Ty → Ty → Bool
same_type t u = fold-Ty (Ty → Bool) (λ x u. same_type_step x (out-Ty u)) t u

-- ---- InitDiffers: an initialiser doesn't fit its type

-- a number fits an integer, `true` and `false` an i1, `null`, a global and a `getelementptr` constant a pointer, and `zeroinitializer`, `undef` and `poison`
-- every type; a local fits none
abbrev pub constant_fits : Option TyScalar → Opd → Bool
constant_fits k (opd.Local n) = false
constant_fits k (opd.Global n) = same_kind k (Some scalar.Ptr)
constant_fits k (opd.Number z) = is_integer k
constant_fits k opd.True = same_kind k (Some (scalar.Int W1))
constant_fits k opd.False = same_kind k (Some (scalar.Int W1))
constant_fits k opd.Null = same_kind k (Some scalar.Ptr)
constant_fits k opd.Undef = true
constant_fits k opd.Poison = true
constant_fits k opd.Zero = true
constant_fits k (opd.Get g) = same_kind k (Some scalar.Ptr)

-- a text fits an array of as many i8
abbrev pub text_fits : List ℕ → Ty-F Ty → Bool
text_fits s (Ty-F.Array n of) = nat_eq (length s) n && same_kind (scalar_of of) (Some (scalar.Int W8))
text_fits s _ = false

-- an element by its type and its test: it is of the type that is wanted, and fits it
abbrev pub element_fits : TypeDefs → TyText × (Ty → Bool) → Ty → Bool
element_fits defs e t = same_type (expanded defs e.0) t && e.1 t

abbrev pub each_fits : TypeDefs → List (TyText × (Ty → Bool)) → Ty → Bool
each_fits defs [] of = true
each_fits defs (e ∷ es) of = element_fits defs e of && each_fits defs es of

abbrev pub array_fits : TypeDefs → List (TyText × (Ty → Bool)) → Ty-F Ty → Bool
array_fits defs es (Ty-F.Array n of) = nat_eq (length es) n && each_fits defs es of
array_fits defs es _ = false

abbrev pub fields_fit : TypeDefs → List (TyText × (Ty → Bool)) → List Ty → Bool
fields_fit defs [] [] = true
fields_fit defs (e ∷ es) (t ∷ ts) = element_fits defs e t && fields_fit defs es ts
fields_fit defs _ _ = false

abbrev pub struct_fits : TypeDefs → List (TyText × (Ty → Bool)) → Ty-F Ty → Bool
struct_fits defs es (Ty-F.Struct ts) = fields_fit defs es ts
struct_fits defs es _ = false

abbrev pub fits_step : TypeDefs → Init-F (Ty → Bool) → Ty → Bool
fits_step defs (Init-F.One a) t = constant_fits (scalar_of t) a
fits_step defs (Init-F.Text s) t = text_fits s (out-Ty t)
fits_step defs (Init-F.Array es) t = array_fits defs es (out-Ty t)
fits_step defs (Init-F.Struct es) t = struct_fits defs es (out-Ty t)

-- an initialiser fits a type
unfoldable pub init_fits : TypeDefs → Init → Ty → Bool
init_fits defs i t = fold-Init (Ty → Bool) (fits_step defs) i t

abbrev pub init_differs : Setting → Item → Bool
init_differs s (item.Global n c t i) = not (init_fits s.types i (expanded s.types t))
init_differs s _ = false
