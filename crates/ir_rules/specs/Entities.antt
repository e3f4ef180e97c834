-- What the global names of a module stand for: variables, declared and defined functions are one space.
use Rattle.std.specs.Prelude.{ℕ, suc, Bool, true, false, nat_eq, List, [], ◌∷◌, map, Option, Some, None}
use Rattle.std.specs.Cmp.Lexicographic.{pointwise}
use Rattle.std.specs.Fmt.{decimal}
use Rattle.code_form.specs.declared.code.TyScalar.{TyScalar}
use Rattle.ir_tree.specs.declared.name.Name.{Name}
use Rattle.ir_tree.specs.declared.name.Name.TheVariants.{Text, Number}
use Rattle.ir_tree.specs.declared.type_text.TyText.{TyText}
use Rattle.ir_tree.specs.declared.item.Item.{Item}
use Rattle.ir_tree.specs.declared.item.Item.TheVariants as item
use Rattle.ir_rules.specs.declared.entity.Entity.{Entity}
use Rattle.ir_rules.specs.declared.entity.Entity.TheVariants.{Variable, Declared, Defined}
use Rattle.ir_rules.specs.declared.entity.Signature.{Signature}
use Rattle.ir_rules.specs.Types.{Kinds, result_kind, same_kind}

-- the bytes of a name; those of a number are its decimal digits
abbrev pub name_bytes : Name → List ℕ
name_bytes (Text s) = s
name_bytes (Number n) = decimal n

abbrev pub same_bytes : Name → Name → Bool
same_bytes a b = pointwise nat_eq (name_bytes a) (name_bytes b)

-- the names that items define as variables or functions
abbrev pub global_names : List Item → List Name
global_names [] = []
global_names (item.Global n c t i ∷ more) = n ∷ global_names more
global_names (item.Declare n t ts ∷ more) = n ∷ global_names more
global_names (item.Head n t ps ∷ more) = n ∷ global_names more
global_names (_ ∷ more) = global_names more

abbrev pub signature_of : Kinds → TyText → List TyText → Signature
signature_of kind t ts = record { params = map kind ts; result = result_kind kind t }

-- what the global names stand for, in text order, where so many functions are defined before; of a name that is defined twice the first one counts
abbrev pub entities_from : Kinds → ℕ → List Item → List (Name × Entity)
entities_from kind k [] = []
entities_from kind k (item.Global n c t i ∷ more) = (n, Variable) ∷ entities_from kind k more
entities_from kind k (item.Declare n t ts ∷ more) = (n, Declared (signature_of kind t ts)) ∷ entities_from kind k more
entities_from kind k (item.Head n t ps ∷ more) = (n, Defined k (signature_of kind t (map (λ p. p.0) ps))) ∷ entities_from kind (suc k) more
entities_from kind k (_ ∷ more) = entities_from kind k more

abbrev pub entities_of : Kinds → List Item → List (Name × Entity)
entities_of kind items = entities_from kind 0 items

-- ---- signatures

abbrev pub same_kinds : List (Option TyScalar) → List (Option TyScalar) → Bool
same_kinds ts us = pointwise same_kind ts us

abbrev pub same_result : Option (Option TyScalar) → Option (Option TyScalar) → Bool
same_result None None = true
same_result (Some t) (Some u) = same_kind t u
same_result _ _ = false
