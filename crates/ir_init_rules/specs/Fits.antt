-- An initialiser fits a type, one element at a time.
use Rattle.std.specs.Prelude.{ℕ, zero, suc, Bool, true, false, ◌&&◌, List, [], ◌∷◌, Option, Some, None}
use Rattle.type_layout.specs.declared.ty.Ty.{Ty}
use Rattle.ir_tree.specs.declared.type_text.TyText.{TyText}
use Rattle.ir_tree.specs.declared.operand.Init.{Init}
use Rattle.ir_rules.specs.Types.{TypeDefs, expanded}
use Rattle.ir_rules.specs.Initialisers.{same_type, init_fits}

-- an element is of the type that is wanted, and fits it; where no type is wanted, there is no place for it
abbrev pub element_fits : TypeDefs → Option Ty → TyText × Init → Bool
element_fits defs None e = false
element_fits defs (Some t) e = same_type (expanded defs e.0) t && init_fits defs e.1 t

-- each element, by the types that are wanted in the places
abbrev pub elements_fit : TypeDefs → (ℕ → Option Ty) → List (TyText × Init) → Bool
elements_fit defs wanted [] = true
elements_fit defs wanted (e ∷ es) = element_fits defs (wanted zero) e && elements_fit defs (λ k. wanted (suc k)) es
