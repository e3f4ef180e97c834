-- The indices that a path goes over are among those that are written.
use Rattle.std.proofs.Common.{◌≡◌, List, [], ◌∷◌, Option, Some, None, All, Bor, sym, subst}
use Rattle.std.specs.List.{AllByRecursion as Each}
use Rattle.std.proofs.lemmas.List.Elements.{All-from_recursion, recursion_from_All}
use Rattle.type_layout.specs.declared.ty.Ty.{Ty, out-Ty}
use Rattle.ir_tree.specs.declared.type_text.TyText.{TyText}
use Rattle.ir_rules.specs.Types.{TypeDefs, expanded}
use Rattle.ir_rules.specs.Parts.{Typed}
use Rattle.ir_rules.specs.Paths.{part_of}
use Rattle.ir_rules.specs.Memory.{steps_from, steps_of}
use Rattle.ir_rules.specs.Memory as memory
use Rattle.ir_op_codes.specs.declared.paths.Step.{Step}
use Rattle.ir_op_codes.specs.Paths.{moves}
use Rattle.ir_op_codes.specs.Words.{IsFit}
use Rattle.ir_op_codes.specs.Settings.{AreFit}

rest-fit : (P : Typed → Type 0) (defs : TypeDefs) (is : List Typed) (t : Option Ty) → Each P is
    → Each (λ (p : Typed × memory.Step). P p.0) (steps_from defs is t)
rest-fit P defs [] t all = tt
rest-fit P defs (i ∷ is) None all = tt
rest-fit P defs (i ∷ is) (Some t) all = (all.0, rest-fit P defs is (part_of defs i (out-Ty t)) all.1)

steps-fit : (P : Typed → Type 0) (defs : TypeDefs) (of : TyText) (is : List Typed) → Each P is
    → Each (λ (p : Typed × memory.Step). P p.0) (steps_of defs of is)
steps-fit P defs of [] all = tt
steps-fit P defs of (i ∷ is) all = (all.0, rest-fit P defs is (Some (expanded defs of)) all.1)

moved-fit : (P : Typed → Type 0) (ms : List (Bor Typed × Step)) → Each (λ (p : Typed × memory.Step). P p.0) (moves ms)
    → Each (λ (m : Bor Typed × Step). P m.0.now) ms
moved-fit P [] all = tt
moved-fit P (m ∷ ms) all = (all.0, moved-fit P ms all.1)

pub path-fits : (defs : TypeDefs) (of : TyText) (is : List Typed) (ms : List (Bor Typed × Step)) → AreFit defs is → moves ms ≡ steps_of defs of is
    → All (λ (m : Bor Typed × Step). IsFit defs m.0.now.1) ms
path-fits defs of is ms all e =
    let P : Typed → Type 0 = λ v. IsFit defs v.1 in
    All-from_recursion (λ (m : Bor Typed × Step). P m.0.now) ms
    (moved-fit P ms (subst (Each (λ (p : Typed × memory.Step). P p.0)) (sym e) (steps-fit P defs of is (recursion_from_All P is all))))
