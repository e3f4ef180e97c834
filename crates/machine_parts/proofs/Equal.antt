-- The test of changes in the code is the one of their meanings, and equal changes have equal keys.
use Rattle.std.proofs.Common.{◌≡◌, ℕ, Bool, true, false, List, [], map, None, IsTrue, refl, sym, ap, ◌∙◌, subst}
use Rattle.std.proofs.lemmas.List.{get_or-map}
use Rattle.std.specs.Prelude.{◌↔◌}
use Rattle.change_classes.specs.Keyed.{HasEqualKeys}
use Rattle.code_form.specs.declared.code.Code.{Code}
use Rattle.traces.specs.Meanings.{IsSameTest}
use Rattle.machine_form.specs.declared.change.Change.{Change}
use Rattle.machine_form.specs.Machine.{machine_of}
use Rattle.machine_form.specs.Same.{same_change}
use Rattle.machine_form.proofs.SameTests.{machine_same}

same_truth : (r t : Bool) → (IsTrue r → t ≡ true) → (t ≡ true → IsTrue r) → r ≡ t
same_truth true t f g = sym (f refl)
same_truth false true f g = g refl
same_truth false false f g = refl

-- what tells equal changes apart doesn't depend on what is run
no_code : Code
no_code = record { funcs = []; instrs = []; results = []; memory = []; const_end = 0; stack_base = 0; signs = [] }

test : IsSameTest (machine_of no_code (record { chosen = []; mentioned = [] }) (λ p args. None))
test = machine_same no_code (record { chosen = []; mentioned = [] }) (λ p args. None)

pub equal_is : (r : Bool) (a b : Change) → IsTrue r ↔ (a ≡ b) → r ≡ same_change a b
equal_is r a b h = same_truth r (same_change a b) (λ t. subst (λ x. same_change a x ≡ true) (h.0 t) (test.complete a)) (λ e. h.1 (test.sound a b e))

pub keys_agree : (key : Change → ℕ) (changes : List Change) → HasEqualKeys same_change (map key changes) changes
keys_agree key changes i j d l m h = get_or-map key changes i d 0 l ∙ ap key (test.sound _ _ h) ∙ sym (get_or-map key changes j d 0 m)
