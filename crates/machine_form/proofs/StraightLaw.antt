-- The law of equal changes, for changes that go on to the next place or end the run.
use Rattle.std.proofs.Common.{◌≡◌, ℕ, ◌+◌, ◌<◌, List, [], ◌∷◌, ◌++◌, length, get_or, Bool, true, false, Option, Some, None, cond, arith, sym, ◌∙◌, ap, refl}
use Rattle.std.proofs.Common.{inl, inr, get_or-set_same, length-append}
use Rattle.am_base.specs.declared.outcome.Ending.{Ending}
use Rattle.code_form.specs.declared.code.Code.{Code}
use Rattle.machine_form.specs.declared.change.Change.{Change}
use Rattle.machine_form.specs.declared.change.Control.TheVariants.{Next}
use Rattle.machine_form.specs.State.{State, with_writes}
use Rattle.machine_form.specs.Straight.{write_of, end_change}
use Rattle.machine_form.specs.After.{after_change, frame_after, output_after, ending_after}
use Rattle.machine_form.proofs.ChangeShapes.{IsSimple, IsStraightChange}
use Rattle.machine_form.proofs.ByteLists.{determined}

abbrev pub registers_have : List (Option ℕ) → Option ℕ → Type 0
registers_have registers None = Unit {0}
registers_have registers (Some r) = r < length registers

-- the write of a word into a register that is there determines the word's list
pub same_writes : (registers : List (Option ℕ)) (r : Option ℕ) (x y : ℕ) → registers_have registers r
    → with_writes registers (write_of r x) ≡ with_writes registers (write_of r y) → write_of r x ≡ write_of r y
same_writes registers None x y h e = refl
same_writes registers (Some r) x y h e =
    let some : Some x ≡ Some y = sym (get_or-set_same registers r (Some x) None h) ∙ ap (λ rs. get_or rs r None) e
    ∙ get_or-set_same registers r (Some y) None h in
    let same : x ≡ y = cc in
    λ i. (r, same i) ∷ []

same_put : (output : List ℕ) (a b : Option ℕ) → output_after output a ≡ output_after output b → a ≡ b
same_put output None None e = refl
same_put output None (Some b) e = absurd (omega (arith, ap length e, length-append output (b ∷ [])))
same_put output (Some a) None e = absurd (omega (arith, ap length e, length-append output (a ∷ [])))
same_put output (Some a) (Some b) e = ap Some (same_last output a b e)
  where
    same_last : (output : List ℕ) (a b : ℕ) → output ++ a ∷ [] ≡ output ++ b ∷ [] → a ≡ b
    same_last [] a b e = cc
    same_last (x ∷ xs) a b e = same_last xs a b (cc)

same_took : (n : ℕ) (a b : Bool) → n + cond a 1 0 ≡ n + cond b 1 0 → a ≡ b
same_took n true true e = refl
same_took n true false e = absurd (omega arith)
same_took n false true e = absurd (omega arith)
same_took n false false e = refl

simple_law : (code : Code) (s : State) (r : Option ℕ) (c d : Change) → registers_have s.running.registers r → IsSimple s r c → IsSimple s r d
    → after_change code s c ≡ after_change code s d → c ≡ d
simple_law code s r c d h p q e =
    let frames : frame_after code s c.writes Next ≡ frame_after code s d.writes Next =
    sym (ap (frame_after code s c.writes) p.goes_on) ∙ ap (λ (t : State). t.running) e ∙ ap (frame_after code s d.writes) q.goes_on in
    let same : with_writes s.running.registers (write_of r p.word) ≡ with_writes s.running.registers (write_of r q.word) =
    ap (with_writes s.running.registers) (sym p.written) ∙ ap (λ f. f.registers) frames ∙ ap (with_writes s.running.registers) q.written in
    let writes : c.writes ≡ d.writes = p.written ∙ same_writes s.running.registers r p.word q.word h same ∙ sym q.written in
    let bytes : c.bytes ≡ d.bytes = determined c.bytes d.bytes p.low q.low s.bytes p.real q.real (ap (λ (t : State). t.bytes) e) in
    let top : c.top ≡ d.top = ap (λ (t : State). t.top) e in
    let put : c.put ≡ d.put = same_put s.output c.put d.put (ap (λ (t : State). t.output) e) in
    let took : c.took ≡ d.took = same_took s.position c.took d.took (ap (λ (t : State). t.position) e) in
    let control : c.control ≡ d.control = p.goes_on ∙ sym q.goes_on in
    λ i. record { writes = writes i; bytes = bytes i; top = top i; put = put i; took = took i; control = control i }

simple_lives : (code : Code) (s : State) (r : Option ℕ) (c : Change) → IsSimple s r c → s.ending ≡ None → (after_change code s c).ending ≡ None
simple_lives code s r c p lives = ap (ending_after s) p.goes_on ∙ lives

ends_over : (code : Code) (s : State) (c : Change) (e : Ending) → c ≡ end_change s e → (after_change code s c).ending ≡ Some e
ends_over code s c e p = ap (λ (d : Change). (after_change code s d).ending) p

pub straight_law : (code : Code) (s : State) (r : Option ℕ) (c d : Change) → registers_have s.running.registers r → s.ending ≡ None → IsStraightChange s r c
    → IsStraightChange s r d
    → after_change code s c ≡ after_change code s d → c ≡ d
straight_law code s r c d h lives (inl p) (inl q) e = simple_law code s r c d h p q e
straight_law code s r c d h lives (inl p) (inr q) e =
    let a = simple_lives code s r c p lives in
    let b = ends_over code s d q.0 q.1 in
    let same : (after_change code s c).ending ≡ (after_change code s d).ending = ap (λ (t : State). t.ending) e in
    absurd (none_some (sym a ∙ same ∙ b))
  where
    none_some : {x : Ending} → None ≡ Some x → ⊥
    none_some e = cc
straight_law code s r c d h lives (inr p) (inl q) e =
    let a = ends_over code s c p.0 p.1 in
    let b = simple_lives code s r d q lives in
    let same : (after_change code s c).ending ≡ (after_change code s d).ending = ap (λ (t : State). t.ending) e in
    absurd (some_none (sym a ∙ same ∙ b))
  where
    some_none : {x : Ending} → Some x ≡ None → ⊥
    some_none e = cc
straight_law code s r c d h lives (inr p) (inr q) e =
    let a = ends_over code s c p.0 p.1 in
    let b = ends_over code s d q.0 q.1 in
    let same : (after_change code s c).ending ≡ (after_change code s d).ending = ap (λ (t : State). t.ending) e in
    let some : Some p.0 ≡ Some q.0 = sym a ∙ same ∙ b in
    let one : p.0 ≡ q.0 = cc in
    p.1 ∙ ap (end_change s) one ∙ sym q.1
