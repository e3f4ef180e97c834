-- Lists without repeats, and rising lists into which one more goes.
use Rattle.std.proofs.Common.{◌≡◌, ◌≢◌, ◌⊎◌, ◌↔◌, inl, inr, Bool, true, false, ◌||◌, true≢false, if◌then◌else◌, ℕ, zero, suc, ◌+◌, ◌-◌, ◌<◌, ◌≤◌, List, [], ◌∷◌}
use Rattle.std.proofs.Common.{◌++◌, length, get_or, Some, refl, sym, ap, ◌∙◌, arith, slice_get, length-append}
use mathlib.Core.Logic.{⊎_elim}
use Rattle.std.specs.List.{insert, list_any, Contains}
use Rattle.std.proofs.lemmas.Option.{slice_get_within}
use Rattle.indexmap.specs.IndexSet.{insert_key}
use Rattle.code_form.proofs.InstrEqual.{instr_eq, instr_same, equal_instrs}
use Rattle.std.proofs.lemmas.Bool.{cases_lt}
use Rattle.std.proofs.lemmas.Grind.{in_insert}
use Rattle.std.proofs.lemmas.List.{get_or_default}
use Rattle.std.proofs.lemmas.List.Edits.{length-insert, get_or-insert_below, get_or-insert_at, get_or-insert_above}
use Rattle.code_form.specs.declared.instr.Instr.{Instr}
use Rattle.code_form.specs.Variant.{AreDifferent, IsRising, IsNumbered, same, known, fresh}

-- ---- one more at the end

-- an element of a list with one more at its end
pub at-push : {X : Type 0} (xs : List X) (y : X) (k : ℕ) (x : X) → slice_get (xs ++ y ∷ []) k ≡ Some x → (slice_get xs k ≡ Some x) ⊎ ((k ≡ length xs) × (y ≡ x))
at-push [] y zero x e = inr (refl, grind arith)
at-push [] y (suc k) x e = cc
at-push (z ∷ xs) y zero x e = inl e
at-push (z ∷ xs) y (suc k) x e = ⊎_elim inl (λ p. inr (ap suc p.0, p.1)) (at-push xs y k x e)

pub different-push : (is : List Instr) (i : Instr) → AreDifferent is → ((k : ℕ) → slice_get is k ≢ Some i) → AreDifferent (is ++ i ∷ [])
different-push is i h absent j k x e f =
    ⊎_elim
    (λ p. ⊎_elim (λ q. h j k x p q) (λ q. absurd (absent j (p ∙ sym (ap Some q.1)))) (at-push is i k x f))
    (λ p. ⊎_elim (λ q. absurd (absent k (q ∙ sym (ap Some p.1)))) (λ q. p.0 ∙ sym q.0) (at-push is i k x f))
    (at-push is i j x e)

pub fresh-push : (original : Instr) (before : List Instr) (with : Instr) (number : ℕ) (after : List Instr) → after ≡ before ++ with ∷ [] → number ≡ length after
    → with ≢ original
    → ((k : ℕ) → slice_get before k ≢ Some with) → IsNumbered original before with number after
fresh-push original before with number after e n ne absent =
    let m : number ≡ length before + 1 = n ∙ ap length e ∙ length-append before (with ∷ []) in
    rw (m, e) (fresh ne absent)

-- ---- the number of a replacement

or_right : (x y : Bool) → y ≡ true → (x || y) ≡ true
or_right true y h = refl
or_right false y h = h

known_any : (is : List Instr) (i : Instr) (k : ℕ) → slice_get is k ≡ Some i → list_any (instr_eq i) is ≡ true
known_any [] i k e = cc
known_any (x ∷ xs) i zero e = let same : i ≡ x = cc in ap (λ b. b || list_any (instr_eq i) xs) (equal_instrs i x same)
known_any (x ∷ xs) i (suc k) e = or_right (instr_eq i x) (list_any (instr_eq i) xs) (known_any xs i k e)

-- what a set of instructions answers to one that it is given
pub numbered_insert : (original : Instr) (before after : List Instr) (with k : Instr) (at : ℕ) → with ≢ original → after ≡ insert_key instr_eq before with
    → slice_get after at ≡ Some k
    → instr_eq with k ≡ true → IsNumbered original before with (at + 1) after
numbered_insert original before after with k at ne is e h = by (list_any (instr_eq with) before) refl
  where
    found : slice_get after at ≡ Some with
    found = e ∙ ap Some (sym (instr_same with k h))

    by : (b : Bool) → list_any (instr_eq with) before ≡ b → IsNumbered original before with (at + 1) after
    by true p =
        let stays : after ≡ before = is ∙ ap (λ b. if b then before else before ++ with ∷ []) p in
        rw stays (known at ne (sym (ap (λ l. slice_get l at) stays) ∙ found))
    by false p =
        let grows : after ≡ before ++ with ∷ [] = is ∙ ap (λ b. if b then before else before ++ with ∷ []) p in
        let absent = λ (j : ℕ) (f : slice_get before j ≡ Some with). true≢false (sym (known_any before with j f) ∙ p) in
        ⊎_elim
        (λ f. absurd (absent at f))
        (λ f. fresh-push original before with (at + 1) after grows (let h = length-append before (with ∷ []) in omega (arith, f.0, ap length grows)) ne absent)
        (at-push before with at with (sym (ap (λ l. slice_get l at) grows) ∙ found))

pub different_numbered : {original with : Instr} {before after : List Instr} {n : ℕ} → IsNumbered original before with n after → AreDifferent before
    → AreDifferent after
different_numbered (same e) d = d
different_numbered (known k ne e) d = d
different_numbered {with = w} {before = is} (fresh ne absent) d = different-push is w d absent

pub given_numbered : {original with : Instr} {before after : List Instr} {n : ℕ} → IsNumbered original before with n after → n ≤ length after
given_numbered (same e) = omega arith
given_numbered {with = w} {before = is} (known k ne e) = let h = slice_get_within is k w e in omega arith
given_numbered {with = w} {before = is} (fresh ne absent) = let h = length-append is (w ∷ []) in omega arith

pub longer_numbered : {original with : Instr} {before after : List Instr} {n : ℕ} → IsNumbered original before with n after → length after ≤ length before + 1
longer_numbered (same e) = omega arith
longer_numbered (known k ne e) = omega arith
longer_numbered {with = w} {before = is} (fresh ne absent) = let h = length-append is (w ∷ []) in omega arith

pub zero_numbered : {original with : Instr} {before after : List Instr} {n : ℕ} → IsNumbered original before with n after → n ≡ 0 → after ≡ before
zero_numbered (same e) z = refl
zero_numbered (known k ne e) z = refl
zero_numbered (fresh ne absent) z = absurd (omega arith)

-- ---- one more in its place

-- the elements before a place are below a number that isn't in the list, where the last of them is not above it
pub all_below : (ns : List ℕ) (n at : ℕ) → IsRising ns → (Contains ns n → ⊥) → 0 < at → at ≤ length ns → get_or ns (at - 1) 0 ≤ n → (k : ℕ) → k < at
    → get_or ns k 0 < n
all_below ns n at up absent some within last k l =
    let no : get_or ns (at - 1) 0 ≢ n = (λ e. absent (at - 1, omega arith, get_or_default ns (at - 1) n 0 (omega arith) ∙ e)) in
    ⊎_elim
    (λ b. omega (arith, no, up k (at - 1) b (omega arith)))
    (λ (b : at - 1 ≤ k). let e : k ≡ at - 1 = omega (arith, b) in rw e (omega (arith, no)))
    (cases_lt k (at - 1))

-- where an element of a list with one more stood before
placed : (ns : List ℕ) (i n k d : ℕ) → i ≤ length ns
    → ((k < i) × (get_or (insert ns i n) k d ≡ get_or ns k d)) ⊎ (((k ≡ i) × (get_or (insert ns i n) k d ≡ n))
    ⊎ ((i < k) × (get_or (insert ns i n) k d ≡ get_or ns (k - 1) d)))
placed ns i n k d l =
    ⊎_elim
    (λ b. inl (b, get_or-insert_below ns i n d k b l))
    (λ a. ⊎_elim
    (λ b. let back : k ≡ k - 1 + 1 = omega arith in
    inr (inr (b, ap (λ j. get_or (insert ns i n) j d) back ∙ get_or-insert_above ns i n d (k - 1) (omega arith) l)))
    (λ e. let at : k ≡ i = omega arith in inr (inl (at, ap (λ j. get_or (insert ns i n) j d) at ∙ get_or-insert_at ns i n d l)))
    (cases_lt i k))
    (cases_lt k i)

pub rising-insert : (ns : List ℕ) (i n : ℕ) → IsRising ns → i ≤ length ns → ((k : ℕ) → k < i → get_or ns k 0 < n)
    → ((k : ℕ) → i ≤ k → k < length ns → n < get_or ns k 0) → IsRising (insert ns i n)
rising-insert ns i n up l low high j k lt within =
    let long = length-insert ns i n l in
    ⊎_elim
    (λ p. ⊎_elim
    (λ q. omega (arith, p.1, q.1, up j k lt (omega (arith, q.0))))
    (⊎_elim (λ q. omega (arith, p.1, q.1, low j p.0)) (λ q. omega (arith, p.1, q.1, low j p.0, high (k - 1) (omega (arith, q.0)) (omega (arith, q.0)))))
    (placed ns i n k 0 l))
    (⊎_elim
    (λ p. ⊎_elim
    (λ q. absurd (omega (arith, p.0, q.0)))
    (⊎_elim (λ q. absurd (omega (arith, p.0, q.0))) (λ q. omega (arith, p.1, q.1, high (k - 1) (omega (arith, q.0)) (omega (arith, q.0)))))
    (placed ns i n k 0 l))
    (λ p. ⊎_elim
    (λ q. absurd (omega (arith, p.0, q.0)))
    (⊎_elim (λ q. absurd (omega (arith, p.0, q.0))) (λ q. omega (arith, p.1, q.1, up (j - 1) (k - 1) (omega (arith, p.0)) (omega (arith, q.0)))))
    (placed ns i n k 0 l)))
    (placed ns i n j 0 l)

pub contains-insert : (ns : List ℕ) (i n : ℕ) → i ≤ length ns → (m : ℕ) → Contains (insert ns i n) m ↔ ((m ≡ n) ⊎ Contains ns m)
contains-insert ns i n l m =
    let long = length-insert ns i n l in (
      λ c. ⊎_elim
          (λ p. inr (c.0, omega (arith, p.0, c.1), sym p.1 ∙ c.2))
          (⊎_elim (λ p. inl (sym c.2 ∙ p.1)) (λ p. inr (c.0 - 1, omega (arith, p.0, c.1), sym p.1 ∙ c.2)))
          (placed ns i n c.0 m l),
      ⊎_elim
          (λ e. (i, omega arith, get_or-insert_at ns i n m l ∙ sym e))
          (λ c. (in_insert ns i c.0 n m l c.1 (sym c.2)).1),
    )

-- a rising list of numbers below a bound is no longer than the bound
at_least : (ns : List ℕ) → IsRising ns → (k : ℕ) → k < length ns → k ≤ get_or ns k 0
at_least ns up zero l = omega arith
at_least ns up (suc k) l = omega (arith, at_least ns up k (omega arith), up k (suc k) (omega arith) l)

pub rising_few : (ns : List ℕ) (bound : ℕ) → IsRising ns → ((m : ℕ) → Contains ns m → m < bound) → length ns ≤ bound
rising_few [] bound up below = omega arith
rising_few (n ∷ ns) bound up below =
    omega (
      arith,
      at_least (n ∷ ns) up (length ns) (omega arith),
      below (get_or (n ∷ ns) (length ns) 0) (
        length ns,
        omega arith,
        get_or_default (n ∷ ns) (length ns) _ 0 (omega arith),
      ),
    )
