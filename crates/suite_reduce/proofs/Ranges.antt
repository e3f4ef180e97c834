-- Tests and lists over a, a + 1, .., a + n - 1.
use Rattle.std.proofs.Common.{◌≡◌, ℕ, zero, suc, ◌+◌, ◌<◌, ◌≤◌, Bool, true, false, ◌&&◌, ◌||◌, ◌==◌, not, cond, ◌∷◌, map, refl, sym, ap, ◌∙◌, arith, ⊎_elim, eqb-true, eq-eqb, ne_eqb}
use Rattle.std.specs.List.{list_any, range_with_len, position_or_len}
use Rattle.std.proofs.lemmas.Bool.{false≢true, or_cases, or_left, or_right, cases_eq}
use Rattle.traces.proofs.Bools.{on_bool, same_bools}

and_no : (b : Bool) → (b && false) ≡ false
and_no true = refl
and_no false = refl

pub any_in_range : (p : ℕ → Bool) (a n : ℕ) → list_any p (range_with_len a n) ≡ true → (k : ℕ) × (a ≤ k) × (k < a + n) × (p k ≡ true)
any_in_range p a zero h = absurd (false≢true h)
any_in_range p a (suc n) h = ⊎_elim
    (λ t. (a, omega arith, omega arith, t))
    (λ r. let w = any_in_range p (a + 1) n r in let l = w.1 in let u = w.2 in (w.0, omega arith, omega arith, w.3))
    (or_cases (p a) (list_any p (range_with_len (a + 1) n)) h)

pub any_from_range : (p : ℕ → Bool) (a n k : ℕ) → a ≤ k → k < a + n → p k ≡ true → list_any p (range_with_len a n) ≡ true
any_from_range p a zero k l h e = absurd (omega arith)
any_from_range p a (suc n) k l h e = ⊎_elim
    (λ (s : a ≡ k). or_left (p a) (list_any p (range_with_len (a + 1) n)) (ap p s ∙ e))
    (λ (d : a ≡ k → ⊥). or_right (p a) (list_any p (range_with_len (a + 1) n)) (any_from_range p (a + 1) n k (omega (arith, d)) (omega arith) e))
    (cases_eq a k)

pub any_same : (p q : ℕ → Bool) (a n : ℕ) → ((k : ℕ) → a ≤ k → k < a + n → p k ≡ q k) → list_any p (range_with_len a n) ≡ list_any q (range_with_len a n)
any_same p q a zero h = refl
any_same p q a (suc n) h =
    ap (λ b. b || list_any p (range_with_len (a + 1) n)) (h a (omega arith) (omega arith))
    ∙ ap (λ b. q a || b) (any_same p q (a + 1) n (λ k l u. h k (omega arith) (omega arith)))

pub map_same : {X : Type 0} (f g : ℕ → X) (a n : ℕ) → ((k : ℕ) → a ≤ k → k < a + n → f k ≡ g k) → map f (range_with_len a n) ≡ map g (range_with_len a n)
map_same f g a zero h = refl
map_same f g a (suc n) h =
    ap (λ x. x ∷ map f (range_with_len (a + 1) n)) (h a (omega arith) (omega arith))
    ∙ ap (λ xs. g a ∷ xs) (map_same f g (a + 1) n (λ k l u. h k (omega arith) (omega arith)))

-- the first number that passes, and none before it does
pub first_in_range : (p : ℕ → Bool) (a n : ℕ) → list_any p (range_with_len a n) ≡ true
    → (d : ℕ) × (d < n) × (p (a + d) ≡ true) × (list_any p (range_with_len a d) ≡ false)
first_in_range p a zero h = absurd (false≢true h)
first_in_range p a (suc n) h = on_bool (p a)
    (λ t. let same : a + 0 ≡ a = omega arith in (0, omega arith, ap p same ∙ t, refl))
    (λ f. let rest : list_any p (range_with_len (a + 1) n) ≡ true = sym (ap (λ b. b || list_any p (range_with_len (a + 1) n)) f) ∙ h in
    let w = first_in_range p (a + 1) n rest in let l = w.1 in let same : a + suc w.0 ≡ a + 1 + w.0 = omega arith in
    (suc w.0, omega arith, ap p same ∙ w.2, ap (λ b. b || list_any p (range_with_len (a + 1) w.0)) f ∙ w.3))

both_more : (x t : ℕ) → (1 + x == suc t) ≡ (x == t)
both_more x t = same_bools (1 + x == suc t) (x == t)
    (λ e. let s : 1 + x ≡ suc t = eqb-true (1 + x) (suc t) e in eq-eqb x t (omega (arith, s)))
    (λ e. let s : x ≡ t = eqb-true x t e in eq-eqb (1 + x) (suc t) (omega (arith, s)))

-- whether a number is the place of the first that passes
is_first : (p : ℕ → Bool) (a n t : ℕ) → t < n → (position_or_len p (range_with_len a n) == t) ≡ (p (a + t) && not (list_any p (range_with_len a t)))
is_first p a zero t h = absurd (omega arith)
is_first p a (suc n) zero h =
    let same : a + 0 ≡ a = omega arith in let rest = position_or_len p (range_with_len (a + 1) n) in on_bool (p a)
    (λ t. ap (λ b. cond (not b) (1 + rest) 0 == 0) t ∙ sym (ap (λ b. b && true) (ap p same ∙ t)))
    (λ f. ap (λ b. cond (not b) (1 + rest) 0 == 0) f ∙ ne_eqb (1 + rest) 0 (λ e. omega arith) ∙ sym (ap (λ b. b && true) (ap p same ∙ f)))
is_first p a (suc n) (suc t) h =
    let same : a + suc t ≡ a + 1 + t = omega arith in let rest = position_or_len p (range_with_len (a + 1) n) in
    let more = list_any p (range_with_len (a + 1) t) in on_bool (p a)
    (λ y. ap (λ b. cond (not b) (1 + rest) 0 == suc t) y ∙ ne_eqb 0 (suc t) (λ e. omega arith) ∙ sym (ap (λ b. p (a + suc t) && not (b || more)) y ∙ and_no (p (a + suc t))))
    (λ f. ap (λ b. cond (not b) (1 + rest) 0 == suc t) f ∙ both_more rest t ∙ is_first p (a + 1) n t (omega arith)
    ∙ sym (ap (λ b. p (a + suc t) && not (b || more)) f ∙ ap (λ j. p j && not more) same))

pub is_first_of_all : (p : ℕ → Bool) (n t : ℕ) → t < n → (position_or_len p (range_with_len 0 n) == t) ≡ (p t && not (list_any p (range_with_len 0 t)))
is_first_of_all p n t h = let same : 0 + t ≡ t = omega arith in is_first p 0 n t h ∙ ap (λ j. p j && not (list_any p (range_with_len 0 t))) same

-- the place of the first that passes
pub place_is : (p : ℕ → Bool) (a n t : ℕ) → t ≤ n → ((k : ℕ) → a ≤ k → k < a + t → p k ≡ false) → (t < n → p (a + t) ≡ true)
    → position_or_len p (range_with_len a n) ≡ t
place_is p a zero t h none some = omega arith
place_is p a (suc n) zero h none some =
    let same : a + 0 ≡ a = omega arith in let yes : p a ≡ true = sym (ap p same) ∙ some (omega arith) in rw yes
place_is p a (suc n) (suc t) h none some =
    let no : p a ≡ false = none a (omega arith) (omega arith) in let same : a + suc t ≡ a + 1 + t = omega arith in
    let rest : position_or_len p (range_with_len (a + 1) n) ≡ t = place_is p (a + 1) n t (omega arith) (λ k l u. none k (omega arith) (omega arith))
    (λ l. sym (ap p same) ∙ some (omega arith)) in
    rw no (omega (arith, rest))
