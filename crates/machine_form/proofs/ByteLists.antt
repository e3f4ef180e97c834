-- The bytes after a list of real changes determine the list.
use Rattle.std.proofs.Common.{◌≡◌, ◌≢◌, ◌⊎◌, ℕ, ◌+◌, ◌<◌, List, [], ◌∷◌, get_or, set, arith, sym, ◌∙◌, ap, refl, subst, inl, inr, get_or-set_other}
use Rattle.std.proofs.Common.{get_or-set_same}
use Rattle.std.proofs.lemmas.Bool.{cases_order}
use Rattle.std.proofs.Math.ListN.{length-set}
use Rattle.machine_form.specs.State.{with_bytes}
use Rattle.machine_form.proofs.ChangeShapes.{AreReal}

-- writes at greater addresses leave a byte
below_kept : (ws : List (ℕ × ℕ)) (low at : ℕ) (bytes start : List ℕ) → AreReal low start ws → at < low → get_or (with_bytes bytes ws) at 0 ≡ get_or bytes at 0
below_kept [] low at bytes start h l = refl
below_kept (w ∷ ws) low at bytes start h l =
    let ne : at ≢ w.0 = omega (arith, h.0) in
    below_kept ws (w.0 + 1) at (set bytes w.0 w.1) start h.3 (omega (arith, h.0)) ∙ get_or-set_other bytes w.0 at w.1 0 ne

-- what a write leaves real
real_after : (ws : List (ℕ × ℕ)) (low at byte : ℕ) (bytes : List ℕ) → AreReal low bytes ws → at < low → AreReal low (set bytes at byte) ws
real_after [] low at byte bytes h l = tt
real_after (w ∷ ws) low at byte bytes h l =
    let ne : w.0 ≢ at = omega (arith, h.0) in (
      h.0,
      omega (arith, h.1, length-set {A = ℕ}),
      (λ e. h.2 (sym (get_or-set_other bytes at w.0 byte 0 ne) ∙ e)),
      real_after ws (w.0 + 1) at byte bytes h.3 (omega (arith, h.0)),
    )

-- the byte at the first address of a list that really changes it
first_changed : (w : ℕ × ℕ) (ws : List (ℕ × ℕ)) (low : ℕ) (bytes : List ℕ) → AreReal low bytes (w ∷ ws) → get_or (with_bytes bytes (w ∷ ws)) w.0 0 ≡ w.1
first_changed w ws low bytes h =
    below_kept ws (w.0 + 1) w.0 (set bytes w.0 w.1) bytes h.3 (omega arith) ∙ get_or-set_same bytes w.0 w.1 0 h.1

same_pair : (x y : ℕ × ℕ) → x.0 ≡ y.0 → x.1 ≡ y.1 → x ≡ y
same_pair x y p q = λ i. (p i, q i)

-- the step: the two first pairs are equal, and so are the rests
same_rest : (x y : ℕ × ℕ) (xs ys : List (ℕ × ℕ)) (low high : ℕ) (bytes : List ℕ) → AreReal low bytes (x ∷ xs) → AreReal high bytes (y ∷ ys)
    → with_bytes bytes (x ∷ xs) ≡ with_bytes bytes (y ∷ ys)
    → ((low high : ℕ) (bytes : List ℕ) → AreReal low bytes xs → AreReal high bytes ys → with_bytes bytes xs ≡ with_bytes bytes ys → xs ≡ ys)
    → (x.0 ≡ y.0) ⊎ ((x.0 < y.0) ⊎ (y.0 < x.0)) → x ∷ xs ≡ y ∷ ys
same_rest x y xs ys low high bytes p q e rest (inr (inl l)) =
    absurd (p.2 (sym (ap (λ bs. get_or bs x.0 0) e ∙ below_kept (y ∷ ys) y.0 x.0 bytes bytes (omega arith, q.1, q.2, q.3) l) ∙ first_changed x xs low bytes p))
same_rest x y xs ys low high bytes p q e rest (inr (inr l)) =
    absurd (q.2 (sym (sym (ap (λ bs. get_or bs y.0 0) e) ∙ below_kept (x ∷ xs) x.0 y.0 bytes bytes (omega arith, p.1, p.2, p.3) l)
    ∙ first_changed y ys high bytes q))
same_rest x y xs ys low high bytes p q e rest (inl same) =
    let value : x.1 ≡ y.1 = sym (first_changed x xs low bytes p) ∙ ap (λ bs. get_or bs x.0 0) e ∙ ap (λ (at : ℕ). get_or (with_bytes bytes (y ∷ ys)) at 0) same
    ∙ first_changed y ys high bytes q in
    let pair : x ≡ y = same_pair x y same value in
    let P : ℕ × ℕ → Type 0 = λ z. with_bytes (set bytes x.0 x.1) xs ≡ with_bytes (set bytes z.0 z.1) ys in
    let left = real_after xs (x.0 + 1) x.0 x.1 bytes p.3 (omega arith) in
    let right = real_after ys (y.0 + 1) x.0 x.1 bytes q.3 (omega arith) in
    let tails : xs ≡ ys = rest (x.0 + 1) (y.0 + 1) (set bytes x.0 x.1) left right (subst P (sym pair) e) in
    λ i. pair i ∷ tails i

-- two lists of real changes of some bytes that give the same bytes are equal
pub determined : (xs ys : List (ℕ × ℕ)) (low high : ℕ) (bytes : List ℕ) → AreReal low bytes xs → AreReal high bytes ys
    → with_bytes bytes xs ≡ with_bytes bytes ys → xs ≡ ys
determined [] [] low high bytes p q e = refl
determined [] (y ∷ ys) low high bytes p q e = absurd (q.2 (ap (λ bs. get_or bs y.0 0) e ∙ first_changed y ys high bytes q))
determined (x ∷ xs) [] low high bytes p q e = absurd (p.2 (sym (ap (λ bs. get_or bs x.0 0) e) ∙ first_changed x xs low bytes p))
determined (x ∷ xs) (y ∷ ys) low high bytes p q e = same_rest x y xs ys low high bytes p q e (determined xs ys) (cases_order x.0 y.0)
