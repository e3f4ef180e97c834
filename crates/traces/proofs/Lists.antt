-- What a filter contains, and lists cut into parts by tests.
use Rattle.std.proofs.Common.{◌≡◌, ℕ, zero, suc, ◌+◌, ◌<◌, Bool, true, false, ◌&&◌, ◌||◌, cond, List, [], ◌∷◌, ◌++◌, length, refl, sym, ap, ◌∙◌, arith, ⊎_elim}
use Rattle.std.proofs.Common.{subst, inl, inr, ◌⊎◌}
use Rattle.std.specs.List.{filter, flat_map, list_any, count_by, sum_by, All, Contains}
use Rattle.std.specs.List.Sorted.{IsPermutation}
use Rattle.std.proofs.lemmas.Bool.{cases_Bool}
use Rattle.traces.proofs.Bools.{on_bool}
use Rattle.std.proofs.lemmas.List.Elements.{All-contains, All-contains_itself, All-filter, filter_passes}
use Rattle.std.proofs.lemmas.List.Sums.{sum_by-cons}
use Rattle.std.proofs.lemmas.List.Sorted.{IsPermutation-refl, IsPermutation-sym, IsPermutation-trans, IsPermutation-cons, IsPermutation-append_right}
use Rattle.std.proofs.lemmas.List.Sorted.{IsPermutation-middle}

module _ {X : Type 0} where
  pub contains_here : (x : X) (xs : List X) → Contains (x ∷ xs) x
  contains_here x xs = (0, omega arith, refl)

  pub contains_there : (x y : X) (xs : List X) → Contains xs y → Contains (x ∷ xs) y
  contains_there x y xs h = (suc h.0, (let l = h.1 in omega arith), h.2)

  at_cases : (x y : X) (xs : List X) (k : ℕ) → k < length (x ∷ xs) → Rattle.std.specs.Prelude.slice_index_or (x ∷ xs) k y ≡ y → (x ≡ y) ⊎ Contains xs y
  at_cases x y xs zero l e = inl e
  at_cases x y xs (suc k) l e = inr (k, omega arith, e)

  pub contains_cases : (x y : X) (xs : List X) → Contains (x ∷ xs) y → (x ≡ y) ⊎ Contains xs y
  contains_cases x y xs h = at_cases x y xs h.0 h.1 h.2

  pub from_filter : (p : X → Bool) (xs : List X) (x : X) → Contains (filter p xs) x → Contains xs x × (p x ≡ true)
  from_filter p xs x h = (
    All-contains (Contains xs) (filter p xs) x (All-filter p (Contains xs) xs (All-contains_itself xs)) h,
    All-contains (λ y. p y ≡ true) (filter p xs) x (filter_passes p xs) h,
  )

  pub filter_yes : (p : X → Bool) (x : X) (xs : List X) → p x ≡ true → filter p (x ∷ xs) ≡ x ∷ filter p xs
  filter_yes p x xs e = rw e

  pub filter_no : (p : X → Bool) (x : X) (xs : List X) → p x ≡ false → filter p (x ∷ xs) ≡ filter p xs
  filter_no p x xs e = rw e

  pub to_filter : (p : X → Bool) (xs : List X) (x : X) → Contains xs x → p x ≡ true → Contains (filter p xs) x
  to_filter p [] x h e = absurd (let l = h.1 in omega arith)
  to_filter p (y ∷ ys) x h e = ⊎_elim
      (λ s. rw (filter_yes p y ys (rw s e)) (rw s (contains_here x (filter p ys))))
      (λ c. ⊎_elim
      (λ t. rw (filter_yes p y ys t) (contains_there y x (filter p ys) (to_filter p ys x c e)))
      (λ f. rw (filter_no p y ys f) (to_filter p ys x c e))
      (cases_Bool (p y)))
      (contains_cases y x ys h)

  pub filter-filter : (p q : X → Bool) (xs : List X) → filter p (filter q xs) ≡ filter (λ x. q x && p x) xs
  filter-filter p q [] = refl
  filter-filter p q (x ∷ xs) = on_bool (q x)
      (λ t. on_bool (p x)
      (λ u. rw t (rw u (ap (λ ys. x ∷ ys) (filter-filter p q xs))))
      (λ u. rw t (rw u (filter-filter p q xs))))
      (λ f. rw f (filter-filter p q xs))

  pub count-cons : (p : X → Bool) (x : X) (xs : List X) → count_by p (x ∷ xs) ≡ cond (p x) 1 0 + count_by p xs
  count-cons p x xs = sum_by-cons (λ y. cond (p y) 1 0) x xs

  pub count_yes : (p : X → Bool) (x : X) (xs : List X) → p x ≡ true → count_by p (x ∷ xs) ≡ 1 + count_by p xs
  count_yes p x xs e = count-cons p x xs ∙ ap (λ b. cond b 1 0 + count_by p xs) e

  pub count_no : (p : X → Bool) (x : X) (xs : List X) → p x ≡ false → count_by p (x ∷ xs) ≡ count_by p xs
  count_no p x xs e = let h : count_by p (x ∷ xs) ≡ 0 + count_by p xs = (count-cons p x xs ∙ ap (λ b. cond b 1 0 + count_by p xs) e) in omega arith

  pub count_by-filter : (p q : X → Bool) (xs : List X) → count_by p (filter q xs) ≡ count_by (λ x. q x && p x) xs
  count_by-filter p q [] = refl
  count_by-filter p q (x ∷ xs) = on_bool (q x)
      (λ t. ap (count_by p) (filter_yes q x xs t) ∙ count-cons p x (filter q xs)
      ∙ ap (λ n. cond (p x) 1 0 + n) (count_by-filter p q xs)
      ∙ ap (λ b. cond (b && p x) 1 0 + count_by (λ y. q y && p y) xs) (sym t)
      ∙ sym (count-cons (λ y. q y && p y) x xs))
      (λ f. ap (count_by p) (filter_no q x xs f) ∙ count_by-filter p q xs
      ∙ sym (count_no (λ y. q y && p y) x xs (rw f)))

  pub any-filter : (p q : X → Bool) (xs : List X) → list_any p (filter q xs) ≡ list_any (λ x. q x && p x) xs
  any-filter p q [] = refl
  any-filter p q (x ∷ xs) = on_bool (q x)
      (λ t. rw t (ap (λ b. p x || b) (any-filter p q xs)))
      (λ f. rw f (any-filter p q xs))

  -- an element goes to the one part whose test it passes
  module _ (E : X → X → Bool) where
    abbrev pub cut : List X → List X → List X
    cut ys xs = flat_map (λ y. filter (E y) xs) ys

    none_cut : (x : X) (xs ys : List X) → count_by (λ y. E y x) ys ≡ 0 → cut ys (x ∷ xs) ≡ cut ys xs
    none_cut x xs [] h = refl
    none_cut x xs (y ∷ ys) h = on_bool (E y x)
        (λ t. absurd (let k : 1 + count_by (λ z. E z x) ys ≡ 0 = (sym (count_yes (λ z. E z x) y ys t) ∙ h) in omega arith))
        (λ f. let i : cut ys (x ∷ xs) ≡ cut ys xs = none_cut x xs ys (sym (count_no (λ z. E z x) y ys f) ∙ h) in
        rw (filter_no (E y) x xs f) (ap (λ zs. filter (E y) xs ++ zs) i))

    one_cut : (x : X) (xs ys : List X) → count_by (λ y. E y x) ys ≡ 1 → IsPermutation (x ∷ cut ys xs) (cut ys (x ∷ xs))
    one_cut x xs [] h = absurd (let k : 0 ≡ 1 = h in omega arith)
    one_cut x xs (y ∷ ys) h = on_bool (E y x)
        (λ t. let k : 1 + count_by (λ z. E z x) ys ≡ 1 = (sym (count_yes (λ z. E z x) y ys t) ∙ h) in
        let z : count_by (λ z. E z x) ys ≡ 0 = omega arith in
        let i : cut ys (x ∷ xs) ≡ cut ys xs = none_cut x xs ys z in
        rw (filter_yes (E y) x xs t) (subst (λ zs. IsPermutation (x ∷ (filter (E y) xs ++ cut ys xs)) ((x ∷ filter (E y) xs) ++ zs)) (sym i)
        (IsPermutation-refl (x ∷ (filter (E y) xs ++ cut ys xs)))))
        (λ f. let k : count_by (λ z. E z x) ys ≡ 1 = (sym (count_no (λ z. E z x) y ys f) ∙ h) in
        rw (filter_no (E y) x xs f)
        (IsPermutation-trans (x ∷ (filter (E y) xs ++ cut ys xs)) (filter (E y) xs ++ x ∷ cut ys xs) (filter (E y) xs ++ cut ys (x ∷ xs))
        (IsPermutation-sym (filter (E y) xs ++ x ∷ cut ys xs) (x ∷ (filter (E y) xs ++ cut ys xs)) (IsPermutation-middle (filter (E y) xs) x (cut ys xs)))
        (IsPermutation-append_right (filter (E y) xs) (x ∷ cut ys xs) (cut ys (x ∷ xs)) (one_cut x xs ys k))))

    nothing_cut : (ys : List X) → cut ys [] ≡ []
    nothing_cut [] = refl
    nothing_cut (y ∷ ys) = nothing_cut ys

    pub all_cut : (xs ys : List X) → ((x : X) → Contains xs x → count_by (λ y. E y x) ys ≡ 1) → IsPermutation xs (cut ys xs)
    all_cut [] ys h = rw nothing_cut (IsPermutation-refl [])
    all_cut (x ∷ xs) ys h =
        IsPermutation-trans (x ∷ xs) (x ∷ cut ys xs) (cut ys (x ∷ xs))
        (IsPermutation-cons x xs (cut ys xs) (all_cut xs ys (λ z c. h z (contains_there x z xs c))))
        (one_cut x xs ys (h x (contains_here x xs)))
