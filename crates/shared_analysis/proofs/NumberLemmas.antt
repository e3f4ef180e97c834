-- A table of numbers, filled class by class.
use Rattle.std.proofs.Common.{◌≡◌, ◌⊎◌, inl, inr, ℕ, zero, suc, ◌+◌, ◌<◌, ◌≤◌, List, [], ◌∷◌, ◌++◌, ◌∙◌, Some, ap, arith, get_or, length, set, slice_get, slice_index, subst, sym, take, ⊎_elim}
use Rattle.std.specs.List.{All, Contains, flat_map}
use Rattle.std.proofs.lemmas.Bool.{cases_eq}
use Rattle.std.proofs.lemmas.List.{length-append, get_or-set_same, get_or-set_other, take_more, flat_map_more}
use Rattle.std.proofs.lemmas.List.Elements.{All-head, All-tail, Contains-append_cases, Contains-append_left, Contains-append_right, Contains-push, Contains-push_cases}
use Rattle.std.proofs.lemmas.Option.{slice_get-get_or}
use Rattle.shared_analysis.specs.Ended.{IsClassOf}
use Rattle.shared_analysis.specs.declared.ended.Ended.{Ended}

-- the entries of the members so far, where the member at `at` gets the number
module _ (members old table : List ℕ) (at number : ℕ) (inside : at < length members) (within : get_or members at 0 < length table) where
  abbrev pub x : ℕ
  x = get_or members at 0

  put_cases : (k : ℕ) → Contains (take (at + 1) members) k → Contains (take at members) k ⊎ (x ≡ k)
  put_cases k h = Contains-push_cases (take at members) x k (subst (λ ys. Contains ys k) (take_more members at 0 inside) h)

  here : (k : ℕ) → x ≡ k → slice_index (set table x number) k ≡ number
  here k e = subst (λ j. slice_index (set table x number) j ≡ number) e (get_or-set_same table x number 0 within)

  pub put_more : ((k : ℕ) → Contains (take at members) k → slice_index table k ≡ number)
      → (k : ℕ) → Contains (take (at + 1) members) k → slice_index (set table x number) k ≡ number
  put_more put k h = ⊎_elim (here k)
      (λ ne. get_or-set_other table x k number 0 (λ e. ne (sym e)) ∙ ⊎_elim (put k) (λ e. absurd (ne e)) (put_cases k h))
      (cases_eq x k)

  pub kept_more : ((k : ℕ) → (Contains (take at members) k × (slice_index table k ≡ number)) ⊎ (slice_index table k ≡ slice_index old k))
      → (k : ℕ) → (Contains (take (at + 1) members) k × (slice_index (set table x number) k ≡ number)) ⊎ (slice_index (set table x number) k ≡ slice_index old k)
  kept_more kept k = ⊎_elim
      (λ e. inl (subst (λ ys. Contains ys k) (sym (take_more members at 0 inside)) (subst (Contains (take at members ++ x ∷ [])) e (Contains-push (take at members) x)), here k e))
      (λ ne. let same = get_or-set_other table x k number 0 (λ e. ne (sym e)) in ⊎_elim
      (λ b. inl (subst (λ ys. Contains ys k) (sym (take_more members at 0 inside)) (Contains-append_left (take at members) (x ∷ []) k b.0), same ∙ b.1))
      (λ e. inr (same ∙ e))
      (kept k))
      (cases_eq x k)

module _ {X : Type 0} (f : X → List ℕ) where
  pub member_in : (xs : List X) (i : ℕ) (d : X) (m : ℕ) → i < length xs → Contains (f (get_or xs i d)) m → Contains (flat_map f xs) m
  member_in [] i d m l h = absurd (omega (arith, l))
  member_in (x ∷ xs) zero d m l h = Contains-append_left (f x) (flat_map f xs) m h
  member_in (x ∷ xs) (suc i) d m l h = Contains-append_right (f x) (flat_map f xs) m (member_in xs i d m (omega (arith, l)) h)

  pub members_more : (xs : List X) (i : ℕ) (d : X) (m : ℕ) → i < length xs → Contains (flat_map f (take (i + 1) xs)) m
      → Contains (flat_map f (take i xs)) m ⊎ Contains (f (get_or xs i d)) m
  members_more xs i d m l h = Contains-append_cases (flat_map f (take i xs)) (f (get_or xs i d)) m
      (subst (λ ys. Contains ys m) (ap (flat_map f) (take_more xs i d l) ∙ sym (flat_map_more f [] (take i xs) (get_or xs i d))) h)

module _ (classes : List Ended) (i : ℕ) (x : Ended) (inside : i < length classes) (is : x ≡ get_or classes i x) (old new : List ℕ) where
  abbrev pub members_of : Ended → List ℕ
  members_of e = e.members

  pub class_more : ((m : ℕ) → Contains (members_of x) m → slice_index new m ≡ i)
      → ((m : ℕ) → (Contains (members_of x) m × (slice_index new m ≡ i)) ⊎ (slice_index new m ≡ slice_index old m))
      → ((m : ℕ) → Contains (flat_map members_of (take i classes)) m → IsClassOf classes m (slice_index old m))
      → (m : ℕ) → Contains (flat_map members_of (take (i + 1) classes)) m → IsClassOf classes m (slice_index new m)
  class_more put kept each m h =
      let own : Contains (members_of x) m → slice_index new m ≡ i → IsClassOf classes m (slice_index new m) = λ q e. record {
        class = x;
        is = ap (slice_get classes) e ∙ slice_get-get_or classes i x inside ∙ ap Some (sym is);
        member = q;
      } in
      ⊎_elim (λ a. ⊎_elim (λ (b : Contains (members_of x) m × (slice_index new m ≡ i)). own b.0 b.1) (λ e. subst (IsClassOf classes m) (sym e) (each m a)) (kept m))
      (λ b. let q = subst (λ y. Contains (members_of y) m) (sym is) b in own q (put m q))
      (members_more members_of classes i x m inside h)

pub few_classes : {X : Type 0} (f : X → List ℕ) (xs : List X) → All (λ x. 0 < length (f x)) xs → length xs ≤ length (flat_map f xs)
few_classes f [] h = omega arith
few_classes f (x ∷ xs) h =
    let a = All-head (λ y. 0 < length (f y)) x xs h in let b = few_classes f xs (All-tail (λ y. 0 < length (f y)) x xs h) in let l = length-append (f x) (flat_map f xs) in
    omega (arith, a, b, l)
