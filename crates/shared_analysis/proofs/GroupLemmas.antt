-- The classes of an analysis that is cut off at a step are the classes there.
use Rattle.std.proofs.Common.{◌≡◌, ◌∙◌, ℕ, suc, ◌<◌, ◌≤◌, List, [], ◌∷◌, ap, arith, length, refl, subst, sym, take, ⊎_elim}
use Rattle.std.specs.List.{AllPairs, Contains, filter}
use Rattle.std.proofs.lemmas.Bool.{cases_lt}
use Rattle.std.proofs.lemmas.List.{length-take-le, take_all}
use Rattle.std.proofs.lemmas.List.Kept.{AllPairs-from_increasing, IsStrictlyIncreasing-filter}
use Rattle.traces.specs.Meanings.{IsSameTest}
use Rattle.traces.specs.Trace.{Trial, trace, within}
use Rattle.traces.specs.Together.{below, together, class_of}
use Rattle.traces.proofs.Below.{below_below, has_below, IsStrictlyIncreasing-below}
use Rattle.traces.proofs.Budgets.{trace_within}
use Rattle.traces.proofs.Lists.{contains_here, contains_there, contains_cases, from_filter, to_filter}
use Rattle.traces.proofs.Together.{AreTogether-from, together_from}
use Rattle.machine_form.specs.declared.change.Change.{Change}
use Rattle.machine_form.specs.State.{State}
use Rattle.shared_analysis.specs.Ended.{IsEnded}
use Rattle.shared_analysis.specs.Groups.{IsGroup}
use Rattle.shared_analysis.specs.declared.ended.Ended.{Ended}

abbrev Rises : List ℕ → Type 0
Rises xs = AllPairs (λ x y. x < y) xs

least : (x : ℕ) (xs : List ℕ) → Rises (x ∷ xs) → (k : ℕ) → Contains xs k → x < k
least x xs r k c = subst (λ y. x < y) c.2 (r 0 (suc c.0) k (omega arith) (let l = c.1 in omega arith))

later : (x : ℕ) (xs : List ℕ) → Rises (x ∷ xs) → Rises xs
later x xs r i j d lt l = r (suc i) (suc j) d (omega arith) (omega arith)

same_elements : (xs ys : List ℕ) → Rises xs → Rises ys → ((k : ℕ) → Contains xs k → Contains ys k) → ((k : ℕ) → Contains ys k → Contains xs k) → xs ≡ ys
same_elements [] [] a b p q = refl
same_elements [] (y ∷ ys) a b p q = absurd (let c = q y (contains_here y ys) in let l = c.1 in omega arith)
same_elements (x ∷ xs) [] a b p q = absurd (let c = p x (contains_here x xs) in let l = c.1 in omega arith)
same_elements (x ∷ xs) (y ∷ ys) a b p q =
    let low : y ≤ x = ⊎_elim (λ (e : y ≡ x). omega (arith, e)) (λ c. let l = least y ys b x c in omega arith) (contains_cases y x ys (p x (contains_here x xs))) in
    let high : x ≤ y = ⊎_elim (λ (e : x ≡ y). omega (arith, e)) (λ c. let l = least x xs a y c in omega arith) (contains_cases x y xs (q y (contains_here y ys))) in
    let same : x ≡ y = omega (arith, low, high) in
    let rest : xs ≡ ys = same_elements xs ys (later x xs a) (later y ys b)
    (λ k c. ⊎_elim (λ (e : y ≡ k). absurd (let l = least x xs a k c in omega (arith, e, l, same))) (λ d. d) (contains_cases y k ys (p k (contains_there x k xs c))))
    (λ k c. ⊎_elim (λ (e : x ≡ k). absurd (let l = least y ys b k c in omega (arith, e, l, same))) (λ d. d) (contains_cases x k xs (q k (contains_there y k ys c)))) in
    ap (λ z. z ∷ xs) same ∙ ap (λ zs. y ∷ zs) rest

module _ (T : Trial State Change) (n : ℕ) (e : Ended) (same : IsSameTest T.meanings) (few : n ≤ T.budget) (is : IsEnded (within T n) e) where
  cut : (m : ℕ) → Contains e.members m → e.length ≡ length (take n (trace T m))
  cut m c = is.steps m c ∙ ap length (trace_within T m n few)

  taken : (xs : List Change) → length xs < n → length (take n xs) ≡ length xs
  taken xs l = ap length (take_all n xs (omega (arith, l)))

  reached : e.length ≡ n → (m : ℕ) → Contains e.members m → n ≤ length (trace T m)
  reached l m c = ⊎_elim (λ (s : length (trace T m) < n). absurd (let k = cut m c in let t = taken (trace T m) s in omega (arith, k, t, l, s))) (λ h. h) (cases_lt (length (trace T m)) n)

  short : e.length < n → (m : ℕ) → Contains e.members m → length (trace T m) ≡ e.length
  short l m c = ⊎_elim (λ (s : length (trace T m) < n). sym (cut m c ∙ taken (trace T m) s))
      (λ (h : n ≤ length (trace T m)). absurd (let k = cut m c in let t = length-take-le n (trace T m) h in omega (arith, k, t, l))) (cases_lt (length (trace T m)) n)

  equal_fronts : (m k : ℕ) → trace (within T n) k ≡ trace (within T n) m → take n (trace T m) ≡ take n (trace T k)
  equal_fronts m k h = sym (trace_within T m n few) ∙ sym h ∙ trace_within T k n few

  reached_too : (m k : ℕ) → n ≤ length (trace T m) → take n (trace T m) ≡ take n (trace T k) → n ≤ length (trace T k)
  reached_too m k l h = ⊎_elim
      (λ (s : length (trace T k) < n). absurd (let t = taken (trace T k) s in let u = length-take-le n (trace T m) l in let f = ap length h in omega (arith, t, u, f, s)))
      (λ g. g) (cases_lt (length (trace T k)) n)

  whole : e.length ≡ n → (m : ℕ) → Contains e.members m → e.members ≡ class_of T m n
  unfolding class_of
  whole l m c = same_elements e.members (filter (λ k. together T m k n) (below T.mutants)) (AllPairs-from_increasing e.members is.rising)
      (AllPairs-from_increasing _ (IsStrictlyIncreasing-filter (λ k. together T m k n) (below T.mutants) (IsStrictlyIncreasing-below T.mutants)))
      (λ k d. let h = (is.members m k c).0 d in let f = equal_fronts m k h.equal in to_filter (λ j. together T m j n) (below T.mutants) k (has_below T.mutants k h.is_mutant)
      (together_from T same m k n (record { reached = reached l m c; other_reached = reached_too m k (reached l m c) f; equal = f })))
      (λ k d. let f = from_filter (λ j. together T m j n) (below T.mutants) k d in let t = AreTogether-from T same m k n f.1 in
      (is.members m k c).1 (record { is_mutant = below_below T.mutants k f.0; equal = trace_within T k n few ∙ sym t.equal ∙ sym (trace_within T m n few) }))

  pub is_group : IsGroup T n e
  is_group = record { reached = reached; whole = whole; short = short }
