-- What one turn weighs, tries and asks, by the costs of the members' next changes.
use Rattle.std.proofs.Common.{◌≡◌, ◌≢◌, ℕ, ◌+◌, ◌<◌, Bool, true, ◌&&◌, not, ◌==◌, nat_eq, nat_lt, cond, if◌then◌else◌, List, [], ◌∷◌, length, slice_get, Some}
use Rattle.std.proofs.Common.{get_or, refl, sym, ap, ◌∙◌, subst, arith, zero-add}
use Rattle.std.specs.List.{filter, list_any, sum_by, Contains, AllPairs, IsDistinct}
use Rattle.std.specs.Option.{option_map_or}
use Rattle.std.proofs.lemmas.List.Sums.{length-filter, sum_by-cons}
use Rattle.std.proofs.lemmas.Bool.{true≢false, and_from, lt-ltb, eq-eqb}
use Rattle.std.proofs.lemmas.Bool.Decides.{Decides-eqb}
use Rattle.std.proofs.lemmas.List.{get_or-map}
use Rattle.std.proofs.lemmas.List.Elements.{Contains-get_or}
use Rattle.std.proofs.lemmas.List.Kept.{AllPairs-filter, AllPairs-from_increasing, IsStrictlyIncreasing-filter}
use Rattle.std.proofs.lemmas.Map.Made.{IsDistinct-from_AllPairs}
use Rattle.traces.specs.Meanings.{IsSameTest, total_toll}
use Rattle.traces.specs.Trace.{Trial, change_of, trace}
use Rattle.traces.specs.Together.{below, together}
use Rattle.traces.specs.Work.{is_least, is_first_try}
use Rattle.traces.specs.Configuration.{Execution, is_live, is_leader, variant_in, is_first_try_of, variants_of, IsExecution}
use Rattle.traces.specs.Cost.{cost_of_turn, load_cost, try_cost, asks_cost}
use Rattle.traces.proofs.Bools.{on_bool, swap_and}
use Rattle.traces.proofs.Below.{any_below, any_up_to, IsStrictlyIncreasing-below}
use Rattle.traces.proofs.Lists.{any-filter, filter_yes, filter_no, from_filter}
use Rattle.traces.proofs.Trace.{changes_from-AreChangesFrom}
use Rattle.traces.proofs.Turns.{goes_on_at, members_are, x_below, some_first, any_from}
use Rattle.traces.proofs.Steps.{length_map, together_sym, leads_new}
use Rattle.traces.proofs.Cost.{sum_by_where, sum_by-map}

sum_by-filter : {X : Type 0} (p : X → Bool) (f : X → ℕ) (xs : List X) → sum_by f (filter p xs) ≡ sum_by (λ x. if p x then f x else 0) xs
sum_by-filter p f [] = refl
sum_by-filter p f (x ∷ xs) = let i = sum_by-filter p f xs in on_bool (p x)
    (λ t. ap (sum_by f) (filter_yes p x xs t) ∙ sum_by-cons f x (filter p xs) ∙ ap (λ n. f x + n) i
    ∙ ap (λ b. (if b then f x else 0) + sum_by (λ x. if p x then f x else 0) xs) (sym t) ∙ sym (sum_by-cons (λ x. if p x then f x else 0) x xs))
    (λ t. ap (sum_by f) (filter_no p x xs t) ∙ i ∙ sym (sum_by-cons (λ x. if p x then f x else 0) x xs
    ∙ rw t (zero-add (sum_by (λ x. if p x then f x else 0) xs))))

module _ {S C : Type 0} (T : Trial S C) (same : IsSameTest T.meanings) (e : Execution S) (is : IsExecution T e) (live : is_live T e ≡ true) where
  -- a test of the lower members is one of the lower mutants that are together with this one
  lower_members : (m : ℕ) → Contains e.members m → (q : ℕ → Bool)
      → list_any (λ k. nat_lt k m && q k) e.members ≡ list_any (λ k. together T k m e.step && q k) (below m)
  lower_members m c q =
      ap (list_any (λ k. nat_lt k m && q k)) (members_are T same e is live m c)
      ∙ any-filter (λ k. nat_lt k m && q k) (λ k. together T m k e.step) (below T.mutants)
      ∙ any_below (λ k. together T m k e.step && (nat_lt k m && q k)) (λ k. nat_lt k m && (together T k m e.step && q k)) T.mutants
      (λ k l. swap_and (together T m k e.step) (nat_lt k m) (q k) ∙ ap (λ b. nat_lt k m && (b && q k)) (together_sym T same m k e.step))
      ∙ any_up_to (λ k. together T k m e.step && q k) m T.mutants (let l = x_below T same e is live m c in omega arith)

  first_try : (m : ℕ) → Contains e.members m → is_first_try_of T e m ≡ is_first_try T m e.step
  first_try m c =
      ap not (lower_members m c (λ k. variant_in T e k == variant_in T e m)
      ∙ ap (λ s. list_any (λ k. together T k m e.step && T.variant k (T.meanings.place s) == T.variant m (T.meanings.place s)) (below m)) (is.state m c))

  pub tries_cost : length (variants_of T e) ≡ cost_of_turn (try_cost T) e
  tries_cost =
      length_map (variant_in T e) (filter (is_first_try_of T e) e.members)
      ∙ length-filter (is_first_try_of T e) e.members
      ∙ sum_by_where (λ m. cond (is_first_try_of T e m) 1 0) (λ m. cond (is_first_try T m e.step) 1 0) e.members (λ m c. ap (λ b. cond b 1 0) (first_try m c))

  pub tolls_cost : (port : ℕ) → total_toll T.meanings port e.state (variants_of T e) ≡ cost_of_turn (asks_cost T port) e
  tolls_cost port =
      sum_by-map (λ v. T.meanings.toll port v e.state) (variant_in T e) (filter (is_first_try_of T e) e.members)
      ∙ sum_by-filter (is_first_try_of T e) (λ m. T.meanings.toll port (variant_in T e m) e.state) e.members
      ∙ sum_by_where (λ m. if is_first_try_of T e m then T.meanings.toll port (variant_in T e m) e.state else 0) (λ m. asks_cost T port m e.step) e.members
      (λ m c. ap (λ b. if b then T.meanings.toll port (variant_in T e m) e.state else 0) (first_try m c)
      ∙ ap (λ s. if is_first_try T m e.step then T.meanings.toll port (T.variant m (T.meanings.place s)) s else 0) (is.state m c))

  next_change : (m : ℕ) → Contains e.members m → slice_get (trace T m) e.step ≡ Some (change_of T m e.state)
  next_change m c = (changes_from-AreChangesFrom T m T.budget T.start).made e.step (goes_on_at T same e is live m c)
      ∙ ap (λ s. Some (change_of T m s)) (sym (is.state m c))

  pub weights_cost : sum_by (λ m. T.meanings.weight (change_of T m e.state)) (filter (is_leader T e) e.members) ≡ cost_of_turn (load_cost T) e
  weights_cost =
      sum_by-filter (is_leader T e) (λ m. T.meanings.weight (change_of T m e.state)) e.members
      ∙ sum_by_where (λ m. if is_leader T e m then T.meanings.weight (change_of T m e.state) else 0) (λ m. load_cost T m e.step) e.members
      (λ m c. ap (λ b. if b then T.meanings.weight (change_of T m e.state) else 0) (leads_new T same e is live m c)
      ∙ ap (λ o. if is_least T m (e.step + 1) then option_map_or T.meanings.weight o 0 else 0) (sym (next_change m c)))

  rising : AllPairs (λ m k. m < k) (filter (is_first_try_of T e) e.members)
  rising = AllPairs-filter (λ m k. m < k) (is_first_try_of T e) e.members
      (let f = some_first e.members is.some in
      subst (AllPairs (λ m k. m < k)) (sym (members_are T same e is live f.0 f.1))
      (AllPairs-from_increasing _ (IsStrictlyIncreasing-filter (λ k. together T f.0 k e.step) (below T.mutants) (IsStrictlyIncreasing-below T.mutants))))

  tried_once : (m k : ℕ) → m < k → Contains e.members m → is_first_try_of T e k ≡ true → variant_in T e m ≢ variant_in T e k
  tried_once m k l c f v =
      true≢false (sym f ∙ ap not (any_from (λ j. nat_lt j k && variant_in T e j == variant_in T e k) e.members m c
      (and_from _ _ (lt-ltb m k l) (eq-eqb _ _ v))))

  variants_differ : AllPairs (λ u v. u ≢ v) (variants_of T e)
  variants_differ i j d h l s =
      let ks = filter (is_first_try_of T e) e.members in
      let n = length_map (variant_in T e) ks in
      let a : i < length ks = omega arith in let b : j < length ks = omega arith in
      let at_i = from_filter (is_first_try_of T e) e.members (get_or ks i 0) (Contains-get_or ks i 0 a) in
      let at_j = from_filter (is_first_try_of T e) e.members (get_or ks j 0) (Contains-get_or ks j 0 b) in
      tried_once (get_or ks i 0) (get_or ks j 0) (rising i j 0 h b) at_i.0 at_j.1
      (sym (get_or-map (variant_in T e) ks i 0 d a) ∙ s ∙ get_or-map (variant_in T e) ks j 0 d b)

  -- the variants that are tried are different
  pub variants_distinct : IsDistinct nat_eq (variants_of T e)
  variants_distinct = IsDistinct-from_AllPairs Decides-eqb (variants_of T e) variants_differ
