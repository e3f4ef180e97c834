-- The plans of a turn: how many they are, their least members, what they weigh.
use Rattle.std.proofs.Common.{◌≡◌, ℕ, ◌*◌, ◌<◌, ◌≤◌, true, false, not, ◌&&◌, nat_lt, if◌then◌else◌, List, [], ◌∷◌, length, map, slice_index, get_or, refl, sym}
use Rattle.std.proofs.Common.{ap, ◌∙◌, subst, arith, ⊎_elim}
use Rattle.std.specs.List.{All, Contains, sum_by, filter}
use Rattle.std.proofs.Math.Nat.{mul-le-mul_right}
use Rattle.std.proofs.lemmas.Bool.{lt-ltb, le-ltb, and_from, cases_lt, false≢true}
use Rattle.std.proofs.lemmas.List.{get_or_default}
use Rattle.std.proofs.lemmas.List.Elements.{All-contains, All-map, Contains-get_or}
use Rattle.std.proofs.lemmas.List.Kept.{IsStrictlyIncreasing-filter}
use Rattle.std.proofs.lemmas.List.Sums.{length-filter, count_by-le-length, sum_by-cons}
use Rattle.std.proofs.lemmas.Simd.{map-map}
use Rattle.am_base.specs.declared.limits.TheConstants.{MAX_MUTANTS}
use Rattle.traces.specs.Meanings.{IsSameTest, IsLight}
use Rattle.traces.specs.View.{IsKnown}
use Rattle.traces.specs.Trace.{Trial, change_of}
use Rattle.traces.specs.Configuration.{Execution, same_change, is_leader, part, parts}
use Rattle.traces.proofs.Cost.{sum_by-map}
use Rattle.traces.proofs.Lists.{from_filter, to_filter, contains_here, contains_there}
use Rattle.traces.proofs.Steps.{length_map}
use Rattle.traces.proofs.Turns.{any_from, some_from}
use Rattle.member_sets.specs.Members.{IsMemberList}
use Rattle.member_sets.proofs.Parts.{first_least}
use Rattle.exec_core.specs.Counted.{weight_of_turn}
use Rattle.exec_core.specs.Plans.{plans_of, plans_at, plan_weights}
use Rattle.exec_core.specs.declared.plan.Plan.{Plan}
use Rattle.exec_core.specs.Turned.{split_made}
use Rattle.exec_core.proofs.ChangeLemmas.{any_alike, none_any}
use Rattle.exec_core.proofs.Holding.{All-from_contains}
use Rattle.exec_core.proofs.ChildLemmas.{map_where}

map_same : (xs : List ℕ) → map (λ x. x) xs ≡ xs
map_same [] = refl
map_same (x ∷ xs) = ap (λ ys. x ∷ ys) (map_same xs)

sum_within : {X : Type 0} (f : X → ℕ) (c : ℕ) (xs : List X) → ((x : X) → Contains xs x → f x ≤ c) → sum_by f xs ≤ length xs * c
sum_within f c [] h = omega arith
sum_within f c (x ∷ xs) h = rw (sum_by-cons f x xs) (let a = h x (contains_here x xs) in let i = sum_within f c xs (λ y d. h y (contains_there x y xs d)) in
    omega arith)

module _ {S C : Type 0} (T : Trial S C) (same : IsSameTest T.meanings) (e : Execution S) (is : IsMemberList e.members) where
  abbrev leaders : List ℕ
  leaders = filter (is_leader T e) e.members

  first : ℕ
  first = get_or e.members 0 0

  -- the least member leads
  first_leads : is_leader T e (get_or e.members 0 0) ≡ true
  first_leads =
      let m = get_or e.members 0 0 in
      ap not (any_alike (λ k. nat_lt k m && same_change T e k m) (λ k. false) e.members
      (λ k c. ap (λ b. b && same_change T e k m) (le-ltb k m (All-contains (λ j. m ≤ j) e.members k (first_least e.members is.rising) c))) ∙ none_any e.members)

  some_leader : 0 < length leaders
  some_leader = some_from leaders (get_or e.members 0 0) (to_filter (is_leader T e) e.members (get_or e.members 0 0)
      (Contains-get_or e.members 0 0 is.some) first_leads)

  few_leaders : length leaders ≤ MAX_MUTANTS
  few_leaders = let a = length-filter (is_leader T e) e.members in let b = count_by-le-length (is_leader T e) e.members in let c = is.few in omega arith

  -- a leader is the least of its part
  least_of_part : (m : ℕ) → Contains leaders m → slice_index (filter (same_change T e m) e.members) 0 ≡ m
  least_of_part m c =
      let f = from_filter (is_leader T e) e.members m c in
      let F = filter (same_change T e m) e.members in
      let own = to_filter (same_change T e m) e.members m f.0 (same.complete _) in
      let n = some_from F m own in
      let x = get_or F 0 0 in
      let there = from_filter (same_change T e m) e.members x (Contains-get_or F 0 0 n) in
      let low : x ≤ m = All-contains (λ k. x ≤ k) F m (first_least F (IsStrictlyIncreasing-filter (same_change T e m) e.members is.rising)) own in
      ⊎_elim
      (λ (l : x < m). absurd (false≢true (ap not (sym (any_from (λ k. nat_lt k m && same_change T e k m) e.members x there.0
      (and_from _ _ (lt-ltb x m l) (subst (λ d. T.meanings.same d (change_of T m e.state) ≡ true) (same.sound _ _ there.1) (same.complete _))))) ∙ f.1)))
      (λ (g : m ≤ x). let r : x ≡ m = omega arith in r) (cases_lt x m)

  module _ {plans : List (List ℕ × C)} (h : plans ≡ plans_at T e) where
    count_leaders : length plans ≡ length leaders
    count_leaders = ap length h ∙ length_map (λ m. (filter (same_change T e m) e.members, change_of T m e.state)) leaders

    pub some_plan : 0 < length plans
    some_plan = let a = count_leaders in let b = some_leader in omega arith

    pub few_plans : length plans ≤ MAX_MUTANTS
    few_plans = let a = count_leaders in let b = few_leaders in omega arith

    pub as_many_parts : length plans ≡ length (parts T e)
    as_many_parts = count_leaders ∙ sym (length_map (part T e) leaders)

    least_are : map (λ (x : List ℕ × C). slice_index x.0 0) plans ≡ leaders
    least_are = ap (map (λ (x : List ℕ × C). slice_index x.0 0)) h
        ∙ map-map (λ (x : List ℕ × C). slice_index x.0 0) (λ m. (filter (same_change T e m) e.members, change_of T m e.state)) leaders
        ∙ map_where (λ m. slice_index (filter (same_change T e m) e.members) 0) (λ m. m) leaders least_of_part ∙ map_same leaders

    pub split_is : (if nat_lt 1 (length plans) then (e.step, map (λ (x : List ℕ × C). slice_index x.0 0) plans) ∷ [] else []) ≡ split_made T e
    split_is = ap (λ n. if nat_lt 1 n then (e.step, map (λ (x : List ℕ × C). slice_index x.0 0) plans) ∷ [] else []) count_leaders
        ∙ ap (λ ms. if nat_lt 1 (length leaders) then (e.step, ms) ∷ [] else []) least_are

    module _ (knows : (m : ℕ) → T.meanings.knows (T.meanings.place e.state) (T.variant m (T.meanings.place e.state)) ≡ true) where
      pub known_plans : All (λ p. IsKnown T.meanings e.state p.1) plans
      known_plans = subst (All (λ p. IsKnown T.meanings e.state p.1)) (sym h)
          (All-map (λ y. IsKnown T.meanings e.state y.1) (λ m. (filter (same_change T e m) e.members, change_of T m e.state)) leaders
          (All-from_contains (λ m. IsKnown T.meanings e.state (change_of T m e.state)) leaders
          (λ m d. record { variant = T.variant m (T.meanings.place e.state); knows = knows m; is = refl })))

      module _ (light : IsLight T.meanings) (live : T.meanings.ended e.state ≡ false) where
        light_change : (c : C) → IsKnown T.meanings e.state c → T.meanings.weight c ≤ 65536
        light_change c k = subst (λ d. T.meanings.weight d ≤ 65536) (sym k.is) (light.weight k.variant e.state live k.knows)

        pub light_plans : plan_weights T.meanings.weight plans ≤ MAX_MUTANTS * 65536
        light_plans =
            let a = sum_within (λ (x : List ℕ × C). T.meanings.weight x.1) 65536 plans
            (λ x c. light_change x.1 (All-contains (λ p. IsKnown T.meanings e.state p.1) plans x known_plans c)) in
            let b : length plans * 65536 ≤ MAX_MUTANTS * 65536 = mul-le-mul_right 65536 few_plans in omega arith

pub weight_is : {S C : Type 0} (T : Trial S C) (e : Execution S) {plans : List (List ℕ × C)} → plans ≡ plans_at T e
    → plan_weights T.meanings.weight plans ≡ weight_of_turn T e
weight_is {S} {C} T e h = ap (plan_weights T.meanings.weight) h ∙ sum_by-map (λ (x : List ℕ × C). T.meanings.weight x.1)
    (λ m. (filter (same_change T e m) e.members, change_of T m e.state)) (filter (is_leader T e) e.members)

-- the split that was written down, of plans as they are seen
abbrev noted : ℕ → ℕ → List ℕ → List (ℕ × List ℕ)
noted n step members = if nat_lt 1 n then (step, members) ∷ [] else []

pub split_pairs : {C : Type 0} (step : ℕ) (plans : List (Plan C)) → noted (length plans) step (map (λ (p : Plan C). slice_index p.members 0) plans)
    ≡ noted (length (plans_of plans)) step (map (λ (p : List ℕ × C). slice_index p.0 0) (plans_of plans))
split_pairs {C = C} step plans =
    let pair : Plan C → List ℕ × C = λ p. (p.members, p.change) in
    ap (λ n. noted n step (map (λ (p : Plan C). slice_index p.members 0) plans)) (sym (length_map pair plans))
    ∙ ap (noted (length (plans_of plans)) step) (sym (map-map (λ (x : List ℕ × C). slice_index x.0 0) pair plans))
