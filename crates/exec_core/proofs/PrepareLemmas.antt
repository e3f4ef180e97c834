-- From plans to readied children.
use Rattle.std.proofs.Common.{◌≡◌, ℕ, List, [], ◌∷◌, ◌++◌, map, reverse, nat_eq, false, Option, Some, sym, ap, ◌∙◌, subst, ⊎_elim}
use Rattle.std.specs.Option.{option_to_list}
use Rattle.std.specs.List.{All, Contains, IsDistinct, sum_by}
use Rattle.std.specs.List.Sorted.{IsPermutation}
use Rattle.std.proofs.lemmas.List.{map-append}
use Rattle.std.proofs.lemmas.Simd.{map-map}
use Rattle.std.proofs.lemmas.List.Elements.{All-push, All-contains, All-map, All-from_recursion, recursion_from_All, Contains-append_left}
use Rattle.std.proofs.lemmas.List.Elements.{Contains-append_right, Contains-append_cases}
use Rattle.std.proofs.lemmas.List.Sorted.{IsPermutation-sym, IsPermutation-trans, IsPermutation-cons, IsPermutation-append_left, IsPermutation-reverse}
use Rattle.std.proofs.lemmas.List.Sorted.{IsPermutation-map, All-permutation, Contains-permutation, sum_by-IsPermutation}
use Rattle.std.proofs.lemmas.Map.Keys.{IsDistinct-head, IsDistinct-tail, IsDistinct-cons, IsDistinct-IsPermutation}
use Rattle.traces.specs.View.{View, IsLawful, Keeps, IsKnown, IsLive}
use Rattle.traces.proofs.Cost.{sum_by-map}
use Rattle.exec_core.specs.Held.{AreForksOf}
use Rattle.exec_core.specs.Children.{seen, numbers_of, IsPlanned, AreReadying}
use Rattle.exec_core.specs.Plans.{planned_of, states_of, plans_of, plan_weights, ArePrepared}
use Rattle.exec_core.specs.declared.divide.Child.{Child}
use Rattle.exec_core.specs.declared.plan.Plan.{Plan}
use Rattle.exec_machine.proofs.Numbers.{flips, distinct_none}
use Rattle.exec_core.proofs.Holding.{apart_lists, single, nowhere, All-from_contains}
use Rattle.exec_core.proofs.ChildLemmas.{contains_map, to_front}

-- a list of different numbers, and one of those after it
one_of : (xs ys : List ℕ) (y : ℕ) → IsDistinct nat_eq (xs ++ ys) → Contains ys y → IsDistinct nat_eq (xs ++ y ∷ [])
one_of [] ys y d c = IsDistinct-cons nat_eq y [] tt distinct_none
one_of (x ∷ xs) ys y d c =
    let h = All-from_recursion (λ z. nat_eq x z ≡ false) (xs ++ ys) (IsDistinct-head nat_eq x (xs ++ ys) d) in
    IsDistinct-cons nat_eq x (xs ++ y ∷ []) (recursion_from_All (λ z. nat_eq x z ≡ false) (xs ++ y ∷ []) (All-push (λ z. nat_eq x z ≡ false) xs y
    (All-from_contains (λ z. nat_eq x z ≡ false) xs (λ z i. All-contains (λ w. nat_eq x w ≡ false) (xs ++ ys) z h (Contains-append_left xs ys z i)))
    (All-contains (λ w. nat_eq x w ≡ false) (xs ++ ys) y h (Contains-append_right xs ys y c)))) (one_of xs ys y (IsDistinct-tail nat_eq x (xs ++ ys) d) c)

module _ {M S W C : Type 0} {V : View M S W C} (lawful : IsLawful V) {a b : M} {own : S} (o : V.is_out a own) (ps : List (Child S C))
    (f : AreForksOf V a own b (states_of ps)) (k : Keeps V a b []) (q : Child S C) (qs : q.state ≡ own) where
  pub forks_apart : IsDistinct nat_eq (map V.number (states_of ps) ++ V.out_numbers a)
  forks_apart = IsDistinct-IsPermutation nat_eq flips _ _ (IsPermutation-sym _ _ f.numbers) (lawful.distinct b)

  states_are : states_of (ps ++ q ∷ []) ≡ states_of ps ++ own ∷ []
  states_are = map-append (λ p. p.state) ps (q ∷ []) ∙ ap (λ s. states_of ps ++ s ∷ []) qs

  pub numbers_are : map V.number (states_of (ps ++ q ∷ [])) ≡ map V.number (states_of ps) ++ V.number own ∷ []
  numbers_are = ap (map V.number) states_are ∙ map-append V.number (states_of ps) (own ∷ [])

  pub states_distinct : IsDistinct nat_eq (map V.number (states_of (ps ++ q ∷ [])))
  states_distinct = subst (IsDistinct nat_eq) (sym numbers_are) (one_of (map V.number (states_of ps)) (V.out_numbers a) (V.number own) forks_apart
      (lawful.among a own o))

  pub children_distinct : IsDistinct nat_eq (numbers_of V (ps ++ q ∷ []))
  children_distinct = subst (IsDistinct nat_eq) (map-map V.number (λ p. p.state) (ps ++ q ∷ [])) states_distinct

  pub states_out : All (V.is_out b) (states_of (ps ++ q ∷ []))
  states_out = subst (All (V.is_out b)) (sym states_are) (All-push (V.is_out b) (states_of ps) own f.out (k.out own o (nowhere _)))

  module _ (live : IsLive V a own) {plans : List (List ℕ × C)} (known : All (λ x. IsKnown (V.meanings a) (V.stands a own) x.1) plans)
      (planned : IsPermutation plans (map planned_of (ps ++ q ∷ []))) where
    stands_same : (p : Child S C) → Contains (ps ++ q ∷ []) p → V.stands b p.state ≡ V.stands a own
    stands_same p i = ⊎_elim
        (λ (h : Contains ps p). All-contains (λ t. V.stands b t ≡ V.stands a own) (states_of ps) p.state f.stand (contains_map (λ x. x.state) ps p h))
        (λ (h : Contains (q ∷ []) p). ap (λ x. V.stands b x.state) (sym (single h)) ∙ ap (V.stands b) qs ∙ k.stands own o (nowhere _))
        (Contains-append_cases ps (q ∷ []) p i)

    all_known : (p : Child S C) → Contains (ps ++ q ∷ []) p → IsKnown (V.meanings a) (V.stands a own) p.change
    all_known p i = All-contains (λ x. IsKnown (V.meanings a) (V.stands a own) x.1) (map planned_of (ps ++ q ∷ [])) (planned_of p)
        (All-permutation (λ x. IsKnown (V.meanings a) (V.stands a own) x.1) _ _ planned known) (contains_map planned_of (ps ++ q ∷ []) p i)

    pub children_planned : All (IsPlanned V b) (ps ++ q ∷ [])
    children_planned = All-from_contains (IsPlanned V b) (ps ++ q ∷ []) (λ p i. record {
      out = All-contains (V.is_out b) (states_of (ps ++ q ∷ [])) p.state states_out (contains_map (λ x. x.state) (ps ++ q ∷ []) p i);
      live = ap (λ w. (V.meanings b).ended w) (stands_same p i) ∙ ap (λ A. A.ended (V.stands a own)) k.meanings ∙ live;
      known = subst (λ w. IsKnown (V.meanings b) w p.change) (sym (stands_same p i))
          (subst (λ A. IsKnown A (V.stands a own) p.change) (sym k.meanings) (all_known p i));
    })

    module _ {c : M} {rs : List (Child S C)} (r : AreReadying V b c (ps ++ q ∷ []) [] rs) where
      seen_moved : IsPermutation (map (seen V c) rs) (map (seen V b) (ps ++ q ∷ []))
      seen_moved = subst (IsPermutation (map (seen V c) rs)) r.seen (IsPermutation-reverse (map (seen V c) rs))

      numbers_moved : IsPermutation (numbers_of V rs) (map V.number (states_of ps) ++ V.number own ∷ [])
      numbers_moved =
          subst (λ xs. IsPermutation xs (map V.number (states_of ps) ++ V.number own ∷ [])) (map-map (λ s. s.number) (seen V c) rs)
          (subst (IsPermutation (map (λ s. s.number) (map (seen V c) rs))) (map-map (λ s. s.number) (seen V b) (ps ++ q ∷ [])
          ∙ sym (map-map V.number (λ p. p.state) (ps ++ q ∷ [])) ∙ numbers_are) (IsPermutation-map (λ s. s.number) _ _ seen_moved))

      not_ours : (j : ℕ) → Contains (V.out_numbers a) j → (Contains (V.number own ∷ []) j → ⊥) → Contains (numbers_of V (ps ++ q ∷ [])) j → ⊥
      not_ours j i ne h = ⊎_elim
          (λ (x : Contains (map V.number (states_of ps)) j). apart_lists (map V.number (states_of ps)) (V.out_numbers a) j forks_apart x i)
          ne (Contains-append_cases (map V.number (states_of ps)) (V.number own ∷ []) j
          (subst (λ xs. Contains xs j) (sym (map-map V.number (λ p. p.state) (ps ++ q ∷ [])) ∙ numbers_are) h))

      kept : Keeps V a c (V.number own ∷ [])
      kept = record {
        meanings = r.keeps.meanings ∙ k.meanings;
        stays = lawful.stays_trans a b c k.stays r.keeps.stays;
        out = λ t i ne. r.keeps.out t (k.out t i (nowhere _)) (not_ours _ (lawful.among a t i) ne);
        stands = λ t i ne. r.keeps.stands t (k.out t i (nowhere _)) (not_ours _ (lawful.among a t i) ne) ∙ k.stands t i (nowhere _);
      }

      pub prepared : ArePrepared V a own c plans rs
      prepared = record {
        readied = r.readied;
        distinct = r.distinct;
        planned = IsPermutation-trans _ _ _ planned
            (IsPermutation-sym _ _ (subst (λ xs. IsPermutation xs (map planned_of (ps ++ q ∷ []))) (map-map (λ s. (s.members, s.change)) (seen V c) rs)
            (subst (IsPermutation (map (λ s. (s.members, s.change)) (map (seen V c) rs))) (map-map (λ s. (s.members, s.change)) (seen V b) (ps ++ q ∷ []))
            (IsPermutation-map (λ s. (s.members, s.change)) _ _ seen_moved))));
        stand = All-from_contains (λ p. V.stands c p.state ≡ V.stands a own) rs (λ p i.
            All-contains (λ s. s.stands ≡ V.stands a own) (map (seen V b) (ps ++ q ∷ [])) (seen V c p)
            (All-map (λ s. s.stands ≡ V.stands a own) (seen V b) (ps ++ q ∷ [])
            (All-from_contains (λ x. V.stands b x.state ≡ V.stands a own) (ps ++ q ∷ []) stands_same))
            (Contains-permutation (map (seen V c) rs) (map (seen V b) (ps ++ q ∷ [])) (seen V c p) seen_moved (contains_map (seen V c) rs p i)));
        numbers = subst (λ xs. IsPermutation (numbers_of V rs ++ V.out_numbers a) (V.number own ∷ xs)) (sym r.out) (IsPermutation-trans _ _ _
            (IsPermutation-append_left (V.out_numbers a) _ _ numbers_moved) (IsPermutation-trans _ _ _
            (to_front (map V.number (states_of ps)) (V.number own) (V.out_numbers a)) (IsPermutation-cons (V.number own) _ _ f.numbers)));
        fresh = λ j i ne h. not_ours j i ne (subst (λ xs. Contains xs j) (sym (sym (map-map V.number (λ p. p.state) (ps ++ q ∷ [])) ∙ numbers_are))
            (Contains-permutation (numbers_of V rs) (map V.number (states_of ps) ++ V.number own ∷ []) j numbers_moved h));
        keeps = kept;
      }

-- the child of the last plan keeps the state of its own
abbrev pub own_child : {S C : Type 0} → S → Plan C → Child S C
own_child own l = record { state = own; members = l.members; change = l.change }

pub plans_moved : {S C : Type 0} (qs : List (Plan C)) {all : List (Plan C)} {l : Plan C} (ps : List (Child S C)) {last : Option (Plan C)} (own : S)
    → all ≡ qs ++ option_to_list last → last ≡ Some l → map planned_of ps ≡ reverse (plans_of qs)
    → IsPermutation (plans_of all) (map planned_of (ps ++ own_child own l ∷ []))
plans_moved {S} {C} qs {all} {l} ps own e s p =
    let x : List ℕ × C = (l.members, l.change) in let q : Child S C = own_child own l in
    let split : all ≡ qs ++ l ∷ [] = e ∙ ap (λ r. qs ++ option_to_list r) s in
    subst (λ xs. IsPermutation xs (map planned_of (ps ++ q ∷ []))) (sym (ap plans_of split ∙ map-append (λ (y : Plan C). (y.members, y.change)) qs (l ∷ [])))
    (subst (IsPermutation (plans_of qs ++ x ∷ [])) (sym (map-append planned_of ps (q ∷ []) ∙ ap (λ ys. ys ++ x ∷ []) p))
    (IsPermutation-append_left (x ∷ []) _ _ (IsPermutation-reverse (plans_of qs))))

pub weights_are : {S C : Type 0} (weight : C → ℕ) {plans : List (List ℕ × C)} (ps : List (Child S C)) → IsPermutation plans (map planned_of ps)
    → sum_by (λ p. weight p.change) ps ≡ plan_weights weight plans
weights_are weight {plans} ps p = sym (sum_by-map (λ x. weight x.1) planned_of ps) ∙ sum_by-IsPermutation (λ x. weight x.1) plans (map planned_of ps) p

pub left_distinct : (xs ys : List ℕ) → IsDistinct nat_eq (xs ++ ys) → IsDistinct nat_eq xs
left_distinct [] ys d = distinct_none
left_distinct (x ∷ xs) ys d = IsDistinct-cons nat_eq x xs
    (recursion_from_All (λ z. nat_eq x z ≡ false) xs (All-from_contains (λ z. nat_eq x z ≡ false) xs (λ z i. All-contains (λ w. nat_eq x w ≡ false) (xs ++ ys) z
    (All-from_recursion (λ w. nat_eq x w ≡ false) (xs ++ ys) (IsDistinct-head nat_eq x (xs ++ ys) d)) (Contains-append_left xs ys z i))))
    (left_distinct xs ys (IsDistinct-tail nat_eq x (xs ++ ys) d))

pub right_distinct : (xs ys : List ℕ) → IsDistinct nat_eq (xs ++ ys) → IsDistinct nat_eq ys
right_distinct [] ys d = d
right_distinct (x ∷ xs) ys d = right_distinct xs ys (IsDistinct-tail nat_eq x (xs ++ ys) d)
