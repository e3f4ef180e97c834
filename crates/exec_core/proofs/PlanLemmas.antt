-- Parts by the classes of variants are the parts of a turn.
use Rattle.std.proofs.Common.{◌≡◌, ℕ, suc, one-add, ◌<◌, Bool, true, ◌==◌, List, [], ◌∷◌, length, map, slice_index, get_or, slice_get, Some, refl, sym, ap, ◌∙◌, subst, arith}
use Rattle.std.specs.List.{Contains, filter, list_any, position_or_len}
use Rattle.std.proofs.lemmas.Bool.{eqb-true, eq-eqb}
use Rattle.std.proofs.lemmas.List.{get_or-map, get_or_default, length-map, take_all}
use Rattle.std.proofs.lemmas.List.Elements.{Contains-get_or}
use Rattle.std.proofs.lemmas.Option.{get_or_from_slice_get}
use Rattle.std.proofs.lemmas.Map.Views.{Contains-from_any}
use Rattle.std.proofs.lemmas.Simd.{map-map}
use Rattle.traces.specs.Meanings.{IsSameTest}
use Rattle.traces.specs.Trace.{Trial}
use Rattle.traces.specs.Trace.{change_of}
use Rattle.traces.specs.Configuration.{Execution, same_change, is_leader, part, parts, variant_in, variants_of}
use Rattle.traces.proofs.Bools.{on_bool}
use Rattle.traces.proofs.Lists.{from_filter}
use Rattle.traces.proofs.Turns.{any_from, some_from}
use Rattle.traces.proofs.Plans.{same_place, parts_same}
use Rattle.change_classes.specs.First.{first_equal}
use Rattle.member_sets.specs.Members.{IsMemberList, is_class_leader, class_at, parts_by}
use Rattle.std.proofs.lemmas.List.Elements.{All-contains}
use Rattle.exec_core.specs.ClassTable.{HasClasses}
use Rattle.exec_core.specs.Plans.{own_firsts, plans_of, plans_at}
use Rattle.exec_core.specs.declared.plan.Plan.{Plan}
use Rattle.exec_core.proofs.ChangeLemmas.{leading_changes, pairs_are}
use Rattle.exec_machine.proofs.Numbers.{flips}
use Rattle.exec_core.proofs.ChildLemmas.{contains_map, map_where}
use Rattle.member_sets.proofs.Parts.{one_part}
use Rattle.member_sets.proofs.Firsts.{any_firsts}

contained : (x : ℕ) (xs : List ℕ) → list_any (λ c. c == x) xs ≡ true → Contains xs x
contained x xs h = Contains-from_any {eq = λ a b. a == b} (λ a b e. eqb-true a b e) x xs (ap (λ p. list_any p xs) (λ i c. flips x c i) ∙ h)

module _ {S C : Type 0} (T : Trial S C) (same : IsSameTest T.meanings) (e : Execution S) (is : IsMemberList e.members) (table : List ℕ) where
  abbrev pub variants : List ℕ
  variants = map (variant_in T e) (filter (is_class_leader (variant_in T e) e.members) e.members)

  abbrev pub change : ℕ → C
  change v = T.meanings.next v e.state

  abbrev pub changes : List C
  changes = map change variants

  pub there : (m : ℕ) → Contains e.members m → Contains variants (variant_in T e m)
  there m c =
      let v = variant_in T e in let n = length e.members in
      let all = take_all n e.members (omega arith) in
      contained (v m) variants (subst (λ ms. list_any (λ x. x == v m) (map v (filter (is_class_leader v e.members) ms)) ≡ true) all
      (any_firsts v e.members is (v m) n (omega arith) ∙ ap (λ ms. list_any (λ x. x == v m) (map v ms)) all
      ∙ any_from (λ x. x == v m) (map v e.members) (v m) (contains_map v e.members m c) (eq-eqb _ _ refl)))

  module _ (h : HasClasses variants (first_equal T.meanings.same changes) table) where
    -- a variant's class is the place of the first change that is equal to the one it makes
    class_is : (m : ℕ) → Contains e.members m → slice_index table (variant_in T e m) ≡ position_or_len
        (λ y. T.meanings.same y (change (variant_in T e m))) changes
    class_is m c =
        let v = variant_in T e m in let t = there m c in let i = t.0 in
        let at : slice_index variants i ≡ v = (get_or_default variants i 0 v t.1 ∙ t.2) in
        let place : C → ℕ = λ x. position_or_len (λ y. T.meanings.same y x) changes in
        let l : i < length changes = (let k = length-map variants change in let j = t.1 in omega arith) in
        ap (slice_index table) (sym at) ∙ h.class i t.1 ∙ get_or-map place changes i (change v) 0 l
        ∙ ap place (get_or-map change variants i 0 (change v) t.1 ∙ ap change at)

    same_classes : (m k : ℕ) → Contains e.members m → Contains e.members k
        → (slice_index table (variant_in T e m) == slice_index table (variant_in T e k)) ≡ same_change T e m k
    same_classes m k c d =
        let f : (j : ℕ) → Contains e.members j → Contains changes (change (variant_in T e j)) =
        (λ j i. contains_map change variants (variant_in T e j) (there j i)) in
        ap (λ n. n == slice_index table (variant_in T e k)) (class_is m c)
        ∙ ap (λ n. position_or_len (λ y. T.meanings.same y (change (variant_in T e m))) changes == n) (class_is k d)
        ∙ same_place T.meanings.same same.sound same.complete changes (change (variant_in T e m)) (change (variant_in T e k)) (f m c) (f k d)

    pub parts_are : parts_by (λ m. slice_index table (variant_in T e m)) e.members ≡ map (λ x. x.members) (parts T e)
    parts_are =
        parts_same (λ m k. slice_index table (variant_in T e m) == slice_index table (variant_in T e k)) (same_change T e) e.members same_classes
        ∙ sym (map-map (λ x. x.members) (part T e) (filter (is_leader T e) e.members))

-- what the calls of a plan give is the plans of the definitions
module _ {S C : Type 0} (T : Trial S C) (same : IsSameTest T.meanings) (e : Execution S) (is : IsMemberList e.members)
    {vs : List ℕ} (tried : vs ≡ variants_of T e) {cs : List C} (made : cs ≡ map (λ v. T.meanings.next v e.state) vs)
    {ns : List ℕ} (grouped : ns ≡ first_equal T.meanings.same cs) {p : ℕ} (here : p ≡ T.meanings.place e.state) where
  abbrev pub of_leaders : {X : Type 0} → (ℕ → X) → List X
  of_leaders f = map f (filter (is_leader T e) e.members)

  made_is : cs ≡ map (λ v. T.meanings.next v e.state) (variants_of T e)
  made_is = made ∙ ap (map (λ v. T.meanings.next v e.state)) tried

  pub changes_planned : own_firsts ns 0 cs ≡ of_leaders (λ m. change_of T m e.state)
  changes_planned = ap (λ xs. own_firsts xs 0 cs) grouped ∙ leading_changes T same e is cs made_is

  module _ {table : List ℕ} (h : HasClasses vs ns table) where
    has : HasClasses (variants_of T e) (first_equal T.meanings.same (map (λ v. T.meanings.next v e.state) (variants_of T e))) table
    has = subst (λ xs. HasClasses (variants_of T e) xs table) (grouped ∙ ap (first_equal T.meanings.same) made_is)
        (subst (λ xs. HasClasses xs ns table) tried h)

    pub within_table : (m : ℕ) → Contains e.members m → T.variant m p < length table
    within_table m c = subst (λ q. T.variant m q < length table) (sym here)
        (All-contains (λ v. v < length table) (variants_of T e) (variant_in T e m) has.within (there T same e is table m c))

    pub parts_planned : {ps : List (List ℕ)} → ps ≡ parts_by (class_at T.variant p table) e.members
        → ps ≡ of_leaders (λ m. filter (same_change T e m) e.members)
    parts_planned f = f ∙ ap (λ q. parts_by (class_at T.variant q table) e.members) here ∙ parts_are T same e is table has
        ∙ map-map (λ x. x.members) (part T e) (filter (is_leader T e) e.members)

  pub planned : (plans : List (Plan C)) {ps : List (List ℕ)} {ds : List C} → map (λ x. x.members) plans ≡ ps → map (λ x. x.change) plans ≡ ds
      → ps ≡ of_leaders (λ m. filter (same_change T e m) e.members) → ds ≡ of_leaders (λ m. change_of T m e.state) → plans_of plans ≡ plans_at T e
  planned plans a b f g =
      pairs_are (λ m. filter (same_change T e m) e.members) (λ m. change_of T m e.state) (filter (is_leader T e) e.members) (plans_of plans)
      (map-map (λ x. x.0) (λ (x : Plan C). (x.members, x.change)) plans ∙ a ∙ f) (map-map (λ x. x.1) (λ (x : Plan C). (x.members, x.change)) plans ∙ b ∙ g)

-- members that make one change are one part
module _ {S C : Type 0} (T : Trial S C) (same : IsSameTest T.meanings) (e : Execution S) (is : IsMemberList e.members)
    {vs : List ℕ} (tried : vs ≡ variants_of T e) {cs : List C} (made : cs ≡ map (λ v. T.meanings.next v e.state) vs) where
  among_changes : (m : ℕ) → Contains e.members m → Contains cs (change_of T m e.state)
  among_changes m i = subst (λ ds. Contains ds (change_of T m e.state)) (sym (made ∙ ap (map (λ v. T.meanings.next v e.state)) tried))
      (contains_map (λ v. T.meanings.next v e.state) (variants_of T e) (variant_in T e m) (there T same e is [] m i))

  pub some_change : 0 < length cs
  some_change = let m = get_or e.members 0 0 in some_from cs (change_of T m e.state) (among_changes m (Contains-get_or e.members 0 0 is.some))

  module _ (c : C) (all : (d : C) → Contains cs d → d ≡ c) where
    change_is : (m : ℕ) → Contains e.members m → change_of T m e.state ≡ c
    change_is m i = all (change_of T m e.state) (among_changes m i)

    alike : (m k : ℕ) → Contains e.members m → Contains e.members k → (0 == 0) ≡ same_change T e m k
    alike m k i j = eq-eqb 0 0 refl ∙ sym (subst (λ x. T.meanings.same x (change_of T k e.state) ≡ true) (sym (change_is m i ∙ sym (change_is k j)))
        (same.complete (change_of T k e.state)))

    one_group : map (λ m. filter (same_change T e m) e.members) (filter (is_leader T e) e.members) ≡ e.members ∷ []
    one_group = sym (parts_same (λ m k. 0 == 0) (same_change T e) e.members alike) ∙ one_part (λ m. 0) e.members is (λ k d l. refl)

    pub one_plan : (e.members, c) ∷ [] ≡ plans_at T e
    one_plan = ap (map (λ (ms : List ℕ). (ms, c))) (sym one_group)
        ∙ map-map (λ (ms : List ℕ). (ms, c)) (λ m. filter (same_change T e m) e.members) (filter (is_leader T e) e.members)
        ∙ map_where (λ m. (filter (same_change T e m) e.members, c)) (λ m. (filter (same_change T e m) e.members, change_of T m e.state))
        (filter (is_leader T e) e.members)
        (λ m i. ap (λ (d : C). (filter (same_change T e m) e.members, d)) (sym (change_is m (from_filter (is_leader T e) e.members m i).0)))

-- a list of one change, or of changes all of which are equal to the first
pub lone : {X : Type 0} (xs : List X) (c : X) → length xs ≡ 1 → slice_get xs 0 ≡ Some c → (d : X) → Contains xs d → d ≡ c
lone xs c n h d (i, l, e) = let z : i ≡ 0 = omega arith in sym e ∙ ap (λ k. get_or xs k d) z ∙ get_or_from_slice_get xs 0 c d h

at_front : {X : Type 0} (p : X → Bool) (xs : List X) (d : X) → 0 < length xs → position_or_len p xs ≡ 0 → p (get_or xs 0 d) ≡ true
at_front p [] d l h = absurd (omega arith)
at_front p (x ∷ xs) d l h = on_bool (p x) (λ t. t) (λ f. let e : suc (position_or_len p xs) ≡ 0 = (sym (rw f (one-add (position_or_len p xs))) ∙ h) in
    absurd (omega arith))

pub all_alike : {X : Type 0} (same : X → X → Bool) → ((x y : X) → same x y ≡ true → x ≡ y) → (xs : List X) (ns : List ℕ) (c : X)
    → ns ≡ first_equal same xs → ((k : ℕ) → k < length ns → slice_index ns k ≡ 0) → slice_get xs 0 ≡ Some c → (d : X) → Contains xs d → d ≡ c
all_alike {X = X} same sound xs ns c g z h d (i, l, e) =
    let place : X → ℕ = λ x. position_or_len (λ y. same y x) xs in
    let n = length-map xs place in let m = ap length g in
    let zero : place d ≡ 0 = ap place (sym e) ∙ sym (get_or-map place xs i d 0 l) ∙ ap (λ ks. slice_index ks i) (sym g) ∙ z i (omega arith) in
    let front = at_front (λ y. same y d) xs d (omega arith) zero in
    sym (sound (get_or xs 0 d) d front) ∙ get_or_from_slice_get xs 0 c d h
