-- The splits of an analysis are those that its turns make.
use Rattle.std.proofs.Common.{one-mul, zero-mul, ◌*◌, ◌≡◌, ℕ, zero, suc, ◌+◌, ◌≤◌, ◌<◌, Bool, true, false, ◌&&◌, not, ◌==◌, nat_eq, nat_lt, cond, if◌then◌else◌}
use Rattle.std.proofs.Common.{List, [], ◌∷◌, length, refl, sym, ap, ◌∙◌, arith, ⊎_elim}
use Rattle.std.specs.List.{filter, flat_map, list_any, count_by, sum_by, Contains}
use Rattle.std.specs.Cmp.Lexicographic.{pointwise}
use Rattle.traces.specs.Meanings.{IsSameTest}
use Rattle.traces.specs.Trace.{Trial, trace}
use Rattle.traces.specs.Together.{below, together, class_of}
use Rattle.traces.specs.Work.{is_least, least_members, splits, total_cost}
use Rattle.traces.specs.Configuration.{Execution, is_live, is_leader, IsExecution}
use Rattle.traces.specs.Cost.{cost_of_turn, same_split, splits_at, split_cost}
use Rattle.traces.proofs.Bools.{on_bool, same_bools}
use Rattle.traces.proofs.Lists.{count_by-filter, count_yes, count_no}
use Rattle.traces.proofs.Below.{count_below, any_below, one_least, has_below}
use Rattle.traces.proofs.Together.{AreTogether-from, together_from, lists_sound, lists_same}
use Rattle.traces.proofs.Turns.{goes_on_at, x_below, some_first, any_from}
use Rattle.traces.proofs.Plans.{filter_where}
use Rattle.traces.proofs.Steps.{leads_new}
use Rattle.traces.proofs.Cost.{sum_by_where, sum_by-flat_map, sum_by-plus}
use Rattle.traces.proofs.Room.{length-trace}
use Rattle.std.specs.List.Sorted.{IsPermutation}
use Rattle.std.proofs.lemmas.Bool.{lt-ltb, le-ltb, cases_lt, and_parts, and_from, eqb-true, eq-eqb}
use Rattle.traces.proofs.Permutations.{same_counts}
use Rattle.std.proofs.lemmas.List.Sums.{sum_by-cons, sum_by_push}

sum_times : (p : ℕ → Bool) (v : ℕ) (ms : List ℕ) → sum_by (λ m. if p m then v else 0) ms ≡ count_by p ms * v
sum_times p v [] = sym (zero-mul v)
sum_times p v (m ∷ ms) =
    let i = sum_times p v ms in
    sum_by-cons (λ m. if p m then v else 0) m ms
    ∙ on_bool (p m)
    (λ t. let c = count_yes p m ms t in let d : (if p m then v else 0) ≡ v = rw t refl in
    let e : count_by p (m ∷ ms) * v ≡ (1 + count_by p ms) * v = ap (λ n. n * v) c in omega arith)
    (λ f. let c = count_no p m ms f in let d : (if p m then v else 0) ≡ 0 = rw f refl in
    let e : count_by p (m ∷ ms) * v ≡ count_by p ms * v = ap (λ n. n * v) c in omega arith)

sum_more : (f : ℕ → ℕ) (a b : ℕ) → a ≤ b → ((n : ℕ) → a ≤ n → f n ≡ 0) → sum_by f (below a) ≡ sum_by f (below b)
sum_more f a zero l h = let e : a ≡ 0 = omega arith in rw e refl
sum_more f a (suc b) l h = ⊎_elim
    (λ (s : a < suc b). let i = sum_more f a b (omega arith) h in let z = h b (omega arith) in let p = sum_by_push f (below b) b in omega arith)
    (λ (g : suc b ≤ a). let e : a ≡ suc b = omega arith in rw e refl)
    (cases_lt a (suc b))

sum_of_none : {Y : Type 0} (ys : List Y) → sum_by (λ y. 0) ys ≡ 0
sum_of_none [] = refl
sum_of_none (y ∷ ys) = let i = sum_of_none ys in let c = sum_by-cons (λ y. 0) y ys in omega arith

sums_turned : {X Y : Type 0} (f : X → Y → ℕ) (xs : List X) (ys : List Y) → sum_by (λ x. sum_by (f x) ys) xs ≡ sum_by (λ y. sum_by (λ x. f x y) xs) ys
sums_turned f [] ys = sym (sum_of_none ys)
sums_turned f (x ∷ xs) ys =
    sum_by-cons (λ x. sum_by (f x) ys) x xs ∙ ap (λ n. sum_by (f x) ys + n) (sums_turned f xs ys)
    ∙ sym (sum_by-plus (f x) (λ y. sum_by (λ x. f x y) xs) ys) ∙ ap (λ g. sum_by g ys) (λ i y. sym (sum_by-cons (λ x. f x y) x xs) i)

and_false : (a : Bool) → (a && false) ≡ false
and_false true = refl
and_false false = refl

module _ {S C : Type 0} (T : Trial S C) where
  -- the split that a turn of e makes, if it does
  abbrev pub split_of : Execution S → List (ℕ × List ℕ)
  split_of e = let leaders = filter (is_leader T e) e.members in if nat_lt 1 (length leaders) then (e.step, leaders) ∷ [] else []

module _ {S C : Type 0} (T : Trial S C) (same : IsSameTest T.meanings) where
  module _ (e : Execution S) (is : IsExecution T e) (live : is_live T e ≡ true) where
    pub leaders_are : (m : ℕ) → Contains e.members m → filter (is_leader T e) e.members ≡ least_members T m e.step
    leaders_are m c = filter_where (is_leader T e) (λ k. is_least T k (e.step + 1)) e.members (leads_new T same e is live)
        ∙ ap (filter (λ k. is_least T k (e.step + 1))) (is.class m c)

    least_here : (m y : ℕ) → together T m y e.step ≡ true → is_least T y e.step ≡ not (list_any (λ k. together T m k e.step) (below y))
    least_here m y h =
        let t = AreTogether-from T same m y e.step h in
        ap not (any_below (λ k. together T k y e.step) (λ k. together T m k e.step) y
        (λ k l. same_bools _ _
        (λ a. let b = AreTogether-from T same k y e.step a in together_from T same m k e.step
        (record { reached = t.reached; other_reached = b.reached; equal = t.equal ∙ sym b.equal }))
        (λ a. let b = AreTogether-from T same m k e.step a in together_from T same k y e.step
        (record { reached = b.other_reached; other_reached = t.other_reached; equal = sym b.equal ∙ t.equal }))))

    one_least_member : count_by (λ m. is_least T m e.step) e.members ≡ 1
    unfolding class_of
    one_least_member =
        let f = some_first e.members is.some in let m = f.0 in
        let r = is.reached m f.1 in
        ap (count_by (λ k. is_least T k e.step)) (is.class m f.1)
        ∙ count_by-filter (λ k. is_least T k e.step) (λ k. together T m k e.step) (below T.mutants)
        ∙ count_below (λ y. together T m y e.step && is_least T y e.step)
        (λ y. together T m y e.step && not (list_any (λ k. together T m k e.step) (below y))) T.mutants
        (λ y l. on_bool (together T m y e.step)
        (λ t. ap (λ b. together T m y e.step && b) (least_here m y t))
        (λ n. rw n refl))
        ∙ one_least (λ k. together T m k e.step) T.mutants
        (any_from (λ k. together T m k e.step) (below T.mutants) m (has_below T.mutants m (x_below T same e is live m f.1))
        (together_from T same m m e.step (record { reached = r; other_reached = r; equal = refl })))

    count_where : (b : Bool) (s x : ℕ × List ℕ) (p : ℕ → Bool) (ms : List ℕ) → count_by p ms ≡ 1
        → sum_by (λ m. count_by (same_split x) (if p m && b then s ∷ [] else [])) ms ≡ count_by (same_split x) (if b then s ∷ [] else [])
    count_where b s x p ms h =
        let v = count_by (same_split x) (if b then s ∷ [] else []) in
        sum_by_where (λ m. count_by (same_split x) (if p m && b then s ∷ [] else [])) (λ m. if p m then v else 0) ms
        (λ m c. on_bool (p m) (λ t. rw t refl) (λ f. rw f refl))
        ∙ sum_times p v ms ∙ ap (λ n. n * v) h ∙ one-mul v

    pub splits_cost : (x : ℕ × List ℕ) → cost_of_turn (split_cost T x) e ≡ count_by (same_split x) (split_of T e)
    splits_cost x =
        let leaders = filter (is_leader T e) e.members in
        sum_by_where (λ m. split_cost T x m e.step) (λ m. count_by (same_split x) (if is_least T m e.step && nat_lt 1 (length leaders) then (e.step, leaders)
        ∷ [] else [])) e.members
        (λ m c. ap (λ ls. count_by (same_split x) (if is_least T m e.step && (nat_lt e.step (length (trace T m)) && nat_lt 1 (length ls)) then (e.step, ls)
        ∷ [] else [])) (sym (leaders_are m c))
        ∙ ap (λ b. count_by (same_split x) (if is_least T m e.step && (b && nat_lt 1 (length leaders)) then (e.step, leaders) ∷ [] else []))
        (lt-ltb _ _ (goes_on_at T same e is live m c)))
        ∙ count_where (nat_lt 1 (length leaders)) (e.step, leaders) x (λ m. is_least T m e.step) e.members one_least_member

module _ {S C : Type 0} (T : Trial S C) where
  none_past : (x : ℕ × List ℕ) (m n : ℕ) → length (trace T m) ≤ n → split_cost T x m n ≡ 0
  none_past x m n l = ap (λ b. count_by (same_split x) (if b then (n, least_members T m n) ∷ [] else []))
      (ap (λ b. is_least T m n && (b && nat_lt 1 (length (least_members T m n)))) (le-ltb n (length (trace T m)) l) ∙ and_false (is_least T m n))

  pub splits_total : (x : ℕ × List ℕ) → total_cost T (split_cost T x) ≡ count_by (same_split x) (splits T)
  splits_total x =
      sum_by_where (λ m. sum_by (split_cost T x m) (below (length (trace T m)))) (λ m. sum_by (split_cost T x m) (below T.budget)) (below T.mutants)
      (λ m c. sum_more (split_cost T x m) (length (trace T m)) T.budget (length-trace T m) (none_past x m))
      ∙ sums_turned (split_cost T x) (below T.mutants) (below T.budget)
      ∙ ap (λ g. sum_by g (below T.budget)) (λ i n. sym (sum_by-flat_map (λ s. cond (same_split x s) 1 0) (λ m. splits_at T m n) (below T.mutants)) i)
      ∙ sym (sum_by-flat_map (λ s. cond (same_split x s) 1 0) (λ n. flat_map (λ m. splits_at T m n) (below T.mutants)) (below T.budget))

same_split_sound : (x y : ℕ × List ℕ) → same_split x y ≡ true → x ≡ y
same_split_sound x y h =
    let p = and_parts (x.0 == y.0) (pointwise nat_eq x.1 y.1) h in
    let a = eqb-true x.0 y.0 p.0 in let b = lists_sound nat_eq eqb-true x.1 y.1 p.1 in λ i. (a i, b i)

same_split_complete : (x : ℕ × List ℕ) → same_split x x ≡ true
same_split_complete x = and_from _ _ (eq-eqb x.0 x.0 refl) (lists_same nat_eq (λ k. eq-eqb k k refl) x.1)

-- what was written at each turn is, but for the order, the splits, where each split was written as often as it has come to be
pub splits_written : {S C : Type 0} (T : Trial S C) (log : List (ℕ × List ℕ)) → ((x : ℕ × List ℕ) → count_by (same_split x) log ≡ total_cost T (split_cost T x))
    → IsPermutation log (splits T)
splits_written T log h = same_counts same_split same_split_sound same_split_complete log (splits T) (λ x. h x ∙ splits_total T x)
