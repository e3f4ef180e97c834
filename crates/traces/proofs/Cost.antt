-- A turn costs what the next changes of its members cost, and once no execution is live all is paid.
use Rattle.std.proofs.Common.{◌≡◌, ℕ, zero, suc, ◌+◌, ◌≤◌, ◌<◌, true, false, not, List, [], ◌∷◌, ◌++◌, length, map, refl, sym, ap, ◌∙◌, arith, subst, ⊎_elim}
use Rattle.std.proofs.Common.{add-one, take, drop, slice_get, Some, if◌then◌else◌}
use Rattle.std.specs.List.{filter, flat_map, remove, sum_by, All, Contains}
use Rattle.std.proofs.lemmas.Bool.{cases_lt, false≢true, and_from, lt-ltb}
use Rattle.std.proofs.lemmas.List.Sums.{sum_by-append, sum_by_push, sum_by-cons}
use Rattle.std.proofs.lemmas.List.Elements.{All-contains}
use Rattle.std.proofs.lemmas.List.Sorted.{sum_by-IsPermutation}
use Rattle.traces.specs.Meanings.{IsSameTest}
use Rattle.traces.specs.Trace.{Trial, trace}
use Rattle.traces.specs.Together.{below}
use Rattle.traces.specs.Configuration.{Execution, is_live, is_leader, part, parts, turn, turn_of, IsExecution, IsConfiguration}
use Rattle.traces.specs.Work.{total_cost}
use Rattle.traces.specs.Cost.{cost_so_far, cost_of_turn}
use Rattle.traces.proofs.Lists.{contains_here, contains_there}
use Rattle.traces.proofs.Trace.{goes_on}
use Rattle.traces.proofs.Turns.{cut_members, split_at, at_index}

pub sum_by-flat_map : {X Y : Type 0} (g : Y → ℕ) (h : X → List Y) (xs : List X) → sum_by g (flat_map h xs) ≡ sum_by (λ x. sum_by g (h x)) xs
sum_by-flat_map g h [] = refl
sum_by-flat_map g h (x ∷ xs) = sum_by-append g (h x) (flat_map h xs) ∙ ap (λ n. sum_by g (h x) + n) (sum_by-flat_map g h xs)
    ∙ sym (sum_by-cons (λ y. sum_by g (h y)) x xs)

pub sum_by-map : {X Y : Type 0} (g : Y → ℕ) (h : X → Y) (xs : List X) → sum_by g (map h xs) ≡ sum_by (λ x. g (h x)) xs
sum_by-map g h [] = refl
sum_by-map g h (x ∷ xs) = sum_by-cons g (h x) (map h xs) ∙ ap (λ n. g (h x) + n) (sum_by-map g h xs) ∙ sym (sum_by-cons (λ y. g (h y)) x xs)

pub sum_by-plus : {X : Type 0} (f g : X → ℕ) (xs : List X) → sum_by (λ x. f x + g x) xs ≡ sum_by f xs + sum_by g xs
sum_by-plus f g [] = refl
sum_by-plus f g (x ∷ xs) = rw (sum_by-cons (λ y. f y + g y) x xs, sum_by-cons f x xs, sum_by-cons g x xs) (let i = sum_by-plus f g xs in omega arith)

pub sum_by_where : {X : Type 0} (f g : X → ℕ) (xs : List X) → ((x : X) → Contains xs x → f x ≡ g x) → sum_by f xs ≡ sum_by g xs
sum_by_where f g [] h = refl
sum_by_where f g (x ∷ xs) h = rw (sum_by-cons f x xs, sum_by-cons g x xs) (let a = h x (contains_here x xs) in let i =
    sum_by_where f g xs (λ y c. h y (contains_there x y xs c)) in omega arith)

sum_by_at_most : {X : Type 0} (f g : X → ℕ) (xs : List X) → ((x : X) → Contains xs x → f x ≤ g x) → sum_by f xs ≤ sum_by g xs
sum_by_at_most f g [] h = omega arith
sum_by_at_most f g (x ∷ xs) h = rw (sum_by-cons f x xs, sum_by-cons g x xs) (let a = h x (contains_here x xs) in let i =
    sum_by_at_most f g xs (λ y c. h y (contains_there x y xs c)) in omega arith)

sum_below_at_most : (f : ℕ → ℕ) (n k : ℕ) → n ≤ k → sum_by f (below n) ≤ sum_by f (below k)
sum_below_at_most f n zero h = let e : n ≡ 0 = omega arith in rw e (omega arith)
sum_below_at_most f n (suc k) h = ⊎_elim
    (λ l. rw (sum_by_push f (below k) k) (let i = sum_below_at_most f n k (omega arith) in omega arith))
    (λ (g : suc k ≤ n). let e : n ≡ suc k = omega arith in rw e (omega arith))
    (cases_lt n (suc k))

module _ {S C : Type 0} (T : Trial S C) (same : IsSameTest T.meanings) (f : ℕ → ℕ → ℕ) where
  pub cost_so_far-append : (es gs : List (Execution S)) → cost_so_far f (es ++ gs) ≡ cost_so_far f es + cost_so_far f gs
  unfolding cost_so_far
  cost_so_far-append es gs = sum_by-append _ es gs

  pub cost_so_far-cons : (e : Execution S) (es : List (Execution S)) → cost_so_far f (e ∷ es) ≡ sum_by
      (λ m. sum_by (f m) (below e.step)) e.members + cost_so_far f es
  unfolding cost_so_far
  cost_so_far-cons e es = sum_by-cons _ e es

  module _ (e : Execution S) (is : IsExecution T e) (live : is_live T e ≡ true) where
    cost_so_far-parts : cost_so_far f (parts T e) ≡ sum_by (λ m. sum_by (f m) (below e.step)) e.members + cost_of_turn f e
    unfolding cost_so_far
    cost_so_far-parts =
        sum_by-map (λ a. sum_by (λ m. sum_by (f m) (below a.step)) a.members) (part T e) (filter (is_leader T e) e.members)
        ∙ sym (sum_by-map (λ a. sum_by (λ m. sum_by (f m) (below (e.step + 1))) a.members) (part T e) (filter (is_leader T e) e.members))
        ∙ sym (sum_by-flat_map (λ m. sum_by (f m) (below (e.step + 1))) (λ a. a.members) (parts T e))
        ∙ sum_by-IsPermutation (λ m. sum_by (f m) (below (e.step + 1))) e.members (flat_map (λ a. a.members) (parts T e)) (cut_members T same e is live)
        ∙ rw add-one (ap (λ g. sum_by g e.members) (λ i m. sum_by_push (f m) (below e.step) e.step i))
        ∙ sum_by-plus (λ m. sum_by (f m) (below e.step)) (λ m. f m e.step) e.members

    pub spent_turn : (fore aft : List (Execution S)) → cost_so_far f ((fore ++ aft) ++ parts T e) ≡ cost_so_far f (fore ++ e ∷ aft) + cost_of_turn f e
    spent_turn fore aft =
        rw (
          cost_so_far-append (fore ++ aft) (parts T e),
          cost_so_far-append fore aft,
          cost_so_far-append fore (e ∷ aft),
          cost_so_far-cons e aft,
          cost_so_far-parts,
        ) (omega arith)

  -- an execution that is not live has made all the changes of its members
  pub step_is : (e : Execution S) → IsExecution T e → is_live T e ≡ false → (m : ℕ) → Contains e.members m → e.step ≡ length (trace T m)
  step_is e is l m c = ⊎_elim
      (λ (h : e.step < length (trace T m)). let g = goes_on T m e.step T.budget T.start h in
      absurd (false≢true (sym l ∙ and_from _ _ (ap not (ap T.meanings.ended (is.state m c) ∙ g.live)) (lt-ltb _ _ g.room))))
      (λ (h : length (trace T m) ≤ e.step). let r = is.reached m c in omega arith)
      (cases_lt e.step (length (trace T m)))

  whole : ℕ → ℕ
  whole m = sum_by (f m) (below (length (trace T m)))

  over_members : (es : List (Execution S)) → IsConfiguration T es → sum_by (λ e. sum_by whole e.members) es ≡ total_cost T f
  unfolding whole
  over_members es c = sym (sum_by-flat_map whole (λ e. e.members) es) ∙ sum_by-IsPermutation whole (below T.mutants) (flat_map (λ e. e.members) es) c.once

  pub all_spent : (es : List (Execution S)) → IsConfiguration T es → All (λ e. is_live T e ≡ false) es → cost_so_far f es ≡ total_cost T f
  unfolding cost_so_far whole
  all_spent es c l =
      sum_by_where (λ e. sum_by (λ m. sum_by (f m) (below e.step)) e.members) (λ e. sum_by whole e.members) es
      (λ e i. sum_by_where (λ m. sum_by (f m) (below e.step)) whole e.members
      (λ m j. ap (λ n. sum_by (f m) (below n)) (step_is e (All-contains (IsExecution T) es e c.each i) (All-contains (λ a. is_live T a ≡ false) es e l i) m j)))
      ∙ over_members es c

  pub spent_at_most : (es : List (Execution S)) → IsConfiguration T es → cost_so_far f es ≤ total_cost T f
  unfolding cost_so_far whole
  spent_at_most es c =
      let h : sum_by (λ e. sum_by (λ m. sum_by (f m) (below e.step)) e.members) es ≤ sum_by (λ e. sum_by whole e.members) es =
      sum_by_at_most (λ e. sum_by (λ m. sum_by (f m) (below e.step)) e.members) (λ e. sum_by whole e.members) es
      (λ e i. sum_by_at_most (λ m. sum_by (f m) (below e.step)) whole e.members
      (λ m j. sum_below_at_most (f m) e.step (length (trace T m)) ((All-contains (IsExecution T) es e c.each i).reached m j))) in
      subst (λ n. sum_by (λ e. sum_by (λ m. sum_by (f m) (below e.step)) e.members) es ≤ n) (over_members es c) h

  pub spent_of_turn : (es : List (Execution S)) (i : ℕ) (e : Execution S) → slice_get es i ≡ Some e → IsConfiguration T es → is_live T e ≡ true
      → cost_so_far f (turn T es i) ≡ cost_so_far f es + cost_of_turn f e
  spent_of_turn es i e g c l =
      ap (λ o. cost_so_far f (turn_of T es i o)) g
      ∙ ap (λ b. cost_so_far f (if b then remove es i ++ parts T e else es)) l
      ∙ spent_turn e (at_index T same es i e g c) l (take i es) (drop (suc i) es)
      ∙ ap (λ xs. cost_so_far f xs + cost_of_turn f e) (sym (split_at es i e g))
