-- In the course of a run two mutants share an execution at a step exactly where all their changes up to it are equal.
use Rattle.std.proofs.Common.{◌≡◌, ℕ, suc, ◌≤◌, ◌<◌, Bool, true, false, List, [], ◌∷◌, ◌++◌, length, map, take, drop, slice_get, Option, Some, None}
use Rattle.std.proofs.Common.{refl, sym, ap, subst, arith, ⊎_elim}
use Rattle.std.specs.List.{filter, count_by, remove, All, Contains}
use Rattle.std.proofs.lemmas.Bool.{cases_lt}
use Rattle.std.proofs.lemmas.List.Elements.{All-contains, Contains-append_cases, Contains-append_left, Contains-append_right}
use Rattle.traces.specs.Meanings.{IsSameTest}
use Rattle.traces.specs.Trace.{Trial, trace}
use Rattle.traces.specs.Together.{below, together, class_of, AreTogether}
use Rattle.traces.specs.Configuration.{Execution, opening, is_live, same_change, is_leader, part, parts, turn, turn_of, run, IsExecution, IsConfiguration}
use Rattle.traces.proofs.Bools.{on_bool}
use Rattle.traces.proofs.Lists.{contains_here, contains_there, contains_cases, from_filter, to_filter, count_no}
use Rattle.traces.proofs.Below.{has_below}
use Rattle.traces.proofs.Cost.{step_is}
use Rattle.traces.proofs.Together.{AreTogether-from, together_from}
use Rattle.traces.proofs.Turns.{split_at, at_index, one_leader, turn_keeps, run_keeps, opening_is}
use Rattle.accmut_laws.specs.Shares.{Share, IsWhole}

-- an element that is counted is there
counted : {X : Type 0} (p : X → Bool) (xs : List X) → 0 < count_by p xs → (x : X) × Contains xs x × (p x ≡ true)
counted p [] h = absurd (let l : 0 < 0 = h in omega arith)
counted p (x ∷ xs) h = on_bool (p x)
    (λ t. (x, contains_here x xs, t))
    (λ f. let r = counted p xs (subst (λ n. 0 < n) (count_no p x xs f) h) in (r.0, contains_there x r.0 xs r.1, r.2))

mapped : {X Y : Type 0} (f : X → Y) (xs : List X) (x : X) → Contains xs x → Contains (map f xs) (f x)
mapped f [] x c = absurd (let l = c.1 in omega arith)
mapped f (y ∷ ys) x c = ⊎_elim
    (λ e. subst (λ z. Contains (f y ∷ map f ys) (f z)) e (contains_here (f y) (map f ys)))
    (λ d. contains_there (f y) (f x) (map f ys) (mapped f ys x d))
    (contains_cases y x ys c)

-- an execution of a configuration that has made at most n changes, with this member
record Reaches {S : Type 0} (es : List (Execution S)) (m n : ℕ) : Type 0 where
  execution : Execution S
  there : Contains es execution
  step : execution.step ≤ n
  member : Contains execution.members m

module _ {S C : Type 0} (T : Trial S C) (same : IsSameTest T.meanings) where
  -- the members of an execution at step n are the mutants that are together with any of them there
  pub member_is : (e : Execution S) → IsExecution T e → (m k : ℕ) → Contains e.members m → Contains e.members k → AreTogether T m k e.step
  unfolding class_of
  member_is e is m k c d =
      let r = from_filter (λ j. together T m j e.step) (below T.mutants) k (subst (λ ms. Contains ms k) (is.class m c) d) in
      AreTogether-from T same m k e.step r.1

  pub member_from : (e : Execution S) → IsExecution T e → (m k : ℕ) → Contains e.members m → k < T.mutants → AreTogether T m k e.step → Contains e.members k
  unfolding class_of
  member_from e is m k c l t =
      subst (λ ms. Contains ms k) (sym (is.class m c))
      (to_filter (λ j. together T m j e.step) (below T.mutants) k (has_below T.mutants k l) (together_from T same m k e.step t))

  -- a live execution has a part with any of its members
  part_with : (e : Execution S) → IsExecution T e → is_live T e ≡ true → (m : ℕ) → Contains e.members m
      → (y : ℕ) × Contains (parts T e) (part T e y) × Contains (part T e y).members m
  part_with e is live m c =
      let one = one_leader T same e is live m c in
      let found = counted (λ y. same_change T e y m) (filter (is_leader T e) e.members) (omega (arith, one)) in
      (found.0, mapped (part T e) (filter (is_leader T e) e.members) found.0 found.1, to_filter (same_change T e found.0) e.members m c found.2)

  -- a turn of an execution: another one stays, and this one goes on by one step
  turn_live : (es : List (Execution S)) (i : ℕ) (f : Execution S) → slice_get es i ≡ Some f → is_live T f ≡ true → IsConfiguration T es → (m n : ℕ)
      → (e : Execution S) → Contains es e → Contains e.members m → e.step < n → Reaches (remove es i ++ parts T f) m n
  turn_live es i f g live config m n e c d l =
      let fore = take i es in
      let aft = drop (suc i) es in
      let stays : Contains (fore ++ aft) e → Reaches (remove es i ++ parts T f) m n =
      (λ there. record { execution = e; there = Contains-append_left (fore ++ aft) (parts T f) e there; step = omega (arith, l); member = d }) in
      ⊎_elim
      (λ left. stays (Contains-append_left fore aft e left))
      (λ right. ⊎_elim
      (λ (same_one : f ≡ e).
      let h = part_with f (at_index T same es i f g config) live m (subst (λ (x : Execution S). Contains x.members m) (sym same_one) d) in
      let step : f.step ≡ e.step = ap (λ x. x.step) same_one in
      record { execution = part T f h.0; there = Contains-append_right (fore ++ aft) (parts T f) (part T f h.0) h.1; step = omega (arith, l, step); member = h.2 })
      (λ later. stays (Contains-append_right fore aft e later))
      (contains_cases f e aft right))
      (Contains-append_cases fore (f ∷ aft) e (subst (λ xs. Contains xs e) (split_at es i f g) c))

  turn_reaches : (es : List (Execution S)) (i : ℕ) (o : Option (Execution S)) → slice_get es i ≡ o → IsConfiguration T es → (m n : ℕ)
      → (e : Execution S) → Contains es e → Contains e.members m → e.step < n → Reaches (turn_of T es i o) m n
  turn_reaches es i None g config m n e c d l = record { execution = e; there = c; step = omega (arith, l); member = d }
  turn_reaches es i (Some f) g config m n e c d l = on_bool (is_live T f)
      (λ t. rw t (turn_live es i f g t config m n e c d l))
      (λ u. rw u (record { execution = e; there = c; step = omega (arith, l); member = d }))

  -- a run after which nothing is live comes by each step of each mutant
  comes_by : (turns : List ℕ) (es : List (Execution S)) → IsConfiguration T es → All (λ e. is_live T e ≡ false) (run T es turns) → (m n : ℕ)
      → n ≤ length (trace T m) → Reaches es m n
      → (moment : ℕ) × (e : Execution S) × Contains (run T es (take moment turns)) e × (e.step ≡ n) × Contains e.members m
  comes_by [] es config over m n l r =
      let is = All-contains (IsExecution T) es r.execution config.each r.there in
      let ended = All-contains (λ e. is_live T e ≡ false) es r.execution over r.there in
      let step = step_is T same (λ a b. 0) r.execution is ended m r.member in
      let at_most = r.step in
      (0, r.execution, r.there, omega (arith, step, at_most, l), r.member)
  comes_by (i ∷ turns) es config over m n l r =
      ⊎_elim
      (λ (before : r.execution.step < n).
      let next = turn_reaches es i (slice_get es i) refl config m n r.execution r.there r.member before in
      let found = comes_by turns (turn T es i) (turn_keeps T same es i config) over m n l next in
      (suc found.0, found.1, found.2, found.3, found.4))
      (λ (now : n ≤ r.execution.step).
      let at_most = r.step in
      (0, r.execution, r.there, omega (arith, now, at_most), r.member))
      (cases_lt r.execution.step n)

  module _ (turns : List ℕ) where
    config_at : (moment : ℕ) → 0 < T.mutants → IsConfiguration T (run T (opening T) (take moment turns))
    config_at moment some = run_keeps T same (take moment turns) (opening T) (opening_is T same some)

    pub share_together : (m k n : ℕ) → m < T.mutants → Share T turns m k n → AreTogether T m k n
    share_together m k n l s =
        let config = config_at s.moment (omega (arith, l)) in
        let is = All-contains (IsExecution T) (run T (opening T) (take s.moment turns)) s.execution config.each s.there in
        subst (AreTogether T m k) s.step (member_is s.execution is m k s.member s.other)

    pub together_share : (m k n : ℕ) → m < T.mutants → k < T.mutants → IsWhole T turns → AreTogether T m k n → Share T turns m k n
    together_share m k n l i over t =
        let start : Reaches (opening T) m n = record {
          execution = record { step = 0; members = below T.mutants; state = T.start };
          there = contains_here _ [];
          step = omega arith;
          member = has_below T.mutants m l;
        } in
        let found = comes_by turns (opening T) (opening_is T same (omega (arith, l))) over m n t.reached start in
        let config = config_at found.0 (omega (arith, l)) in
        let is = All-contains (IsExecution T) (run T (opening T) (take found.0 turns)) found.1 config.each found.2 in
        record {
          moment = found.0;
          execution = found.1;
          there = found.2;
          step = found.3;
          member = found.4;
          other = member_from found.1 is m k found.4 i (subst (AreTogether T m k) (sym found.3) t);
        }
