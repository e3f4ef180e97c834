-- The classes of runs that are cut off at a step are those of the mutants there.
use Rattle.std.proofs.Common.{◌≡◌, ℕ, ◌<◌, ◌≤◌, nat_le, true, false, List, [], ◌∷◌, ◌++◌, length, take, refl, sym, ap, subst, ◌∙◌, ⊎_elim, arith}
use Rattle.std.specs.List.{Contains, flat_map}
use Rattle.std.proofs.lemmas.Bool.{cases_lt}
use Rattle.std.proofs.lemmas.Bool.Decides.{nat_tests}
use Rattle.std.proofs.lemmas.List.{length-take-le, length-take, take_all}
use Rattle.std.proofs.lemmas.List.Elements.{All-contains, Contains-append_cases}
use Rattle.std.proofs.lemmas.List.Sorted.{Contains-permutation}
use Rattle.code_form.specs.declared.code.Code.{Code}
use Rattle.code_form.specs.Variant.{Table}
use Rattle.traces.specs.Meanings.{IsSameTest}
use Rattle.traces.specs.Trace.{Trial, trace, within}
use Rattle.traces.specs.Together.{below}
use Rattle.traces.proofs.Below.{has_below}
use Rattle.traces.proofs.Budgets.{trace_within}
use Rattle.traces.proofs.Lists.{contains_here, contains_there}
use Rattle.traces.proofs.Room.{length-trace}
use Rattle.machine_form.specs.declared.change.Change.{Change}
use Rattle.machine_form.specs.Calls.{Answers}
use Rattle.machine_form.specs.Machine.{machine_of}
use Rattle.machine_form.specs.State.{State}
use Rattle.machine_form.proofs.SameTests.{machine_same}
use Rattle.flat_analysis.specs.Ended.{IsEnded, AreEnded}
use Rattle.flat_analysis.specs.declared.ended.Ended.{Ended}
use Rattle.flat_analysis.specs.Groups.{IsGroup}
use Rattle.test_suite.specs.declared.suite.Test.{Test}
use Rattle.commands.specs.Alone.{trial_on}
use Rattle.commands.specs.Groups.{cut_at, cut_trial, IsClassWith, AreClassesAt}

-- an element of the lists of some classes is in that of one
from_lists : (classes : List Ended) (m : ℕ) → Contains (flat_map (λ e. e.members) classes) m → IsClassWith classes m (λ e. Unit {0})
from_lists [] m h = absurd (let l = h.1 in omega arith)
from_lists (e ∷ classes) m h =
    ⊎_elim (λ c. record { class = e; there = contains_here e classes; member = c; is = tt })
    (λ c. let r = from_lists classes m c in
    record { class = r.class; there = contains_there e r.class classes r.there; member = r.member; is = tt })
    (Contains-append_cases e.members (flat_map (λ e. e.members) classes) m h)

-- what the law of groups says of a trial
abbrev AreGroupsOf : Trial State Change → Type 0
AreGroupsOf T = (n : ℕ) (e : Ended) → n ≤ T.budget → IsEnded (within T n) e → IsGroup T n e

module _ (T : Trial State Change) (groups : AreGroupsOf T) where
  -- every mutant is in a class
  class_with : (n : ℕ) (classes : List Ended) → AreEnded (within T n) classes → (m : ℕ) → m < T.mutants → IsClassWith classes m (λ e. Unit {0})
  class_with n classes h m l =
      from_lists classes m
      (Contains-permutation (below T.mutants) (flat_map (λ e. e.members) classes) m h.once (has_below T.mutants m l))

  ended_at : (n : ℕ) (classes : List Ended) → AreEnded (within T n) classes → (e : Ended) → Contains classes e → IsEnded (within T n) e
  ended_at n classes h e c = All-contains (IsEnded (within T n)) classes e h.each c

  -- a class has a member
  some_member : (n : ℕ) (e : Ended) → IsEnded (within T n) e → (m : ℕ) × Contains e.members m
  some_member n e h = by e.members h.some
    where
      by : (ms : List ℕ) → 0 < length ms → (m : ℕ) × Contains ms m
      by [] l = absurd (omega arith)
      by (m ∷ ms) l = (m, contains_here m ms)

  -- within the budget
  within_classes : (n : ℕ) (classes : List Ended) → n ≤ T.budget → AreEnded (within T n) classes → AreClassesAt T n classes
  within_classes n classes few h = record {
    most = λ e c.
        let is = ended_at n classes h e c in
        let some = some_member n e is in
        let l = is.steps some.0 some.1 in
        let k = length-trace (within T n) some.0 in
        omega (arith, l, k);
    whole = λ e c l m d. (groups n e few (ended_at n classes h e c)).whole l m d;
    reached = λ m l r.
        let found = class_with n classes h m l in
        let steps = (ended_at n classes h found.class found.there).steps m found.member in
        let cut = ap length (trace_within T m n few) in
        let taken = length-take-le n (trace T m) r in
        record { class = found.class; there = found.there; member = found.member; is = omega (arith, steps, cut, taken) };
    short = λ m l r.
        let found = class_with n classes h m l in
        let steps = (ended_at n classes h found.class found.there).steps m found.member in
        let cut = ap length (trace_within T m n few) in
        let taken = ap length (take_all n (trace T m) (omega (arith, r))) in
        record { class = found.class; there = found.there; member = found.member; is = omega (arith, steps, cut, taken, r) };
  }

  -- above the budget: every trace is shorter
  above_classes : (n : ℕ) (classes : List Ended) → T.budget < n → AreEnded (within T 0) classes → AreClassesAt T n classes
  above_classes n classes above h =
      let none : (e : Ended) → Contains classes e → e.length ≡ 0 =
      (λ e c.
      let is = ended_at 0 classes h e c in
      let some = some_member 0 e is in
      let l = is.steps some.0 some.1 in
      let k = length-trace (within T 0) some.0 in
      omega (arith, l, k)) in
      record {
        most = λ e c. let l = none e c in omega (arith, l);
        whole = λ e c l m d. absurd (let k = none e c in omega (arith, k, l, above));
        reached = λ m l r. absurd (let k = length-trace T m in omega (arith, k, r, above));
        short = λ m l r.
            let found = class_with 0 classes h m l in
            let k = none found.class found.there in
            record { class = found.class; there = found.there; member = found.member; is = omega (arith, k, above) };
      }

  pub cut_classes : (n : ℕ) (classes : List Ended) → AreEnded (within T (cut_at n T.budget)) classes → AreClassesAt T n classes
  cut_classes n classes h =
      ⊎_elim
      (λ (above : T.budget < n).
      let no : nat_le n T.budget ≡ false = grind (arith, nat_tests) in
      let cut : cut_at n T.budget ≡ 0 = rw no refl in
      above_classes n classes above (subst (λ k. AreEnded (within T k) classes) cut h))
      (λ (few : n ≤ T.budget).
      let yes : nat_le n T.budget ≡ true = grind (arith, nat_tests) in
      let cut : cut_at n T.budget ≡ n = rw yes refl in
      within_classes n classes few (subst (λ k. AreEnded (within T k) classes) cut h))
      (cases_lt T.budget n)

pub groups_at : (law : (T : Trial State Change) (n : ℕ) (e : Ended) → IsSameTest T.meanings → n ≤ T.budget → IsEnded (within T n) e → IsGroup T n e)
    (code : Code) (table : Table) (answers : Answers) (test : Test) (step : ℕ) (classes : List Ended)
    → AreEnded (cut_trial code table answers test step) classes → AreClassesAt (trial_on code table answers test) step classes
groups_at law code table answers test step classes h =
    let T = trial_on code table answers test in
    cut_classes T (λ n e few is. law T n e (machine_same code table answers) few is) step classes h
