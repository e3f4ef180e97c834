-- Sums over tests.
use Rattle.std.proofs.Common.{◌≡◌, ◌∙◌, ℕ, ◌*◌, ◌+◌, ◌^◌, ◌<◌, ◌≤◌, List, ap, arith, get_or, length, map, subst, sym, take}
use Rattle.std.specs.List.{All, sum_by}
use Rattle.std.specs.Prelude.{sum}
use Rattle.std.proofs.lemmas.List.{length-map}
use Rattle.std.proofs.lemmas.List.Elements.{All-map, All-weaker, All-from_get_or}
use Rattle.std.proofs.lemmas.List.Sums.{sum_by-le, sum-map, count_by-le-length, sum_by_more, sum_by_more_le}
use Rattle.std.proofs.Math.Nat.{mul-le-mul}
use Rattle.am_base.specs.declared.limits.TheConstants.{MAX_MUTANTS, MAX_BUDGET}
use Rattle.code_form.specs.declared.code.Code.{Code}
use Rattle.code_form.specs.Fit.{FitsCase}
use Rattle.code_form.specs.Variant.{Table, mutants_of}
use Rattle.traces.specs.Trace.{Trial, trace}
use Rattle.traces.specs.Together.{below}
use Rattle.traces.specs.Work.{alone, executions}
use Rattle.traces.proofs.Below.{length-below}
use Rattle.traces.proofs.Room.{length-trace, steps_within, tries_within}
use Rattle.machine_form.specs.declared.change.Change.{Change}
use Rattle.machine_form.specs.State.{State}
use Rattle.machine_form.specs.Calls.{Answers}
use Rattle.exec_core.specs.declared.result.Work.{Work}
use Rattle.test_suite.specs.declared.suite.Test.{Test}
use Rattle.work_report.specs.Report.{FitsWords, total_of}
use Rattle.suite_analysis.specs.Runs.{trial_on, work_of, works_of}

record IsFew (w : Work) : Type 0 where
  steps : w.steps ≤ 655360000000
  alone : w.alone ≤ 655360000000
  tries : w.tries ≤ 655360000000
  executions : w.executions ≤ 655360000000

module _ (T : Trial State Change) (few : T.mutants ≤ MAX_MUTANTS) (short : T.budget ≤ MAX_BUDGET) where
  product : T.mutants * (T.budget * 1) ≤ 655360000000
  product = let b : T.budget * 1 ≤ 10000000 = omega (arith, short) in let m : T.mutants ≤ 65536 = few in mul-le-mul m b

  alone_few : alone T ≤ 655360000000
  alone_few =
      let a = sum_by-le (λ m. length (trace T m)) T.budget (below T.mutants)
      (All-from_get_or (λ m. length (trace T m) ≤ T.budget) (below T.mutants) 0 (λ i l. length-trace T _)) in
      let m : T.mutants ≤ 65536 = few in let b : T.budget ≤ 10000000 = short in
      let n : length (below T.mutants) ≤ 65536 = (let k = length-below T.mutants in omega (arith, k, m)) in
      let c : length (below T.mutants) * T.budget ≤ 655360000000 = mul-le-mul n b in
      omega (arith, a, c)

  is_few : IsFew (work_of T)
  is_few = let p = product in record {
    steps = (let s = steps_within T in omega (arith, s, p));
    alone = alone_few;
    tries = (let s = tries_within T in omega (arith, s, p));
    executions = (let e : executions T ≤ length (below T.mutants) = count_by-le-length _ _ in let k = length-below T.mutants in
        let m : T.mutants ≤ 65536 = few in omega (arith, e, k, m));
  }

sum_few : (f : Work → ℕ) (works : List Work) → length works ≤ 1024 → All (λ w. f w ≤ 655360000000) works → sum (map f works) < 2 ^ 64
sum_few f works short all =
    let s = sum_by-le f 655360000000 works all in
    omega (arith, s, short, sum-map f works)

pub fits_words : (code : Code) (table : Table) (answers : Answers) (tests : List Test) (works : List Work) → works ≡ works_of code table answers tests
    → mutants_of table ≤ MAX_MUTANTS → length tests ≤ 1024 → All (λ (test : Test). FitsCase code test.case) tests → FitsWords (total_of works)
fits_words code table answers tests works e few short cases =
    let T = λ (test : Test). trial_on code table answers test in
    let all : All IsFew works = subst (All IsFew) (sym e) (All-map IsFew (λ (test : Test). work_of (T test)) tests
    (All-weaker (λ (test : Test). FitsCase code test.case) (λ test. IsFew (work_of (T test))) (λ test fits. is_few (T test) few fits.few) tests cases)) in
    let long : length works ≤ 1024 = (let l = ap length e ∙ length-map tests (λ (test : Test). work_of (T test)) in omega (arith, l, short)) in
    record {
      steps = sum_few (λ w. w.steps) works long (All-weaker IsFew (λ w. w.steps ≤ 655360000000) (λ w h. h.steps) works all);
      alone = sum_few (λ w. w.alone) works long (All-weaker IsFew (λ w. w.alone ≤ 655360000000) (λ w h. h.alone) works all);
      tries = sum_few (λ w. w.tries) works long (All-weaker IsFew (λ w. w.tries ≤ 655360000000) (λ w h. h.tries) works all);
      executions = sum_few (λ w. w.executions) works long (All-weaker IsFew (λ w. w.executions ≤ 655360000000) (λ w h. h.executions) works all);
    }

-- ---- the sum of the tests so far, and of one more

module _ (tests : List Test) (i : ℕ) (x : Test) (inside : i < length tests) (is : x ≡ get_or tests i x) where
  pub sum_more : (f : Test → ℕ) → sum_by f (take (i + 1) tests) ≡ sum_by f (take i tests) + f x
  sum_more f = sum_by_more f tests i x inside ∙ ap (λ y. sum_by f (take i tests) + f y) (sym is)

  pub sum_within : (f : Test → ℕ) → sum_by f (take i tests) + f x ≤ sum_by f tests
  sum_within f = subst (λ y. sum_by f (take i tests) + f y ≤ sum_by f tests) (sym is) (sum_by_more_le f tests i x inside)
