use Rattle.std.proofs.Common.{◌≡◌, ℕ, ◌+◌, ◌*◌, ◌≤◌, take}
use Rattle.ports.specs.Asks.{answers_in, AskedBy}
use Rattle.suite_analysis.specs.Parts.{AreDone}
use Rattle.suite_analysis.specs.Runs.{suite_steps, suite_asks}
use Rattle.suite_analysis.proofs.suite.run_tests.Given as goal

abbrev pub invariant-loop-test : goal.invariant-loop-test
invariant-loop-test g l =
    let A = answers_in (g.P.Ports.outside l.fn.ports).answers in
    let tests = take l.test-index l.tests in record {
      done : AreDone l.code l.variants A tests l.done;
      signs : (g.P.Ports.outside l.held).signs ≡ (g.P.Ports.outside l.fn.ports).signs;
      answers : (g.P.Ports.outside l.held).answers ≡ (g.P.Ports.outside l.fn.ports).answers;
      asks : AskedBy (g.P.Ports.outside l.fn.ports).asked (g.P.Ports.outside l.held).asked (suite_asks l.code l.variants A tests);
      meter : l.meter ≡ l.fn.meter + suite_steps l.code l.variants A tests;
      few_asks : (p : ℕ) → suite_asks l.code l.variants A tests p ≤ l.test-index * 655360000000;
      few_steps : suite_steps l.code l.variants A tests ≤ l.test-index * 655360000000;
    }
