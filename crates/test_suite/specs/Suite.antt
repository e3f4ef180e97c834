-- When a suite fits a code.
use Rattle.std.specs.Prelude.{◌≤◌, length, All}
use Rattle.code_form.specs.declared.code.Code.{Code}
use Rattle.code_form.specs.Fit.{FitsCase}
use Rattle.test_suite.specs.declared.suite.Suite.{Suite}
use Rattle.test_suite.specs.declared.suite.Test.{Test}

-- at most 1,024 tests, and each case fits the code
pub record FitsSuite (code : Code) (suite : Suite) : Type 0 where
  pub few : length suite.tests ≤ 1024
  pub cases : All (λ (test : Test). FitsCase code test.case) suite.tests
