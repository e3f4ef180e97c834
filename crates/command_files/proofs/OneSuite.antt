-- A text is a test suite, or refused as one, in one way.
use Rattle.std.proofs.Common.{◌≡◌, ℕ, List, Option, Some, Result, Ok, Err, ap, sym, ◌∙◌}
use Rattle.code_form.specs.declared.code.Code.{Code}
use Rattle.ir_tokens.specs.Bytes.{Text}
use Rattle.list_records.specs.Records.{rows_of}
use Rattle.test_suite.specs.Tests.{suite_read}
use Rattle.test_suite.specs.declared.suite.Suite.{Suite}
use Rattle.test_suite.specs.declared.error.TestError.{TestError}
use Rattle.refused_lines.specs.Refusals.{tests_line}
use Rattle.command_files.specs.Tests.{AreTests, AreRefused}
use Rattle.command_files.proofs.Same.{some-same}

error-same : (result : Result Suite TestError) (e f : TestError) → result ≡ Err e → result ≡ Err f → e ≡ f
error-same result e f h k = let same : Err e ≡ Err f = sym h ∙ k in cc same

module _ (code : Code) (budget : ℕ) (text : Text) where
  pub tests-refused-one : (line other : Text) → AreRefused code budget text line → AreRefused code budget text other → line ≡ other
  tests-refused-one line other h k = some-same line other (sym h.2 ∙ ap tests_line (error-same (suite_read code budget (rows_of text)) h.0 k.0 h.1 k.1) ∙ k.2)

  pub tests-refused-read : (line : Text) (suite : Suite) → AreRefused code budget text line → AreTests code budget text suite → ⊥
  tests-refused-read line suite h k = let e : Err h.0 ≡ Ok suite = sym h.1 ∙ k in cc e

  pub tests-one : (suite other : Suite) → AreTests code budget text suite → AreTests code budget text other → suite ≡ other
  tests-one suite other h k = let e : Ok suite ≡ Ok other = sym h ∙ k in cc e
