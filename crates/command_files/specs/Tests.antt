-- The test suite of a file.
use Rattle.std.specs.Prelude.{◌≡◌, ℕ, Some, Ok, Err}
use Rattle.code_form.specs.declared.code.Code.{Code}
use Rattle.ir_tokens.specs.Bytes.{Text}
use Rattle.list_records.specs.Records.{rows_of}
use Rattle.test_suite.specs.Tests.{suite_read}
use Rattle.test_suite.specs.declared.suite.Suite.{Suite}
use Rattle.test_suite.specs.declared.error.TestError.{TestError}
use Rattle.refused_lines.specs.Refusals.{tests_line}

-- the text is this list of tests for the code, where a test that states no budget has this one
abbrev pub AreTests : Code → ℕ → Text → Suite → Type 0
AreTests code budget text suite = suite_read code budget (rows_of text) ≡ Ok suite

-- the line that refuses a text as a list of tests for the code
abbrev pub AreRefused : Code → ℕ → Text → Text → Type 0
AreRefused code budget text line = (e : TestError) × (suite_read code budget (rows_of text) ≡ Err e) × (tests_line e ≡ Some line)
