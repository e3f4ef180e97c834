-- Lists of tests: the faults of a record in their order, and the tests of a list without a fault.
use Rattle.std.specs.Prelude.{◌≡◌, ◌⊎◌, ℕ, ◌+◌, ◌==◌, nat_le, nat_lt, Bool, not, ◌&&◌, ◌||◌, if◌then◌else◌, List, [], ◌∷◌, ◌++◌, length, map, Option, Some, None}
use Rattle.std.specs.Prelude.{is_none, unwrap_or, codes, Result, Ok, Err}
use Rattle.std.specs.Char.{is_ascii_alphanumeric}
use Rattle.std.specs.List.{list_all, list_any}
use Rattle.std.specs.Option.{option_map}
use Rattle.std.specs.Str.{bytes_eq}
use Rattle.am_base.specs.declared.limits.TheConstants.{MAX_BUDGET, MAX_INPUT_BYTES, MAX_OUTPUT_BYTES, MAX_TESTS, MAX_TEST_NAME_BYTES}
use Rattle.am_base.specs.declared.outcome.Ending.{Ending}
use Rattle.code_form.specs.Places.{function_at}
use Rattle.code_form.specs.declared.code.Code.{Code}
use Rattle.code_form.specs.declared.code.Func.{Func}
use Rattle.code_form.specs.declared.code.TyScalar.{TyScalar}
use Rattle.code_form.specs.declared.code.TyScalar.TheVariants.{Int, Ptr}
use Rattle.function_names.specs.Names.{function_named}
use Rattle.ir_tokens.specs.Bytes.{Text}
use Rattle.list_records.specs.Faults.{Faults, first_fault, read_on, unless}
use Rattle.list_records.specs.Numbers.{number_within, word_within}
use Rattle.list_records.specs.Records.{Fields, field_of}
use Rattle.test_suite.specs.Expected.{place_of, front_part, back_part, expected_ending, expected_output, outcome_of}
use Rattle.test_suite.specs.declared.error.TestError.{TestError}
use Rattle.test_suite.specs.declared.error.TestError.TheVariants as error
use Rattle.test_suite.specs.declared.suite.Suite.{Suite}
use Rattle.test_suite.specs.declared.suite.Test.{Test}

-- ---- fields

-- record 0 names the fields
abbrev pub is_header : Fields → Bool
is_header fields = length fields == 6 && bytes_eq (field_of fields 0) (codes "name") && bytes_eq (field_of fields 1) (codes "function")
    && bytes_eq (field_of fields 2) (codes "arguments") && bytes_eq (field_of fields 3) (codes "input") && bytes_eq (field_of fields 4) (codes "budget")
    && bytes_eq (field_of fields 5) (codes "expected")

-- letters, digits, `_`, `.` and `-`
abbrev pub is_name_byte : ℕ → Bool
is_name_byte b = is_ascii_alphanumeric b || b == 95 || b == 46 || b == 45

abbrev pub is_test_name : Text → Bool
is_test_name text = nat_le 1 (length text) && nat_le (length text) MAX_TEST_NAME_BYTES && list_all is_name_byte text

-- the word of an argument: it fits the parameter's width, and no argument is a pointer
abbrev pub argument_of : TyScalar → Text → Option ℕ
argument_of (Int w) text = word_within w text
argument_of Ptr text = None

abbrev pub prepend : ℕ → Option (List ℕ) → Option (List ℕ)
prepend word None = None
prepend word (Some more) = Some (word ∷ more)

abbrev pub prepend_some : Option ℕ → Option (List ℕ) → Option (List ℕ)
prepend_some None more = None
prepend_some (Some word) more = prepend word more

-- the words of a text, one for each parameter, with one blank between each two; nothing is left for no parameter
abbrev pub arguments_in : List TyScalar → Option Text → Option (List ℕ)
arguments_in [] None = Some []
arguments_in [] (Some text) = None
arguments_in (ty ∷ types) None = None
arguments_in (ty ∷ types) (Some text) = prepend_some (argument_of ty (front_part (place_of 32 text) text)) (arguments_in types (back_part (place_of 32 text) text))

-- an empty field has no arguments
abbrev pub some_text : Text → Option Text
some_text text = if length text == 0 then None else Some text

abbrev pub arguments_of : List TyScalar → Text → Option (List ℕ)
arguments_of types text = arguments_in types (some_text text)

-- a number of steps, or the budget of the suite where the field is empty
abbrev pub budget_of : ℕ → Text → Option ℕ
budget_of default text = if length text == 0 then Some default else number_within MAX_BUDGET text

-- ---- the faults of a record: each with whether the record has it, in the order in which they count

-- more tests, input or output than the limits allow
abbrev pub is_over_limit : ℕ → Fields → Bool
is_over_limit number fields =
    nat_lt MAX_TESTS number || nat_lt MAX_INPUT_BYTES (length (field_of fields 3)) || nat_lt MAX_OUTPUT_BYTES (length (expected_output (field_of fields 5)))

-- of the fields behind the function's name
abbrev pub case_faults : Func → ℕ → ℕ → Fields → Faults TestError
case_faults f default number fields =
    (is_none (arguments_of f.params (field_of fields 2)), error.Arguments number)
    ∷ (is_none (budget_of default (field_of fields 4)), error.Budget number)
    ∷ (is_none (expected_ending f.result (field_of fields 5)), error.Expect number)
    ∷ (is_over_limit number fields, error.Limit number) ∷ []

-- the number of the function that a record names, and the function
abbrev pub number_called : Code → Fields → ℕ
number_called code fields = unwrap_or (function_named code (field_of fields 1)) 0

-- of the fields from the function's name on
abbrev pub call_faults : Code → ℕ → ℕ → Fields → Faults TestError
call_faults code default number fields =
    (is_none (function_named code (field_of fields 1)), error.UnknownFunction number)
    ∷ case_faults (function_at code (number_called code fields)) default number fields

-- of all fields, behind tests with these names
abbrev pub faults : Code → ℕ → List Text → ℕ → Fields → Faults TestError
faults code default names number fields =
    (not (length fields == 6), error.Lengths number)
    ∷ (not (is_test_name (field_of fields 0)), error.Name number)
    ∷ (list_any (bytes_eq (field_of fields 0)) names, error.DoubleName number)
    ∷ call_faults code default number fields

-- ---- the tests of a list

-- the test of a function with a number, with these arguments and this budget, that expects this ending or none
abbrev pub test_made : ℕ → List ℕ → ℕ → Option Ending → Fields → Test
test_made function args budget ending fields = record {
  name = field_of fields 0;
  case = record { function = function; args = args; input = field_of fields 3; budget = budget };
  expected = option_map (outcome_of (expected_output (field_of fields 5))) ending;
}

-- the test that a record without a fault gives
abbrev pub test_of : ℕ → Func → ℕ → Fields → Test
test_of function f default fields = test_made function (unwrap_or (arguments_of f.params (field_of fields 2)) [])
    (unwrap_or (budget_of default (field_of fields 4)) default) (unwrap_or (expected_ending f.result (field_of fields 5)) None) fields

-- what a record gives by its fields behind the function's name, and by those from the function's name on
abbrev pub case_read : Func → ℕ → ℕ → ℕ → Fields → Result Test TestError
case_read f function default number fields = unless (first_fault (case_faults f default number fields)) (test_of function f default fields)

abbrev pub call_read : Code → ℕ → ℕ → Fields → Result Test TestError
call_read code default number fields =
    unless (first_fault (call_faults code default number fields)) (test_of (number_called code fields) (function_at code (number_called code fields)) default fields)

-- what a record gives behind tests with these names: its first fault, or its test
abbrev pub record_read : Code → ℕ → List Text → ℕ → Fields → Result Test TestError
record_read code default names number fields =
    unless (first_fault (faults code default names number fields)) (test_of (number_called code fields) (function_at code (number_called code fields)) default fields)

abbrev pub names_of : List Test → List Text
names_of tests = map (λ (test : Test). test.name) tests

-- what the records behind these tests give: the first fault of the first record that has one, or all tests
abbrev pub tests_read : Code → ℕ → List Test → List Fields → Result (List Test) TestError
tests_read code default tests [] = Ok tests
tests_read code default tests (fields ∷ more) =
    read_on (record_read code default (names_of tests) (length tests + 1) fields) (λ test. tests_read code default (tests ++ test ∷ []) more)

abbrev pub suite_of : List Test → Suite
suite_of tests = record { tests = tests }

-- the suite that the records of a list give, or the fault of the list
abbrev pub suite_read : Code → ℕ → List Fields → Result Suite TestError
suite_read code default [] = Err (error.Header 0)
suite_read code default (header ∷ records) =
    if is_header header then read_on (tests_read code default [] records) (λ tests. Ok (suite_of tests)) else Err (error.Header 0)

-- want of memory is the only other answer
abbrev pub Answers : Result Suite TestError → Result Suite TestError → Type 0
Answers want result = (result ≡ want) ⊎ (result ≡ Err error.OutOfMemory)
