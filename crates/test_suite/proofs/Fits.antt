-- The tests of a list fit the code.
use Rattle.std.proofs.Common.{◌≡◌, ℕ, ◌+◌, ◌-◌, ◌/◌, ◌%◌, ◌^◌, ◌<◌, ◌≤◌, ◌==◌, Bool, true, false, ◌||◌, ◌&&◌, not, cond, nat_le, nat_lt, List, [], ◌∷◌, ◌++◌, length, Option, Some, None}
use Rattle.std.proofs.Common.{is_none, unwrap_or, Result, Ok, Err, refl, subst, sym, arith, All, zero, suc, if◌then◌else◌, lit≤}
use Rattle.std.specs.Prelude.{IfOk}
use Rattle.std.proofs.lemmas.List.{length-append}
use Rattle.std.proofs.lemmas.List.Elements.{All-append}
use Rattle.std.proofs.lemmas.Bool.{leb-true, ltb-true, ltb-false}
use Rattle.std.proofs.lemmas.Nat.{pow_pos}
use Rattle.am_base.specs.Word.{IsWord, bits_of}
use Rattle.am_base.specs.declared.limits.TheConstants.{MAX_BUDGET, MAX_INPUT_BYTES, MAX_OUTPUT_BYTES, MAX_TESTS}
use Rattle.am_base.specs.declared.word.Width.{Width}
use Rattle.code_form.specs.Fit.{AreArguments, FitsCase}
use Rattle.code_form.specs.Places.{function_at}
use Rattle.code_form.specs.declared.code.Code.{Code}
use Rattle.code_form.specs.declared.code.TyScalar.{TyScalar}
use Rattle.code_form.specs.declared.code.TyScalar.TheVariants.{Int, Ptr}
use Rattle.function_names.specs.Names.{function_named}
use Rattle.function_names.proofs.Numbered.{named_within}
use Rattle.ir_tokens.specs.Bytes.{Text}
use Rattle.list_records.specs.Numbers.{decimal_of, number_within, positive, word_of_decimal, word_within}
use Rattle.list_records.specs.Records.{Fields, field_of}
use Rattle.list_records.specs.declared.decimal.Decimal.{Decimal}
use Rattle.test_suite.specs.Expected.{place_of, front_part, back_part, expected_output}
use Rattle.test_suite.specs.Suite.{FitsSuite}
use Rattle.list_records.specs.Faults.{Faults, first_fault, read_on, unless}
use Rattle.test_suite.specs.Tests.{argument_of, arguments_in, arguments_of, budget_of, faults, is_header, is_over_limit, names_of, number_called, prepend_some}
use Rattle.test_suite.specs.Tests.{record_read, some_text, suite_of, suite_read, test_of, tests_read}
use Rattle.test_suite.specs.declared.error.TestError.{TestError}
use Rattle.test_suite.specs.declared.error.TestError.TheVariants as error
use Rattle.test_suite.specs.declared.suite.Suite.{Suite}
use Rattle.test_suite.specs.declared.suite.Test.{Test}

-- ---- numbers

decimal_fits : (size : ℕ) (d : Option Decimal) (n : ℕ) → 0 < size → word_of_decimal size d ≡ Some n → n < size
decimal_fits size None n h e = cc
decimal_fits size (Some d) n h e = by d.negative (nat_le d.magnitude (size / 2)) (nat_lt d.magnitude size) refl e
  where
    by : (negative low fits : Bool) → nat_lt d.magnitude size ≡ fits
        → cond negative (cond low (Some ((size - d.magnitude) % size)) None) (cond fits (Some d.magnitude) None) ≡ Some n → n < size
    by true true fits f q = let same : (size - d.magnitude) % size ≡ n = cc in let below : (size - d.magnitude) % size < size = omega arith in omega arith
    by true false fits f q = cc
    by false low true f q = let same : d.magnitude ≡ n = cc in let below = ltb-true d.magnitude size f in omega arith
    by false low false f q = cc

word_fits : (w : Width) (text : Text) (n : ℕ) → word_within w text ≡ Some n → IsWord w n
word_fits w text n e = decimal_fits (2 ^ bits_of w) (decimal_of text) n (pow_pos (bits_of w)) e

positive_within : (most : ℕ) (d : Option Decimal) (n : ℕ) → positive most d ≡ Some n → (1 ≤ n) × (n ≤ most)
positive_within most None n e = cc
positive_within most (Some d) n e = by d.magnitude d.negative (nat_le 1 d.magnitude) (nat_le d.magnitude most) refl refl e
  where
    by : (m : ℕ) (negative low high : Bool) → nat_le 1 m ≡ low → nat_le m most ≡ high
        → (if not negative && (low && high) then Some m else None) ≡ Some n → (1 ≤ n) × (n ≤ most)
    by m false true true l h q = let same : m ≡ n = cc in let a = leb-true 1 m l in let b = leb-true m most h in (omega arith, omega arith)
    by m true low high l h q = cc
    by m false false high l h q = cc
    by m false true false l h q = cc

budget_fits : (default : ℕ) (text : Text) (n : ℕ) → 1 ≤ default → default ≤ MAX_BUDGET → budget_of default text ≡ Some n → (1 ≤ n) × (n ≤ MAX_BUDGET)
budget_fits default text n some few e = by (length text == 0) e
  where
    by : (b : Bool) → cond b (Some default) (number_within MAX_BUDGET text) ≡ Some n → (1 ≤ n) × (n ≤ MAX_BUDGET)
    by true q = let same : default ≡ n = cc in (omega arith, omega arith)
    by false q = positive_within MAX_BUDGET (decimal_of text) n q

-- ---- arguments

arguments_fit : (types : List TyScalar) (rest : Option Text) (words : List ℕ) → arguments_in types rest ≡ Some words → AreArguments types words
arguments_fit [] None [] e = tt
arguments_fit [] None (n ∷ words) e = cc
arguments_fit [] (Some text) words e = cc
arguments_fit (ty ∷ types) None words e = cc
arguments_fit (ty ∷ types) (Some text) words e =
    by (argument_of ty (front_part (place_of 32 text) text)) (arguments_in types (back_part (place_of 32 text) text)) words refl (λ ws h. arguments_fit types _ ws h) e
  where
    here : (t : TyScalar) (n : ℕ) (ws : List ℕ) → argument_of t (front_part (place_of 32 text) text) ≡ Some n → AreArguments types ws → AreArguments (t ∷ types) (n ∷ ws)
    here (Int w) n ws e more = (word_fits w (front_part (place_of 32 text) text) n e, more)
    here Ptr n ws e more = cc

    by : (o : Option ℕ) (more : Option (List ℕ)) (words : List ℕ) → argument_of ty (front_part (place_of 32 text) text) ≡ o
        → ((ws : List ℕ) → more ≡ Some ws → AreArguments types ws) → prepend_some o more ≡ Some words → AreArguments (ty ∷ types) words
    by None more words a later q = cc
    by (Some n) None words a later q = cc
    by (Some n) (Some ws) words a later q =
        let same : n ∷ ws ≡ words = cc in subst (λ l. AreArguments (ty ∷ types) l) same (here ty n ws a (later ws refl))

-- ---- a record without a fault

abbrev AllFalse : Faults TestError → Type 0
AllFalse [] = Unit {0}
AllFalse (f ∷ more) = (f.0 ≡ false) × AllFalse more

no_fault : (table : Faults TestError) (made test : Test) → unless (first_fault table) made ≡ Ok test → AllFalse table × (made ≡ test)
no_fault [] made test e = (tt, cc)
no_fault (f ∷ more) made test e = by f.0 refl (no_fault more made test) e
  where
    by : (b : Bool) → f.0 ≡ b → (unless (first_fault more) made ≡ Ok test → AllFalse more × (made ≡ test)) → unless (cond b (Some f.1) (first_fault more)) made ≡ Ok test
        → ((f.0 ≡ false) × AllFalse more) × (made ≡ test)
    by true h later q = cc
    by false h later q = let rest = later q in ((h, rest.0), rest.1)

there : {X : Type 0} (o : Option X) (d : X) → is_none o ≡ false → o ≡ Some (unwrap_or o d)
there None d h = cc
there (Some x) d h = refl

within_limit : (number : ℕ) (fields : Fields) → is_over_limit number fields ≡ false → (number ≤ MAX_TESTS) × (length (field_of fields 3) ≤ MAX_INPUT_BYTES)
within_limit number fields h = by (nat_lt MAX_TESTS number) (nat_lt MAX_INPUT_BYTES (length (field_of fields 3))) refl refl h
  where
    by : (a b : Bool) → nat_lt MAX_TESTS number ≡ a → nat_lt MAX_INPUT_BYTES (length (field_of fields 3)) ≡ b
        → (a || b || nat_lt MAX_OUTPUT_BYTES (length (expected_output (field_of fields 5)))) ≡ false → (number ≤ MAX_TESTS) × (length (field_of fields 3) ≤ MAX_INPUT_BYTES)
    by true b p q r = cc
    by false true p q r = cc
    by false false p q r = (ltb-false MAX_TESTS number p, ltb-false MAX_INPUT_BYTES (length (field_of fields 3)) q)

record_fits : (code : Code) (default : ℕ) (names : List Text) (number : ℕ) (fields : Fields) (test : Test) → 1 ≤ default → default ≤ MAX_BUDGET
    → record_read code default names number fields ≡ Ok test → FitsCase code test.case × (number ≤ MAX_TESTS)
record_fits code default names number fields test some few e =
    let found = no_fault (faults code default names number fields) (test_of (number_called code fields) (function_at code (number_called code fields)) default fields) test e in
    let table = found.0 in
    let f = function_at code (number_called code fields) in
    let budget = budget_fits default (field_of fields 4) _ some few (there (budget_of default (field_of fields 4)) default table.1.1.1.1.1.0) in
    let limit = within_limit number fields table.1.1.1.1.1.1.1.0 in (
      subst (λ (t : Test). FitsCase code t.case) found.1 (record {
        defined = named_within code (field_of fields 1) _ (there (function_named code (field_of fields 1)) 0 table.1.1.1.0);
        args = arguments_fit f.params (some_text (field_of fields 2)) _ (there (arguments_of f.params (field_of fields 2)) [] table.1.1.1.1.0);
        input = limit.1;
        some = budget.0;
        few = budget.1;
      }),
      limit.0,
    )

-- ---- the tests of a list

record Fit (code : Code) (tests : List Test) : Type 0 where
  cases : All (λ (test : Test). FitsCase code test.case) tests
  few : length tests ≤ MAX_TESTS

one : {X : Type 0} (P : X → Type 0) (x : X) → P x → All P (x ∷ [])
one P x p zero d h = p
one P x p (suc k) d h = absurd (omega arith)

one_more : (code : Code) (tests : List Test) (test : Test) → Fit code tests → FitsCase code test.case → length tests + 1 ≤ MAX_TESTS → Fit code (tests ++ test ∷ [])
one_more code tests test fit here few = record {
  cases = All-append (λ (t : Test). FitsCase code t.case) tests (test ∷ []) fit.cases (one (λ (t : Test). FitsCase code t.case) test here);
  few = simp length-append few;
}

tests_fit : (code : Code) (default : ℕ) (tests : List Test) (rows : List Fields) (all : List Test) → 1 ≤ default → default ≤ MAX_BUDGET → Fit code tests
    → tests_read code default tests rows ≡ Ok all → Fit code all
tests_fit code default tests [] all some few fit e = let same : tests ≡ all = cc in subst (λ l. Fit code l) same fit
tests_fit code default tests (fields ∷ rows) all some few fit e =
    by (record_read code default (names_of tests) (length tests + 1) fields) refl (λ test more h. tests_fit code default (tests ++ test ∷ []) rows all some few more h) e
  where
    by : (r : Result Test TestError) → record_read code default (names_of tests) (length tests + 1) fields ≡ r
        → ((test : Test) → Fit code (tests ++ test ∷ []) → tests_read code default (tests ++ test ∷ []) rows ≡ Ok all → Fit code all)
        → read_on r (λ test. tests_read code default (tests ++ test ∷ []) rows) ≡ Ok all → Fit code all
    by (Ok test) h later q =
        let here = record_fits code default (names_of tests) (length tests + 1) fields test some few h in
        later test (one_more code tests test fit here.0 here.1) q
    by (Err error) h later q = cc

-- the suite of a list fits the code
pub suite_fits : (code : Code) (default : ℕ) (rows : List Fields) (suite : Suite) → 1 ≤ default → default ≤ MAX_BUDGET → suite_read code default rows ≡ Ok suite → FitsSuite code suite
suite_fits code default [] suite some few e = cc
suite_fits code default (header ∷ rows) suite some few e = by (is_header header) e
  where
    ends : (r : Result (List Test) TestError) → tests_read code default [] rows ≡ r → read_on r (λ tests. Ok (suite_of tests)) ≡ Ok suite → FitsSuite code suite
    ends (Err error) h q = cc
    ends (Ok all) h q =
        let fit = tests_fit code default [] rows all some few (record { cases = λ k d no. absurd (omega arith); few = lit≤ tt }) h in
        let same : suite_of all ≡ suite = cc in
        subst (λ s. FitsSuite code s) same (record { few = fit.few; cases = fit.cases })

    by : (b : Bool) → (if b then read_on (tests_read code default [] rows) (λ tests. Ok (suite_of tests)) else Err (error.Header 0)) ≡ Ok suite → FitsSuite code suite
    by true q = ends (tests_read code default [] rows) refl q
    by false q = cc

pub answer_fits : (code : Code) (default : ℕ) (rows : List Fields) (answer : Result Suite TestError) → 1 ≤ default → default ≤ MAX_BUDGET → answer ≡ suite_read code default rows
    → IfOk answer (FitsSuite code)
answer_fits code default rows (Ok suite) some few e = suite_fits code default rows suite some few (sym e)
answer_fits code default rows (Err error) some few e = tt
