-- Records that are read one by one.
use Rattle.std.proofs.Common.{Bor, ◌≡◌, ℕ, ◌+◌, ◌<◌, ◌≤◌, Bool, true, false, List, [], ◌∷◌, ◌++◌, length, Option, Some, None, Result, Ok, Err, refl, ap, subst, sym, ◌∙◌, arith}
use Rattle.std.proofs.Common.{append_assoc, length-append, slice_get, if◌then◌else◌, inl, inr}
use Rattle.std.specs.Option.{option_copied}
use Rattle.std.proofs.lemmas.List.{append-nil}
use Rattle.std.proofs.lemmas.Option.{slice_get_cases}
use Rattle.csv.specs.declared.reader.Reader.{Reader}
use Rattle.code_form.specs.declared.code.Code.{Code}
use Rattle.list_records.specs.Records.{Fields, Gave, AreRows, rows_of}
use Rattle.list_records.proofs.Rows.{gave_front, rows_same}
use Rattle.ir_tokens.specs.Bytes.{Text}
use Rattle.list_records.specs.Faults.{read_on}
use Rattle.test_suite.specs.Tests.{names_of, is_header, record_read, tests_read, suite_of, suite_read}
use Rattle.test_suite.specs.declared.error.TestError.{TestError}
use Rattle.test_suite.specs.declared.error.TestError.TheVariants as error
use Rattle.test_suite.specs.declared.suite.Suite.{Suite}
use Rattle.test_suite.specs.declared.suite.Test.{Test}

-- an element within a list is there
pub is_there : {X : Type 0} (xs : List X) (i : ℕ) (o : Option (Bor X)) → i < length xs → option_copied o ≡ slice_get xs i → o ≡ None → ⊥
is_there xs i o h e none = let no : slice_get xs i ≡ None = sym e ∙ ap option_copied none in
    elim (slice_get_cases xs i).1 [
      | inl at ↦ let is : Some at.0 ≡ None = sym at.2 ∙ no in cc
      | inr past ↦ let out : length xs ≤ i = past.0 in omega arith
    ]

-- the reader gave the header and records that give these tests
pub record SoFar (code : Code) (default : ℕ) (reader : Reader (Bor (List ℕ))) (tests : List Test) (text : List ℕ) (header : Fields) (records : List Fields) : Type 0 where
  pub read : List Fields
  pub gave : Gave text reader (header ∷ read)
  pub rest : (more : List Fields) → records ≡ read ++ more → tests_read code default [] records ≡ tests_read code default tests more

pub record ReadSoFar (code : Code) (default : ℕ) (first reader : Reader (Bor (List ℕ))) (names : List Text) (tests : List Test) (number : ℕ) : Type 0 where
  pub names_are : names ≡ names_of tests
  pub count : length tests + 1 ≡ number
  pub few : number ≤ 1025
  pub sofar : (text : List ℕ) (header : Fields) (records : List Fields) → Gave text first (header ∷ []) → rows_of text ≡ header ∷ records
      → SoFar code default reader tests text header records

same_tail : {a b : Fields} {l m : List Fields} → a ∷ l ≡ b ∷ m → l ≡ m
same_tail e = cc

-- the records end here
pub read_all : (code : Code) (default : ℕ) (reader : Reader (Bor (List ℕ))) (tests : List Test) (text : List ℕ) (header : Fields) (records : List Fields)
    → rows_of text ≡ header ∷ records → (s : SoFar code default reader tests text header records) → AreRows text (header ∷ s.read)
    → Ok tests ≡ tests_read code default [] records
read_all code default reader tests text header records rows s all =
    let same : records ≡ s.read = same_tail (sym rows ∙ rows_same text (header ∷ s.read) all) in
    sym (s.rest [] (same ∙ sym (append-nil s.read)))

-- the next record is among the records
next_is : (text : List ℕ) (reader : Reader (Bor (List ℕ))) (header fields : Fields) (records read : List Fields) → rows_of text ≡ header ∷ records
    → Gave text reader (header ∷ (read ++ fields ∷ [])) → (more : List Fields) × (records ≡ read ++ fields ∷ more)
next_is text reader header fields records read rows gave =
    let front = gave_front text reader (header ∷ (read ++ fields ∷ [])) gave in
    (front.0, same_tail (sym rows ∙ front.1) ∙ append_assoc read (fields ∷ []) front.0)

-- the next record has a fault
pub read_fault : (code : Code) (default : ℕ) (reader now : Reader (Bor (List ℕ))) (names : List Text) (tests : List Test) (number : ℕ) (text : List ℕ) (header fields : Fields)
    (records : List Fields) (fault : TestError) → names ≡ names_of tests → length tests + 1 ≡ number
    → rows_of text ≡ header ∷ records → (s : SoFar code default reader tests text header records) → Gave text now (header ∷ (s.read ++ fields ∷ []))
    → Err fault ≡ record_read code default names number fields → Err fault ≡ tests_read code default [] records
read_fault code default reader now names tests number text header fields records fault ns k rows s gave e =
    let next = next_is text now header fields records s.read rows gave in
    let here : Err fault ≡ record_read code default (names_of tests) (length tests + 1) fields = e ∙ ap (λ ns. record_read code default ns number fields) ns
    ∙ ap (λ n. record_read code default (names_of tests) n fields) (sym k) in
    ap (λ (r : Result Test TestError). read_on r (λ test. tests_read code default (tests ++ test ∷ []) next.0)) here ∙ sym (s.rest (fields ∷ next.0) next.1)

-- the next record gives a test
pub read_more : (code : Code) (default : ℕ) (reader now : Reader (Bor (List ℕ))) (names : List Text) (tests : List Test) (number : ℕ) (text : List ℕ) (header fields : Fields)
    (records : List Fields) (test : Test) → names ≡ names_of tests → length tests + 1 ≡ number
    → (s : SoFar code default reader tests text header records) → Gave text now (header ∷ (s.read ++ fields ∷ []))
    → Ok test ≡ record_read code default names number fields → SoFar code default now (tests ++ test ∷ []) text header records
read_more code default reader now names tests number text header fields records test ns k s gave e = record {
  read = s.read ++ fields ∷ [];
  gave = gave;
  rest = λ more is.
      let here : Ok test ≡ record_read code default (names_of tests) (length tests + 1) fields = e ∙ ap (λ ns. record_read code default ns number fields) ns
      ∙ ap (λ n. record_read code default (names_of tests) n fields) (sym k) in
      s.rest (fields ∷ more) (is ∙ append_assoc s.read (fields ∷ []) more)
      ∙ ap (λ (r : Result Test TestError). read_on r (λ test. tests_read code default (tests ++ test ∷ []) more)) (sym here);
}

pub names_more : (tests : List Test) (test : Test) → names_of (tests ++ test ∷ []) ≡ names_of tests ++ test.name ∷ []
names_more [] test = refl
names_more (t ∷ tests) test = ap (λ names. t.name ∷ names) (names_more tests test)

-- ---- the header

-- there is no record
pub no_header : (code : Code) (default : ℕ) (text : List ℕ) → AreRows text [] → Err (error.Header 0) ≡ suite_read code default (rows_of text)
no_header code default text all = ap (λ rows. suite_read code default rows) (sym (rows_same text [] all))

header_first : (text : List ℕ) (reader : Reader (Bor (List ℕ))) (header : Fields) → Gave text reader (header ∷ []) → (records : List Fields) × (rows_of text ≡ header ∷ records)
header_first text reader header gave = let front = gave_front text reader (header ∷ []) gave in (front.0, front.1)

abbrev suite_after : Code → ℕ → Bool → List Fields → Result Suite TestError
suite_after code default b records = if b then read_on (tests_read code default [] records) (λ tests. Ok (suite_of tests)) else Err (error.Header 0)

-- the first record isn't the header
pub other_header : (code : Code) (default : ℕ) (text : List ℕ) (reader : Reader (Bor (List ℕ))) (header : Fields) → Gave text reader (header ∷ []) → is_header header ≡ false
    → Err (error.Header 0) ≡ suite_read code default (rows_of text)
other_header code default text reader header gave other =
    let first = header_first text reader header gave in
    ap (λ b. suite_after code default b first.0) (sym other) ∙ ap (λ rows. suite_read code default rows) (sym first.1)

-- the first record is the header, and the records behind it give the tests or a fault
pub suite_is : (code : Code) (default : ℕ) (text : List ℕ) (reader : Reader (Bor (List ℕ))) (header : Fields) (tests : Result (List Test) TestError)
    → Gave text reader (header ∷ []) → is_header header ≡ true
    → ((records : List Fields) → rows_of text ≡ header ∷ records → tests ≡ tests_read code default [] records)
    → read_on tests (λ all. Ok (suite_of all)) ≡ suite_read code default (rows_of text)
suite_is code default text reader header tests gave here read =
    let first = header_first text reader header gave in
    ap (λ (r : Result (List Test) TestError). read_on r (λ all. Ok (suite_of all))) (read first.0 first.1)
    ∙ ap (λ b. suite_after code default b first.0) (sym here) ∙ ap (λ rows. suite_read code default rows) (sym first.1)

-- one more test is read
pub next_state : (code : Code) (default : ℕ) (first reader now : Reader (Bor (List ℕ))) (names names2 : List Text) (tests tests2 : List Test) (number : ℕ) (fields : Fields) (test : Test)
    → ReadSoFar code default first reader names tests number → ((text : List ℕ) (rows : List Fields) → Gave text reader rows → Gave text now (rows ++ fields ∷ []))
    → Ok test ≡ record_read code default names number fields → names2 ≡ names ++ test.name ∷ [] → tests2 ≡ tests ++ test ∷ [] → number ≤ 1024
    → ReadSoFar code default first now names2 tests2 (number + 1)
next_state code default first reader now names names2 tests tests2 number fields test s gave e ns ts few = record {
  names_are = ns ∙ ap (λ l. l ++ test.name ∷ []) s.names_are ∙ sym (names_more tests test) ∙ ap names_of (sym ts);
  count = let k = s.count in rw ts (simp length-append (omega arith));
  few = omega arith;
  sofar = λ text header records begun rows.
      let so = s.sofar text header records begun rows in
      subst (λ all. SoFar code default now all text header records) (sym ts)
      (read_more code default reader now names tests number text header fields records test s.names_are s.count so (gave text (header ∷ so.read) so.gave) e);
}
