-- Records that are read one by one.
use Rattle.std.proofs.Common.{Bor, ◌≡◌, ℕ, ◌+◌, ◌≤◌, Bool, true, false, List, [], ◌∷◌, ◌++◌, length, Option, Some, None, Result, Ok, Err, refl, subst, sym, ◌∙◌, arith}
use Rattle.std.proofs.Common.{append_assoc, length-append, nat_lt, is_none, unwrap_or, if◌then◌else◌}
use Rattle.std.specs.Prelude.{IfOk}
use Rattle.am_base.specs.declared.outcome.OutOfMemory.{OutOfMemory}
use Rattle.std.proofs.lemmas.Bool.{ltb-false}
use Rattle.std.proofs.lemmas.List.{append-nil}
use Rattle.csv.specs.declared.reader.Reader.{Reader}
use Rattle.am_base.specs.declared.limits.TheConstants.{MAX_LISTED_MUTANTS, MAX_LISTED_RECORDS}
use Rattle.code_form.specs.Fit.{FitsPlace}
use Rattle.code_form.specs.declared.code.Code.{Code}
use Rattle.code_form.specs.declared.instr.Instr.{Instr}
use Rattle.ir_tokens.specs.Bytes.{Text}
use Rattle.list_records.specs.Records.{Fields, Gave, AreRows, field_of, rows_of}
use Rattle.list_records.proofs.Rows.{gave_front, rows_same}
use Rattle.list_records.specs.Faults.{Faults, first_fault}
use Rattle.mutant_records.specs.Lists.{Behind, GivesUnless, GoesOn, IsShort, ListGives, Reading, RecordGives, RecordsGive, form_of, function_named_by, is_taken, made_of, mutant_called, mutant_named, number_called, place_called, place_faults, text_called}
use Rattle.mutant_records.specs.Order.{AreInOrder, Follows}
use Rattle.mutant_records.specs.Tables.{AllFit}
use Rattle.mutant_records.proofs.Order.{AreCounted, named, not-taken, counted-more, order-counted, order-more}
use Rattle.mutant_records.specs.declared.error.MutantError.{MutantError}
use Rattle.mutant_records.specs.declared.error.MutantError.TheVariants as error
use Rattle.mutant_records.specs.declared.list.ListForm.{ListForm}
use Rattle.mutant_records.specs.declared.list.Made.{Made}
use Rattle.mutant_records.specs.declared.list.Replacement.{Replacement}
use Rattle.mutant_records.specs.declared.list.Replacement.TheVariants.{NoInstruction, Misfit, Fits}

abbrev pub Source : Type 0
Source = Reader (Bor (List ℕ))

-- ---- a record that gives a replacement

record Placed (Reads : Reading) (mutant place : ℕ) (text : Text) (made : Made) : Type 0 where
  within : mutant ≤ MAX_LISTED_MUTANTS
  of : made.mutant ≡ mutant
  at : made.place.0 ≡ place
  reads : Reads place text (Fits made.with)

made_placed : (Reads : Reading) (mutant function place number : ℕ) (text : Text) (found : Replacement) (made : Made) → Reads place text found
    → Ok made ≡ made_of mutant function place number found → Placed Reads mutant place text made
made_placed Reads mutant function place number text NoInstruction made r e = cc
made_placed Reads mutant function place number text Misfit made r e = cc
made_placed Reads mutant function place number text (Fits with) made r e = by (nat_lt MAX_LISTED_MUTANTS mutant) refl e
  where
    by : (b : Bool) → nat_lt MAX_LISTED_MUTANTS mutant ≡ b
        → Ok made ≡ (if b then Err (error.Limit number) else Ok (record { mutant = mutant; function = function; place = record { 0 = place }; with = with }))
        → Placed Reads mutant place text made
    by true h q = cc
    by false h q =
        let is : record { mutant = mutant; function = function; place = record { 0 = place }; with = with } ≡ made = cc in
        subst (λ m. Placed Reads mutant place text m) is (record { within = ltb-false MAX_LISTED_MUTANTS mutant h; of = refl; at = refl; reads = r })

record Clear (b : Bool) (more : Faults MutantError) : Type 0 where
  here : b ≡ false
  behind : first_fault more ≡ None

clear : (b : Bool) (e : MutantError) (more : Faults MutantError) → first_fault ((b, e) ∷ more) ≡ None → Clear b more
clear true e more h = cc
clear false e more h = record { here = refl; behind = h }

module _ (code : Code) (Reads : Reading) (form : ListForm) (all : List Made) (fields : Fields) (made : Made)
    (g : RecordGives code Reads form all (length all + 1) fields (Ok made)) where
  abbrev last_faults : Faults MutantError
  last_faults =
      (is_taken form all (mutant_named form all (length all + 1) fields) (unwrap_or (place_called code form fields) 0), error.SamePlace (length all + 1)) ∷ []

  abbrev later_faults : Faults MutantError
  later_faults =
      (is_none (function_named_by code form fields), error.UnknownFunction (length all + 1))
      ∷ (is_none (place_called code form fields), error.NoPlace (length all + 1)) ∷ last_faults

  record IsGood : Type 0 where
    placed : Placed Reads (mutant_named form all (length all + 1) fields) (unwrap_or (place_called code form fields) 0) (text_called form fields) made
    numbered : is_none (mutant_called form all (length all + 1) fields) ≡ false
    free : is_taken form all (mutant_named form all (length all + 1) fields) (unwrap_or (place_called code form fields) 0) ≡ false

  good : IsGood
  good = by (first_fault (place_faults code form all (length all + 1) fields)) refl g
    where
      by : (o : Option MutantError) → first_fault (place_faults code form all (length all + 1) fields) ≡ o
          → GivesUnless o Reads (mutant_named form all (length all + 1) fields) (number_called code form fields) (unwrap_or (place_called code form fields) 0)
          (length all + 1) (text_called form fields) (Ok made) → IsGood
      by None e h =
          let first = clear _ _ ((is_none (mutant_called form all (length all + 1) fields), error.Numbering (length all + 1)) ∷ later_faults) e in
          let second = clear _ _ later_faults first.behind in
          let third = clear _ _ ((is_none (place_called code form fields), error.NoPlace (length all + 1)) ∷ last_faults) second.behind in
          let fourth = clear _ _ last_faults third.behind in
          let fifth = clear _ _ [] fourth.behind in
          record {
            placed = made_placed Reads _ (number_called code form fields) _ (length all + 1) (text_called form fields) h.0 made h.1 h.2;
            numbered = second.here;
            free = fifth.here;
          }
      by (Some error) e h = cc

  record_placed : Placed Reads (mutant_named form all (length all + 1) fields) (unwrap_or (place_called code form fields) 0) (text_called form fields) made
  record_placed = good.placed

  pub record_follows : AreCounted all → Follows all made
  record_follows c =
      let p = good.placed in
      let n = named all c form fields good.numbered in
      let free = not-taken all c form fields (unwrap_or (place_called code form fields) 0) good.free in
      record {
        some = omega (arith, p.of, n.some);
        later = omega (arith, p.of, n.later);
        next = omega (arith, p.of, n.next);
        within = omega (arith, p.of, p.within);
        few = rw p.of n.few;
        free = rw (p.of, p.at) free;
      }

-- ---- what was read so far

-- the reader gave the header and records that give these replacements
pub record SoFar (code : Code) (Reads : Reading) (form : ListForm) (reader : Source) (all : List Made) (text : List ℕ) (header : Fields) (records : List Fields)
    : Type 0 where
  pub read : List Fields
  pub gave : Gave text reader (header ∷ read)
  pub rest : (more : List Fields) (result : Result (List Made) MutantError) → records ≡ read ++ more → RecordsGive code Reads form all more result
      → RecordsGive code Reads form [] records result

pub record ReadSoFar (code : Code) (Reads : Reading) (form : ListForm) (first reader : Source) (all : List Made) (number : ℕ) : Type 0 where
  pub count : length all + 1 ≡ number
  pub few : number ≤ MAX_LISTED_RECORDS + 1
  pub order : AreInOrder [] all
  pub short : IsShort reader
  pub sofar : (text : List ℕ) (header : Fields) (records : List Fields) → Gave text first (header ∷ []) → rows_of text ≡ header ∷ records
      → SoFar code Reads form reader all text header records

same_tail : {a b : Fields} {l m : List Fields} → a ∷ l ≡ b ∷ m → l ≡ m
same_tail e = cc

-- nothing is read behind the header
pub read_none : (code : Code) (Reads : Reading) (form : ListForm) (reader : Source) → IsShort reader → ReadSoFar code Reads form reader reader [] 1
read_none code Reads form reader short = record {
  count = refl;
  few = omega arith;
  order = tt;
  short = short;
  sofar = λ text header records gave rows. record { read = []; gave = gave; rest = λ more result is given. subst (λ rs. RecordsGive code Reads form [] rs result) (sym is) given };
}

-- the records end here
pub read_all : (code : Code) (Reads : Reading) (form : ListForm) (first reader : Source) (all : List Made) (number : ℕ) (s : ReadSoFar code Reads form first reader all number)
    → ((text : List ℕ) (rows : List Fields) → Gave text reader rows → AreRows text rows)
    → (text : List ℕ) (header : Fields) (records : List Fields) → Gave text first (header ∷ []) → rows_of text ≡ header ∷ records → RecordsGive code Reads form [] records (Ok all)
read_all code Reads form first reader all number s ends text header records gave rows =
    let so = s.sofar text header records gave rows in
    let same : records ≡ so.read = same_tail (sym rows ∙ rows_same text (header ∷ so.read) (ends text (header ∷ so.read) so.gave)) in
    so.rest [] (Ok all) (same ∙ sym (append-nil so.read)) refl

next_is : (text : List ℕ) (reader : Source) (header fields : Fields) (records read : List Fields) → rows_of text ≡ header ∷ records
    → Gave text reader (header ∷ (read ++ fields ∷ [])) → (more : List Fields) × (records ≡ read ++ fields ∷ more)
next_is text reader header fields records read rows gave =
    let front = gave_front text reader (header ∷ (read ++ fields ∷ [])) gave in
    (front.0, same_tail (sym rows ∙ front.1) ∙ append_assoc read (fields ∷ []) front.0)

abbrev pub Continues : Source → Source → Fields → Type 0
Continues reader now fields = (text : List ℕ) (rows : List Fields) → Gave text reader rows → Gave text now (rows ++ fields ∷ [])

-- the next record has a fault
pub read_fault : (code : Code) (Reads : Reading) (form : ListForm) (first reader now : Source) (all : List Made) (number : ℕ) (fields : Fields) (fault : MutantError)
    → (s : ReadSoFar code Reads form first reader all number) → Continues reader now fields → RecordGives code Reads form all number fields (Err fault)
    → (text : List ℕ) (header : Fields) (records : List Fields) → Gave text first (header ∷ []) → rows_of text ≡ header ∷ records
    → RecordsGive code Reads form [] records (Err fault)
read_fault code Reads form first reader now all number fields fault s goes given text header records gave rows =
    let so = s.sofar text header records gave rows in
    let next = next_is text now header fields records so.read rows (goes text (header ∷ so.read) so.gave) in
    let here : RecordGives code Reads form all (length all + 1) fields (Err fault) = subst (λ n. RecordGives code Reads form all n fields (Err fault)) (sym s.count) given in
    so.rest (fields ∷ next.0) (Err fault) next.1 (Err fault, here, refl)

-- the next record gives a replacement
pub read_more : (code : Code) (Reads : Reading) (form : ListForm) (first reader now : Source) (all new : List Made) (number : ℕ) (fields : Fields) (made : Made)
    → (s : ReadSoFar code Reads form first reader all number) → Continues reader now fields → IsShort now → RecordGives code Reads form all number fields (Ok made)
    → new ≡ all ++ made ∷ [] → ReadSoFar code Reads form first now new (number + 1)
read_more code Reads form first reader now all new number fields made s goes short given is =
    let here : RecordGives code Reads form all (length all + 1) fields (Ok made) = subst (λ n. RecordGives code Reads form all n fields (Ok made)) (sym s.count) given in
    let counted = order-counted all s.order in
    let follows = record_follows code Reads form all fields made here counted in
    let more = counted-more all made counted follows in
    let long = length-append all (made ∷ []) in
    record {
      count = let k = s.count in rw is (omega (arith, k, long));
      few = omega (arith, s.count, long, more.counted, more.within);
      order = rw is (order-more [] all made s.order follows);
      short = short;
      sofar = λ text header records gave rows.
          let so = s.sofar text header records gave rows in
          subst (λ l. SoFar code Reads form now l text header records) (sym is) (record {
            read = so.read ++ fields ∷ [];
            gave = goes text (header ∷ so.read) so.gave;
            rest = λ more result e rest. so.rest (fields ∷ more) result (e ∙ append_assoc so.read (fields ∷ []) more) (Ok made, here, rest);
          });
    }

-- ---- the header

-- there is no record
pub no_header : (code : Code) (Reads : Reading) (text : List ℕ) → AreRows text [] → ListGives code Reads (rows_of text) (Err (error.Header 0))
no_header code Reads text all = subst (λ rows. ListGives code Reads rows (Err (error.Header 0))) (sym (rows_same text [] all)) refl

header_first : (text : List ℕ) (reader : Source) (header : Fields) → Gave text reader (header ∷ []) → (records : List Fields) × (rows_of text ≡ header ∷ records)
header_first text reader header gave = let front = gave_front text reader (header ∷ []) gave in (front.0, front.1)

-- the first record isn't a header
pub other_header : (code : Code) (Reads : Reading) (text : List ℕ) (reader : Source) (header : Fields) → Gave text reader (header ∷ []) → form_of header ≡ None
    → ListGives code Reads (rows_of text) (Err (error.Header 0))
other_header code Reads text reader header gave other =
    let first = header_first text reader header gave in
    subst (λ rows. ListGives code Reads rows (Err (error.Header 0))) (sym first.1) (subst (λ o. Behind o code Reads first.0 (Err (error.Header 0))) (sym other) refl)

-- the first record is the header of a form
pub list_gives : (code : Code) (Reads : Reading) (form : ListForm) (text : List ℕ) (reader : Source) (header : Fields) (result : Result (List Made) MutantError)
    → Gave text reader (header ∷ []) → form_of header ≡ Some form
    → ((records : List Fields) → rows_of text ≡ header ∷ records → RecordsGive code Reads form [] records result) → ListGives code Reads (rows_of text) result
list_gives code Reads form text reader header result gave here read =
    let first = header_first text reader header gave in
    subst (λ rows. ListGives code Reads rows result) (sym first.1) (subst (λ o. Behind o code Reads first.0 result) (sym here) (read first.0 first.1))

-- ---- the replacements fit

abbrev pub Fitting : Code → Reading → Type 0
Fitting code Reads = (at : ℕ) (spelled : List ℕ) (with : Instr) → Reads at spelled (Fits with) → FitsPlace code at with

pub record AreGood (code : Code) (all : List Made) : Type 0 where
  pub fit : AllFit code all
  pub order : AreInOrder [] all

fit_more : (code : Code) (all : List Made) (made : Made) → AllFit code all → FitsPlace code made.place.0 made.with → AllFit code (all ++ made ∷ [])
fit_more code [] made fit here = (here, tt)
fit_more code (m ∷ all) made fit here = (fit.0, fit_more code all made fit.1 here)

records_good : (code : Code) (Reads : Reading) (form : ListForm) (all : List Made) (records : List Fields) (done : List Made) → Fitting code Reads
    → AreGood code all → RecordsGive code Reads form all records (Ok done) → AreGood code done
records_good code Reads form all [] done fitting good e = let same : all ≡ done = cc in subst (λ l. AreGood code l) same good
records_good code Reads form all (fields ∷ more) done fitting good (here, given, goes) =
    by here given goes (λ made g rest. records_good code Reads form (all ++ made ∷ []) more done fitting g rest)
  where
    by : (r : Result Made MutantError) → RecordGives code Reads form all (length all + 1) fields r
        → GoesOn r (λ made. RecordsGive code Reads form (all ++ made ∷ []) more (Ok done)) (Ok done)
        → ((made : Made) → AreGood code (all ++ made ∷ []) → RecordsGive code Reads form (all ++ made ∷ []) more (Ok done) → AreGood code done)
        → AreGood code done
    by (Err error) g rest later = cc
    by (Ok made) g rest later =
        let placed = record_placed code Reads form all fields made g in
        let fits = subst (λ n. FitsPlace code n made.with) (sym placed.at) (fitting _ _ made.with placed.reads) in
        let follows = record_follows code Reads form all fields made g (order-counted all good.order) in
        later made (record { fit = fit_more code all made good.fit fits; order = order-more [] all made good.order follows }) rest

pub list_good : (code : Code) (Reads : Reading) (records : List Fields) (done : List Made) → Fitting code Reads → ListGives code Reads records (Ok done) → AreGood code done
list_good code Reads [] done fitting e = cc
list_good code Reads (header ∷ records) done fitting e = by (form_of header) e
  where
    by : (o : Option ListForm) → Behind o code Reads records (Ok done) → AreGood code done
    by (Some form) g = records_good code Reads form [] records done fitting (record { fit = tt; order = tt }) g
    by None g = cc

-- the same of what may be refused for want of memory
pub list_gives_ok : (code : Code) (Reads : Reading) (form : ListForm) (text : List ℕ) (reader : Source) (header : Fields)
    (r : Result (Result (List Made) MutantError) OutOfMemory)
    → Gave text reader (header ∷ []) → form_of header ≡ Some form
    → ((text : List ℕ) (header : Fields) (records : List Fields) → Gave text reader (header ∷ []) → rows_of text ≡ header ∷ records
    → IfOk r (λ all. RecordsGive code Reads form [] records all))
    → IfOk r (λ all. ListGives code Reads (rows_of text) all)
list_gives_ok code Reads form text reader header (Ok all) gave here read =
    list_gives code Reads form text reader header all gave here (λ records rows. read text header records gave rows)
list_gives_ok code Reads form text reader header (Err e) gave here read = tt
