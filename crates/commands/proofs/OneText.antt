-- The run of a mutant by itself has one text: two tables of the same replacements give each mutant the same program.
use Rattle.std.proofs.Common.{◌≡◌, ◌≢◌, ◌⊎◌, ℕ, zero, suc, ◌+◌, Bool, ◌==◌, nat_le, List, [], ◌∷◌, ◌++◌, length, Option, Some, None, slice_get, unwrap_or, refl, subst, sym, ap, ◌∙◌, arith, is_some}
use mathlib.Core.Logic.{⊎_elim}
use Rattle.std.proofs.lemmas.Bool.{cases_eq}
use Rattle.std.specs.Prelude.{slice_set}
use Rattle.std.proofs.Math.Path.{fun_ext}
use Rattle.code_form.specs.declared.code.Code.{Code}
use Rattle.code_form.specs.declared.instr.Instr.{Instr}
use Rattle.code_form.specs.Places.{instr_at, result_at}
use Rattle.code_form.specs.Variant.{Table, number_at, replacements_at, instr_of, IsNumbered, same, known, fresh, AreDifferent, Adds}
use Rattle.code_form.proofs.Lists.{different_numbered}
use Rattle.traces.specs.Meanings.{Meanings}
use Rattle.traces.specs.Trace.{Trial, trace}
use Rattle.machine_form.specs.declared.change.Change.{Change}
use Rattle.machine_form.specs.After.{after_change}
use Rattle.machine_form.specs.Calls.{Answers}
use Rattle.machine_form.specs.Machine.{machine_of, is_known, toll_of, outcome_of}
use Rattle.machine_form.specs.Next.{next_of}
use Rattle.machine_form.specs.Pages.{pages_of}
use Rattle.machine_form.specs.Same.{same_change}
use Rattle.machine_form.specs.Start.{start_of}
use Rattle.machine_form.specs.State.{State}
use Rattle.plain_machine.specs.Tolls.{tolls_of}
use Rattle.mutant_records.specs.Lists.{last_mutant}
use Rattle.mutant_records.specs.Tables.{IsEmptyTable, ListFrom, IsListOf, row_of}
use Rattle.mutant_records.specs.declared.list.Made.{Made}
use Rattle.mutant_records.specs.declared.list.MutantList.{MutantList}
use Rattle.mutant_records.specs.declared.list.MutantRow.{MutantRow}
use Rattle.test_suite.specs.declared.suite.Test.{Test}
use Rattle.command_plan.specs.Plan.{Counts}
use Rattle.command_texts.specs.Alone.{alone_text}
use Rattle.commands.specs.Alone.{counts_of, trial_on, result_type, run_text, IsRunText, IsRunRise}

-- ---- tables

-- the same for each mutant and each place
pub record Alike (t u : Table) : Type 0 where
  pub chosen : t.chosen ≡ u.chosen
  pub places : (at : ℕ) → replacements_at t at ≡ replacements_at u at

abbrev IsNeat : Table → Type 0
IsNeat t = (at : ℕ) → AreDifferent (replacements_at t at)

nothing-one : {A : Type 0} (xs ys : List (List A)) → length xs ≡ length ys → ((m : ℕ) → unwrap_or (slice_get xs m) [] ≡ [])
    → ((m : ℕ) → unwrap_or (slice_get ys m) [] ≡ []) → xs ≡ ys
nothing-one [] [] l h k = refl
nothing-one [] (y ∷ ys) l h k = absurd (omega (arith, l))
nothing-one (x ∷ xs) [] l h k = absurd (omega (arith, l))
nothing-one (x ∷ xs) (y ∷ ys) l h k =
    let first : x ≡ [] = h 0 in
    let second : y ≡ [] = k 0 in
    let rest = nothing-one xs ys (omega (arith, l)) (λ m. h (suc m)) (λ m. k (suc m)) in
    ap (λ z. z ∷ xs) (first ∙ sym second) ∙ ap (λ zs. y ∷ zs) rest

empty-alike : (n : ℕ) (t u : Table) → IsEmptyTable n t → IsEmptyTable n u → Alike t u
empty-alike n t u h k = record {
  chosen = nothing-one t.chosen u.chosen (h.mutants_are ∙ sym k.mutants_are) h.nothing_chosen k.nothing_chosen;
  places = λ at. h.nothing_mentioned at ∙ sym (k.nothing_mentioned at);
}

nothing-different : AreDifferent []
nothing-different j k i h g = absurd (cc h)

empty-neat : (n : ℕ) (t : Table) → IsEmptyTable n t → IsNeat t
empty-neat n t h at = subst AreDifferent (sym (h.nothing_mentioned at)) nothing-different

-- a replacement gets one number
numbered-one : {original with : Instr} {before after others : List Instr} {n k : ℕ} → AreDifferent before → IsNumbered original before with n after
    → IsNumbered original before with k others → (n ≡ k) × (after ≡ others)
numbered-one d (same e) (same f) = (refl, refl)
numbered-one d (same e) (known k ne g) = absurd (ne e)
numbered-one d (same e) (fresh ne absent) = absurd (ne e)
numbered-one d (known j ne g) (same f) = absurd (ne f)
numbered-one {with = w} d (known j ne g) (known k other f) = (ap (λ n. n + 1) (d j k w g f), refl)
numbered-one d (known j ne g) (fresh other absent) = absurd (absent j g)
numbered-one d (fresh ne absent) (same f) = absurd (ne f)
numbered-one d (fresh ne absent) (known k other f) = absurd (absent k f)
numbered-one d (fresh ne absent) (fresh other absent') = (refl, refl)

module _ (code : Code) where
  adds-one : (t u next other : Table) (m at : ℕ) (with : Instr) → Alike t u → IsNeat t → Adds code t next m at with → Adds code u other m at with
      → Alike next other
  adds-one t u next other m at with alike neat a b =
      let there = subst (λ is. IsNumbered (instr_at code at) is with b.number (replacements_at other at)) (sym (alike.places at)) b.numbered in
      let one = numbered-one (neat at) a.numbered there in
      record {
        chosen = a.chosen ∙ ap (λ (c : List (List (ℕ × ℕ))). slice_set c m (unwrap_or (slice_get c m) [] ++ (at, a.number) ∷ [])) alike.chosen
            ∙ ap (λ (n : ℕ). slice_set u.chosen m (unwrap_or (slice_get u.chosen m) [] ++ (at, n) ∷ [])) one.0 ∙ sym b.chosen;
        places = λ q. ⊎_elim (λ e. subst (λ k. replacements_at next k ≡ replacements_at other k) (sym e) one.1)
            (λ ne. a.others q ne ∙ alike.places q ∙ sym (b.others q ne)) (cases_eq q at);
      }

  adds-neat : (t next : Table) (m at : ℕ) (with : Instr) → IsNeat t → Adds code t next m at with → IsNeat next
  adds-neat t next m at with neat a q =
      ⊎_elim (λ e. subst (λ k. AreDifferent (replacements_at next k)) (sym e) (different_numbered a.numbered (neat at)))
      (λ ne. subst AreDifferent (sym (a.others q ne)) (neat q)) (cases_eq q at)

  from-one : (all : List Made) (t u last other : Table) (rows more ends others : List MutantRow) → Alike t u → IsNeat t
      → ListFrom code t rows all last ends → ListFrom code u more all other others → Alike last other
  from-one [] t u last other rows more ends others alike neat h k =
      subst (λ v. Alike v other) (sym h.0) (subst (λ v. Alike t v) (sym k.0) alike)
  from-one (made ∷ all) t u last other rows more ends others alike neat h k =
      from-one all h.0 k.0 last other (rows ++ row_of h.0 made ∷ []) (more ++ row_of k.0 made ∷ []) ends others
      (adds-one t u h.0 k.0 made.mutant made.place.0 made.with alike neat h.1 k.1) (adds-neat t h.0 made.mutant made.place.0 made.with neat h.1) h.2 k.2

  pub lists-alike : (all : List Made) (list other : MutantList) → IsListOf code all list → IsListOf code all other → Alike list.variants other.variants
  lists-alike all list other h k =
      from-one all h.start k.start list.variants other.variants [] [] list.rows other.rows
      (empty-alike (last_mutant all + 1) h.start k.start h.empty k.empty) (empty-neat (last_mutant all + 1) h.start h.empty) h.added k.added

-- ---- runs

module _ (code : Code) (answers : Answers) where
  instr-one : (t u : Table) → Alike t u → (at n : ℕ) → instr_of code t at n ≡ instr_of code u at n
  instr-one t u h at zero = refl
  instr-one t u h at (suc k) = ap (λ is. unwrap_or (slice_get is k) (instr_at code at)) (h.places at)

  -- the machine by what it reads of a table
  abbrev machine_by : (ℕ → ℕ → Bool) → (ℕ → ℕ → Instr) → Meanings State Change
  machine_by knows instr = record {
    place = λ s. s.running.place;
    ended = λ s. is_some s.ending;
    knows = knows;
    next = λ v s. next_of code answers s (result_at code s.running.place) (instr s.running.place v);
    after = after_change code;
    weight = λ c. pages_of c.bytes;
    toll = λ p v s. toll_of p s (instr s.running.place v);
    same = same_change;
  }

  machine-one : (t u : Table) → Alike t u → machine_of code t answers ≡ machine_of code u answers
  machine-one t u h =
      let knows : is_known t ≡ is_known u = fun_ext (λ at. fun_ext (λ v. ap (λ is. nat_le v (length is)) (h.places at))) in
      let instrs : instr_of code t ≡ instr_of code u = fun_ext (λ at. fun_ext (λ n. instr-one t u h at n)) in
      ap (λ k. machine_by k (instr_of code t)) knows ∙ ap (machine_by (is_known u)) instrs

  abbrev trial_by : Test → Meanings State Change → List (List (ℕ × ℕ)) → Trial State Change
  trial_by test machine chosen = record {
    meanings = machine;
    variant = λ m at. number_at (unwrap_or (slice_get chosen m) []) at;
    start = start_of code test.case;
    budget = test.case.budget;
    mutants = length chosen;
  }

  pub trials-one : (t u : Table) (test : Test) → Alike t u → trial_on code t answers test ≡ trial_on code u answers test
  trials-one t u test h =
      ap (λ machine. trial_by test machine t.chosen) (machine-one t u h) ∙ ap (trial_by test (machine_of code u answers)) h.chosen

-- ---- the laws

module _ (code : Code) (all : List Made) (answers : Answers) (m : ℕ) (test : Test) where
  runs-one : (list other : MutantList) → IsListOf code all list → IsListOf code all other
      → trial_on code list.variants answers test ≡ trial_on code other.variants answers test
  runs-one list other h k = trials-one code answers list.variants other.variants test (lists-alike code all list other h k)

  pub text-one : (text other : List ℕ) → IsRunText code all answers m test text → IsRunText code all answers m test other → text ≡ other
  text-one text other h k =
      h.2 ∙ ap (λ T. alone_text m test.name (result_type code test) (outcome_of T m) (length (trace T m))) (runs-one h.0 k.0 h.1 k.1) ∙ sym k.2

  pub rise-one : (counts other : Counts) → IsRunRise code all answers m test counts → IsRunRise code all answers m test other → counts ≡ other
  rise-one counts other h k = h.2 ∙ ap (λ T. counts_of 0 (tolls_of T m)) (runs-one h.0 k.0 h.1 k.1) ∙ sym k.2
