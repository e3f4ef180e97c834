-- A plan that goes through over some files is due to end so.
use Rattle.std.proofs.Common.{◌≡◌, ℕ, List, [], Bool, true, false, Option, Some, None, refl, inr}
use Rattle.std.specs.Prelude.{IsSome}
use Rattle.code_form.specs.declared.code.Code.{Code}
use Rattle.code_form.specs.declared.sign.PortSign.{PortSign}
use Rattle.traces.specs.Work.{steps, asks}
use Rattle.machine_form.specs.Calls.{Answers}
use Rattle.ports.specs.Asks.{answers_in}
use Rattle.plain_machine.specs.Tolls.{tolls_of}
use Rattle.mutant_records.specs.Order.{AreInOrder}
use Rattle.mutant_records.specs.declared.list.Made.{Made}
use Rattle.test_suite.specs.declared.suite.Suite.{Suite}
use Rattle.test_suite.specs.declared.suite.Test.{Test}
use Rattle.suite_analysis.specs.Runs.{suite_steps, suite_asks}
use Rattle.refused_lines.specs.Refusals.{no_mutant_line, no_test_line}
use Rattle.command_words.specs.Words.{Text}
use Rattle.command_words.specs.declared.command.Command.{Command}
use Rattle.command_words.specs.declared.command.Command.TheVariants.{Run, Check, Make, Alone, Groups, Reduce, Load}
use Rattle.command_plan.specs.declared.status.Input.{Input}
use Rattle.command_plan.specs.declared.status.Input.TheVariants as input
use Rattle.command_plan.specs.Ends.{Ends, Accepted}
use Rattle.command_plan.specs.Plan.{Counts, no_counts, Plan, Read, Want, Bound, Over, Write}
use Rattle.commands.specs.Alone.{counts_of, trial_on, IsRunText, IsRunRise, mutant_numbered, test_numbered}
use Rattle.commands.specs.Groups.{cut_trial, AreGroups, IsGroupsRise}
use Rattle.commands.specs.Plans.{is_listable, list_plan}
use Rattle.commands.specs.Run.{IsReportRise}
use Rattle.accmut_app.specs.Commands.{plan_of}
use Rattle.accmut_laws.specs.Passes.{Passes}
use Rattle.accmut_laws.proofs.AcceptedLists.{accepted_order}
use Rattle.accmut_laws.proofs.ListTables.{list_with}

-- wherever all is accepted, there are counts by which the counts are to rise
abbrev HasRise : Plan → Type 0
HasRise (Read name input refuses A accepts next) = (file : List ℕ) (x : A) → accepts file x → HasRise (next x)
HasRise (Want input line A None next) = Unit {0}
HasRise (Want input line A (Some x) next) = HasRise (next x)
HasRise (Bound false next) = Unit {0}
HasRise (Bound true next) = HasRise next
HasRise (Over own next) = HasRise next
HasRise (Write due rise) = (counts : Counts) × rise counts

-- the file of a name that is held
file_of : (o : Option (List ℕ)) → IsSome o → (file : List ℕ) × (o ≡ Some file)
file_of None h = cc
file_of (Some file) h = (file, refl)

want_rise : (input : Input) (line : List ℕ) (A : Type 0) (o : Option A) (next : A → Plan) → ((x : A) → HasRise (next x))
    → HasRise (Want input line A o next)
want_rise input line A None next h = tt
want_rise input line A (Some x) next h = h x

bound_rise : (within : Bool) (next : Plan) → HasRise next → HasRise (Bound within next)
bound_rise false next h = tt
bound_rise true next h = h

passed : (held : List ℕ → Option (List ℕ)) (Faulty : List ℕ → Type 0) (plan : Plan) → HasRise plan → Passes held plan
    → (counts : Counts) × Ends (Some held) Faulty plan (Accepted counts)
passed held Faulty (Read name input refuses A accepts next) rises h =
    let file = file_of (held name) h.1.held in
    let rest = passed held Faulty (next h.0) (rises file.0 h.0 (h.1.read file.0 file.1)) h.2 in
    (rest.0, inr (h.0, h.1, rest.1))
passed held Faulty (Want input line A None next) rises h = absurd h
passed held Faulty (Want input line A (Some x) next) rises h = passed held Faulty (next x) rises h
passed held Faulty (Bound false next) rises h = absurd h
passed held Faulty (Bound true next) rises h = passed held Faulty next rises h
passed held Faulty (Over own next) rises h = passed own (λ name. ⊥) next rises h
passed held Faulty (Write due rise) rises h = rises

module _ (code : Code) (all : List Made) (order : AreInOrder [] all) (answers : Answers) where
  suite_rise : (suite : Suite) → (counts : Counts) × IsReportRise code all answers suite counts
  suite_rise suite =
      let list = list_with code all order in
      (counts_of (suite_steps code list.0.variants answers suite.tests) (suite_asks code list.0.variants answers suite.tests), (list.0, list.1, refl))

  run_rise : (m : ℕ) (test : Test) → (counts : Counts) × IsRunRise code all answers m test counts
  run_rise m test = let list = list_with code all order in (counts_of 0 (tolls_of (trial_on code list.0.variants answers test) m), (list.0, list.1, refl))

  groups_rise : (step : ℕ) (test : Test) → (counts : Counts) × IsGroupsRise code all answers step test counts
  groups_rise step test =
      let list = list_with code all order in
      let T = cut_trial code list.0.variants answers test step in
      (counts_of (steps T) (asks T), (list.0, list.1, refl))

module _ (signs : List PortSign) (answers : List (List ℕ → Option ℕ)) where
  plan_rise : (c : Command Text) → HasRise (plan_of signs answers c)
  plan_rise (Check name) = λ file m is. (no_counts, refl)
  plan_rise (Make name) = λ file m is. bound_rise (is_listable m) (list_plan m) (no_counts, refl)
  plan_rise (Run files budget order splits) = λ file m is list all are tests suite fit.
      suite_rise m.code all (accepted_order signs m list all are) (answers_in answers) suite
  plan_rise (Alone files mutant test budget) = λ file m is list all are tests suite fit.
      let A = answers_in answers in
      let write : ℕ → Test → Plan = (λ n t. Write (IsRunText m.code all A n t) (IsRunRise m.code all A n t)) in
      let want : ℕ → Plan = (λ n. Want input.Tests (no_test_line test) Test (test_numbered suite.tests test) (write n)) in
      want_rise input.Mutants (no_mutant_line mutant) ℕ (mutant_numbered all mutant) want
      (λ n. want_rise input.Tests (no_test_line test) Test (test_numbered suite.tests test) (write n)
      (λ t. run_rise m.code all (accepted_order signs m list all are) A n t))
  plan_rise (Groups files test step budget order) = λ file m is list all are tests suite fit.
      let A = answers_in answers in
      let write : Test → Plan = (λ t. Write (AreGroups m.code all A step t) (IsGroupsRise m.code all A step t)) in
      want_rise input.Tests (no_test_line test) Test (test_numbered suite.tests test) write
      (λ t. groups_rise m.code all (accepted_order signs m list all are) A step t)
  plan_rise (Reduce files budget order) = λ file m is list all are tests suite fit.
      suite_rise m.code all (accepted_order signs m list all are) (answers_in answers) suite
  plan_rise (Load number) = λ file m is list all are tests suite fit.
      suite_rise m.code all (accepted_order [] m list all are) (answers_in []) suite

  pub plan_passed : (held : List ℕ → Option (List ℕ)) (Faulty : List ℕ → Type 0) (c : Command Text) → Passes held (plan_of signs answers c)
      → (counts : Counts) × Ends (Some held) Faulty (plan_of signs answers c) (Accepted counts)
  plan_passed held Faulty c = passed held Faulty (plan_of signs answers c) (plan_rise c)
