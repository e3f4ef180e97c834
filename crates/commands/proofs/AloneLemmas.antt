-- What was found of `alone`.
use Rattle.std.proofs.Common.{◌≡◌, ℕ, ◌+◌, ◌<◌, ◌≤◌, nat_le, true, false, List, length, Option, Some, None, Result, Ok, Err, IfOk, refl, arith}
use Rattle.std.proofs.lemmas.Bool.Decides.{nat_tests}
use Rattle.am_base.specs.Files.{Files}
use Rattle.machine_form.specs.Calls.{Answers}
use Rattle.plain_machine.specs.Tolls.{tolls_of}
use Rattle.ports.specs.Asks.{asked_in, AskedBy, AskedAtMostBy}
use Rattle.mutant_records.specs.Lists.{last_mutant}
use Rattle.mutant_records.specs.Tables.{IsListOf}
use Rattle.mutant_records.specs.declared.list.Made.{Made}
use Rattle.mutant_records.specs.declared.list.MutantList.{MutantList}
use Rattle.test_suite.specs.declared.suite.Suite.{Suite}
use Rattle.test_suite.specs.declared.suite.Test.{Test}
use Rattle.refused_lines.specs.Refusals.{no_mutant_line, no_test_line}
use Rattle.command_files.specs.declared.module.Loaded.{Loaded}
use Rattle.command_plan.specs.declared.status.Input.TheVariants as input
use Rattle.command_plan.specs.declared.stop.Stop.TheVariants as stop
use Rattle.command_plan.specs.Plan.{Counts, Plan, Want, Write}
use Rattle.command_plan.specs.Answer.{Found, RunsOut, Stay, RiseBy, RiseWithin, refusal}
use Rattle.command_plan.proofs.Founds.{stay, missing_found, wanted_found}
use Rattle.commands.specs.Alone.{counts_of, trial_on, run_text, mutant_numbered, test_numbered, IsRunText, IsRunRise}
use Rattle.commands.specs.Plans.{alone_end}

module _ (files : Files) (answers : Answers) (mutant test : ℕ) (m : Loaded) (all : List Made) (suite : Suite) where
  -- the test is looked for
  abbrev test_wanted : ℕ → Plan
  test_wanted n = Want input.Tests (no_test_line test) Test (test_numbered suite.tests test)
      (λ t. Write (IsRunText m.code all answers n t) (IsRunRise m.code all answers n t))

  abbrev plan : Plan
  plan = alone_end answers (record { mutant = mutant; test = test }) m all suite

  no_mutant : last_mutant all < mutant → mutant_numbered all mutant ≡ None
  no_mutant h = let past : nat_le mutant (last_mutant all) ≡ false = grind (arith, nat_tests) in rw past refl

  a_mutant : mutant ≤ last_mutant all → mutant_numbered all mutant ≡ Some mutant
  a_mutant h = let within : nat_le mutant (last_mutant all) ≡ true = grind (arith, nat_tests) in rw within refl

  pub mutant_missing : {E : Type 0} (counts : Counts) (made : Result (List ℕ) E) → last_mutant all < mutant → IfOk made (λ l. l ≡ no_mutant_line mutant)
      → Found files (λ name. ⊥) plan counts counts (Err (refusal input.Mutants made))
  mutant_missing counts made h line =
      missing_found files (λ name. ⊥) input.Mutants (no_mutant_line mutant) ℕ (mutant_numbered all mutant) test_wanted counts counts made (no_mutant h)
      (stay counts) line

  pub test_missing : {E : Type 0} (counts : Counts) (made : Result (List ℕ) E) → mutant ≤ last_mutant all → test_numbered suite.tests test ≡ None
      → IfOk made (λ l. l ≡ no_test_line test) → Found files (λ name. ⊥) plan counts counts (Err (refusal input.Tests made))
  test_missing counts made h none line =
      wanted_found files (λ name. ⊥) input.Mutants (no_mutant_line mutant) ℕ (mutant_numbered all mutant) mutant test_wanted counts counts
      (Err (refusal input.Tests made)) (a_mutant h)
      (missing_found files (λ name. ⊥) input.Tests (no_test_line test) Test (test_numbered suite.tests test)
      (λ t. Write (IsRunText m.code all answers mutant t) (IsRunRise m.code all answers mutant t)) counts counts made none (stay counts) line)

  module _ (t : Test) (list : MutantList) (is_list : IsListOf m.code all list) (steps : ℕ) (old new : List ℕ) (h : mutant ≤ last_mutant all)
      (is_test : test_numbered suite.tests test ≡ Some t) where
    abbrev tolls : ℕ → ℕ
    tolls = tolls_of (trial_on m.code list.variants answers t) mutant

    abbrev before : Counts
    before = counts_of steps (asked_in old)

    abbrev after : Counts
    after = counts_of steps (asked_in new)

    abbrev last : Plan
    last = Write (IsRunText m.code all answers mutant t) (IsRunRise m.code all answers mutant t)

    pub text_found : (text : List ℕ) → text ≡ run_text m.code list.variants answers mutant t → AskedBy old new tolls
        → Found files (λ name. ⊥) plan before after (Ok text)
    text_found text is asks =
        let rise : RiseBy before after (counts_of 0 tolls) = record { steps = omega arith; asks = asks } in
        let end : Found files (λ name. ⊥) last before after (Ok text) =
        (counts_of 0 tolls, ((list, is_list, is), (list, is_list, refl)), rise) in
        wanted_found files (λ name. ⊥) input.Mutants (no_mutant_line mutant) ℕ (mutant_numbered all mutant) mutant test_wanted before after (Ok text)
        (a_mutant h)
        (wanted_found files (λ name. ⊥) input.Tests (no_test_line test) Test (test_numbered suite.tests test) t
        (λ t. Write (IsRunText m.code all answers mutant t) (IsRunRise m.code all answers mutant t)) before after (Ok text) is_test end)

    pub none_found : AskedAtMostBy old new tolls → Found files (λ name. ⊥) plan before after (Err stop.OutOfMemory)
    none_found asks =
        let rise : RiseWithin before after (counts_of 0 tolls) = record {
          steps = omega arith;
          steps_within = omega arith;
          asks = λ port. (asks port).0;
          asks_within = λ port. (asks port).1;
        } in
        let end : Found files (λ name. ⊥) last before after (Err stop.OutOfMemory) = RunsOut.behind (counts_of 0 tolls) (list, is_list, refl) rise in
        wanted_found files (λ name. ⊥) input.Mutants (no_mutant_line mutant) ℕ (mutant_numbered all mutant) mutant test_wanted before after
        (Err stop.OutOfMemory) (a_mutant h)
        (wanted_found files (λ name. ⊥) input.Tests (no_test_line test) Test (test_numbered suite.tests test) t
        (λ t. Write (IsRunText m.code all answers mutant t) (IsRunRise m.code all answers mutant t)) before after (Err stop.OutOfMemory) is_test end)
