-- What was found of `groups`.
use Rattle.std.proofs.Common.{◌≡◌, ℕ, ◌+◌, ◌≤◌, List, Option, Some, None, Result, Ok, Err, IfOk, refl}
use Rattle.am_base.specs.Files.{Files}
use Rattle.traces.specs.Counts.{IsBetween}
use Rattle.traces.specs.Trace.{Trial}
use Rattle.traces.specs.Work.{steps, asks}
use Rattle.machine_form.specs.declared.change.Change.{Change}
use Rattle.machine_form.specs.Calls.{Answers}
use Rattle.machine_form.specs.State.{State}
use Rattle.ports.specs.Asks.{asked_in, AskedBy, AskedAtMostBy}
use Rattle.flat_analysis.specs.Ended.{AreEnded}
use Rattle.flat_analysis.specs.declared.ended.Ended.{Ended}
use Rattle.mutant_records.specs.Tables.{IsListOf}
use Rattle.mutant_records.specs.declared.list.Made.{Made}
use Rattle.mutant_records.specs.declared.list.MutantList.{MutantList}
use Rattle.test_suite.specs.declared.suite.Suite.{Suite}
use Rattle.test_suite.specs.declared.suite.Test.{Test}
use Rattle.refused_lines.specs.Refusals.{no_test_line}
use Rattle.command_texts.specs.Groups.{IsGroupsText}
use Rattle.command_files.specs.declared.module.Loaded.{Loaded}
use Rattle.command_plan.specs.declared.status.Input.TheVariants as input
use Rattle.command_plan.specs.declared.stop.Stop.TheVariants as stop
use Rattle.command_plan.specs.Plan.{Counts, Plan, Write}
use Rattle.command_plan.specs.Answer.{Found, RunsOut, refusal}
use Rattle.command_plan.proofs.Founds.{stay, missing_found, wanted_found}
use Rattle.commands.specs.declared.wanted.Point.{Point}
use Rattle.commands.specs.Alone.{counts_of, test_numbered}
use Rattle.commands.specs.Groups.{cut_trial, AreGroups, IsGroupsRise}
use Rattle.commands.specs.Plans.{groups_end}
use Rattle.commands.proofs.RunLemmas.{rises_by, rises_within}

module _ (files : Files) (answers : Answers) (p : Point) (m : Loaded) (all : List Made) (suite : Suite) where
  abbrev last : Test → Plan
  last t = Write (AreGroups m.code all answers p.step t) (IsGroupsRise m.code all answers p.step t)

  pub no_test : {E : Type 0} (counts : Counts) (made : Result (List ℕ) E) → test_numbered suite.tests p.test ≡ None
      → IfOk made (λ l. l ≡ no_test_line p.test)
      → Found files (λ name. ⊥) (groups_end answers p m all suite) counts counts (Err (refusal input.Tests made))
  no_test counts made none line =
      missing_found files (λ name. ⊥) input.Tests (no_test_line p.test) Test (test_numbered suite.tests p.test) last counts counts made none
      (stay counts) line

  module _ (t : Test) (list : MutantList) (is_list : IsListOf m.code all list) (is_test : test_numbered suite.tests p.test ≡ Some t) (old new : ℕ)
      (before after : List ℕ) where
    abbrev T : Trial State Change
    T = cut_trial m.code list.variants answers t p.step

    abbrev start : Counts
    start = counts_of old (asked_in before)

    abbrev end : Counts
    end = counts_of new (asked_in after)

    pub groups_found : (text : List ℕ) (classes : List Ended) → AreEnded T classes → IsGroupsText p.step classes text → new ≡ old + steps T
        → AskedBy before after (asks T) → Found files (λ name. ⊥) (groups_end answers p m all suite) start end (Ok text)
    groups_found text classes ended shows e h =
        let found : Found files (λ name. ⊥) (last t) start end (Ok text) = (
          counts_of (steps T) (asks T),
          ((list, is_list, classes, ended, shows), (list, is_list, refl)),
          rises_by old new before after (steps T) (asks T) e h,
        ) in
        wanted_found files (λ name. ⊥) input.Tests (no_test_line p.test) Test (test_numbered suite.tests p.test) t last start end (Ok text) is_test found

    pub no_groups : IsBetween old new (old + steps T) → AskedAtMostBy before after (asks T)
        → Found files (λ name. ⊥) (groups_end answers p m all suite) start end (Err stop.OutOfMemory)
    no_groups b h =
        let found : Found files (λ name. ⊥) (last t) start end (Err stop.OutOfMemory) =
        RunsOut.behind (counts_of (steps T) (asks T)) (list, is_list, refl) (rises_within old new before after (steps T) (asks T) b h) in
        wanted_found files (λ name. ⊥) input.Tests (no_test_line p.test) Test (test_numbered suite.tests p.test) t last start end
        (Err stop.OutOfMemory) is_test found
