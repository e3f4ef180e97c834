-- What was found of `run`.
use Rattle.std.proofs.Common.{◌≡◌, ℕ, ◌+◌, ◌≤◌, Bool, List, Ok, Err, refl}
use Rattle.am_base.specs.Files.{Files}
use Rattle.traces.specs.Counts.{IsBetween}
use Rattle.machine_form.specs.Calls.{Answers}
use Rattle.ports.specs.Asks.{asked_in, AskedBy, AskedAtMostBy}
use Rattle.mutant_records.specs.Tables.{IsListOf}
use Rattle.mutant_records.specs.declared.list.Made.{Made}
use Rattle.mutant_records.specs.declared.list.MutantList.{MutantList}
use Rattle.test_suite.specs.declared.suite.Suite.{Suite}
use Rattle.suite_analysis.specs.Runs.{IsReport, suite_steps, suite_asks}
use Rattle.command_files.specs.declared.module.Loaded.{Loaded}
use Rattle.suite_analysis.specs.declared.show.Show.{Show}
use Rattle.command_plan.specs.declared.stop.Stop.TheVariants as stop
use Rattle.command_plan.specs.Plan.{Counts}
use Rattle.command_plan.specs.Answer.{Found, RunsOut, RiseBy, RiseWithin}
use Rattle.commands.specs.Alone.{counts_of}
use Rattle.commands.specs.Plans.{run_end}

-- counts rose by these numbers
pub rises_by : (old new : ℕ) (before after : List ℕ) (steps : ℕ) (asks : ℕ → ℕ) → new ≡ old + steps → AskedBy before after asks
    → RiseBy (counts_of old (asked_in before)) (counts_of new (asked_in after)) (counts_of steps asks)
rises_by old new before after steps asks e h = record { steps = e; asks = h }

-- counts rose by at most these numbers
pub rises_within : (old new : ℕ) (before after : List ℕ) (steps : ℕ) (asks : ℕ → ℕ) → IsBetween old new (old + steps)
    → AskedAtMostBy before after asks
    → RiseWithin (counts_of old (asked_in before)) (counts_of new (asked_in after)) (counts_of steps asks)
rises_within old new before after steps asks b h = record {
  steps = b.least;
  steps_within = b.most;
  asks = λ port. (h port).0;
  asks_within = λ port. (h port).1;
}

module _ (files : Files) (answers : Answers) (show : Show) (m : Loaded) (all : List Made) (suite : Suite) (list : MutantList)
    (is_list : IsListOf m.code all list) (old new : ℕ) (before after : List ℕ) where
  abbrev steps : ℕ
  steps = suite_steps m.code list.variants answers suite.tests

  abbrev asks : ℕ → ℕ
  asks = suite_asks m.code list.variants answers suite.tests

  pub report_found : (text : List ℕ) → IsReport m.code list.variants answers show suite text → new ≡ old + steps → AskedBy before after asks
      → Found files (λ name. ⊥) (run_end answers show m all suite) (counts_of old (asked_in before)) (counts_of new (asked_in after)) (Ok text)
  report_found text is e h =
      (counts_of steps asks, ((list, is_list, is), (list, is_list, refl)), rises_by old new before after steps asks e h)

  pub no_report : IsBetween old new (old + steps) → AskedAtMostBy before after asks
      → Found files (λ name. ⊥) (run_end answers show m all suite) (counts_of old (asked_in before)) (counts_of new (asked_in after))
      (Err stop.OutOfMemory)
  no_report b h = RunsOut.behind (counts_of steps asks) (list, is_list, refl) (rises_within old new before after steps asks b h)
