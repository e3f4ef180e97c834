-- What `run` and `groups` have written where they are Done.
use Rattle.std.proofs.Common.{◌≡◌, ℕ, ◌+◌, Bool, List, Option, Some, None, refl, ap, ◌∙◌}
use Rattle.am_base.specs.Text.{appended}
use Rattle.code_form.specs.declared.code.Code.{Code}
use Rattle.code_form.specs.Variant.{Table}
use Rattle.ports.specs.Asks.{answers_in}
use Rattle.machine_form.specs.Calls.{Answers}
use Rattle.machine_form.proofs.SameTests.{machine_same}
use Rattle.flat_analysis.specs.Ended.{AreEnded}
use Rattle.flat_analysis.specs.declared.ended.Ended.{Ended}
use Rattle.test_suite.specs.declared.suite.Test.{Test}
use Rattle.suite_analysis.specs.declared.show.Show.TheVariants.{Report}
use Rattle.refused_lines.specs.Refusals.{no_test_line}
use Rattle.command_words.specs.Words.{Text}
use Rattle.command_words.specs.declared.command.Command.TheVariants.{Run, Groups}
use Rattle.command_words.specs.declared.command.Files.{Files}
use Rattle.command_plan.specs.declared.status.Input.TheVariants as input
use Rattle.command_plan.specs.declared.status.Status.TheVariants.{Done}
use Rattle.command_plan.specs.Ends.{Ends, Text as Whole}
use Rattle.command_plan.specs.Plan.{Counts, Plan, Want, Write}
use Rattle.commands.specs.Alone.{test_numbered, trial_on}
use Rattle.commands.specs.Groups.{cut_at, cut_trial, AreGroups, IsGroupsRise, AreClassesAt}
use Rattle.commands.specs.Plans.{run_end, groups_end}
use Rattle.accmut_app.specs.Call.{Devices, FileRose, IsAnswerTo}
use Rattle.accmut_app.specs.Commands.{steps_of}
use Rattle.accmut_laws.specs.Headline.{ReportsRun, ShowsGroups}
use Rattle.accmut_laws.proofs.GroupsText.{shown}
use Rattle.accmut_laws.proofs.Headlines.{behind, report_says, steps_rise}

module _ (before after : Devices) (names : Files Text) where
  pub run_reports : (budget : Option ℕ) (order : Option Text) (with_splits : Bool) → IsAnswerTo (Run names budget order with_splits) before after Done
      → ReportsRun before after names (steps_of budget) with_splits
  run_reports budget order with_splits h =
      let A = answers_in before.ports.answers in
      let r = behind before.files (FileRose before after) before.ports.signs (steps_of budget) names.module names.mutants names.tests
      (run_end A (Report with_splits)) h.text h.counts h.ends in
      let report = r.ends.0 in
      let list = report.0 in
      record {
        m = r.m;
        list = list;
        suite = r.suite;
        read = record { module_is = r.module_is; all = r.all; mutants_are = r.mutants_are; list_is = report.1; tests_are = r.tests_are };
        text = h.text;
        written = h.written;
        says = report_says r.m.code list.variants A r.suite with_splits h.text report.2;
        metered = h.rise.steps ∙ ap (λ n. before.steps + n) (steps_rise r.m.code r.all A r.suite list h.counts report.1 r.ends.1);
      }

  -- a test that is wanted is there
  there : (t : ℕ) (wanted : Option Test) (next : Test → Plan) (text : List ℕ) (counts : Counts)
      → Ends before.files (FileRose before after) (Want input.Tests (no_test_line t) Test wanted next) (Whole text counts)
      → (test : Test) × (wanted ≡ Some test) × Ends before.files (FileRose before after) (next test) (Whole text counts)
  there t None next text counts h = absurd (cc h)
  there t (Some test) next text counts h = (test, refl, h)

  pub groups_show : ((code : Code) (table : Table) (answers : Answers) (test : Test) (step : ℕ) (classes : List Ended)
      → AreEnded (cut_trial code table answers test step) classes → AreClassesAt (trial_on code table answers test) step classes)
      → (t step : ℕ) (budget : Option ℕ) (order : Option Text) → IsAnswerTo (Groups names t step budget order) before after Done
      → ShowsGroups before after names (steps_of budget) t step
  groups_show law t step budget order h =
      let A = answers_in before.ports.answers in
      let r = behind before.files (FileRose before after) before.ports.signs (steps_of budget) names.module names.mutants names.tests
      (groups_end A (record { test = t; step = step })) h.text h.counts h.ends in
      let w = there t (test_numbered r.suite.tests t) (λ t. Write (AreGroups r.m.code r.all A step t) (IsGroupsRise r.m.code r.all A step t))
      h.text h.counts r.ends in
      let groups = w.2.0 in
      let list = groups.0 in
      let T = trial_on r.m.code list.variants A w.0 in
      let classes = groups.2 in
      record {
        m = r.m;
        list = list;
        suite = r.suite;
        read = record { module_is = r.module_is; all = r.all; mutants_are = r.mutants_are; list_is = groups.1; tests_are = r.tests_are };
        test = w.0;
        wanted = w.1;
        written = h.written ∙ ap (appended before.written) (shown T (machine_same r.m.code list.variants A) step (cut_at step w.0.case.budget) classes groups.3
            (law r.m.code list.variants A w.0 step classes groups.3) h.text groups.4);
      }
