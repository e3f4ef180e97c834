-- What is shown of what was found: the report, the summary of a workload, or the smaller suite.
use Rattle.std.specs.Prelude.{◌≡◌, ℕ, List, if◌then◌else◌, Some, None}
use Rattle.test_suite.specs.declared.suite.Suite.{Suite}
use Rattle.kill_matrix.specs.Score.{Letters}
use Rattle.exec_core.specs.declared.result.Work.{Work}
use Rattle.exec_core.specs.declared.result.Split.{Split}
use Rattle.work_report.specs.Report.{report_text, summary_text}
use Rattle.suite_reduce.specs.Text.{IsReduced}
use Rattle.suite_analysis.specs.declared.show.Show.{Show}
use Rattle.suite_analysis.specs.declared.show.Show.TheVariants.{Report, Summary, Reduced}

abbrev pub IsShown : Show → Suite → Letters → List Work → List (List Split) → List ℕ → Type 0
IsShown (Report with_splits) suite grid works splits text = text ≡ report_text suite grid works (if with_splits then Some splits else None)
IsShown (Summary number) suite grid works splits text = text ≡ summary_text number suite grid works
IsShown Reduced suite grid works splits text = IsReduced suite grid text
