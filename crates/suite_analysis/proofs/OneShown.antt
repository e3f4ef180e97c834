-- What is shown of what was found is one text.
use Rattle.std.proofs.Common.{◌≡◌, ℕ, List, sym, ◌∙◌}
use Rattle.test_suite.specs.declared.suite.Suite.{Suite}
use Rattle.kill_matrix.specs.Score.{Letters}
use Rattle.exec_core.specs.declared.result.Work.{Work}
use Rattle.exec_core.specs.declared.result.Split.{Split}
use Rattle.suite_reduce.proofs.OneReduced.{reduced-one}
use Rattle.suite_analysis.specs.Shown.{IsShown}
use Rattle.suite_analysis.specs.declared.show.Show.{Show}
use Rattle.suite_analysis.specs.declared.show.Show.TheVariants.{Report, Summary, Reduced}

pub shown-one : (show : Show) (suite : Suite) (grid : Letters) (works : List Work) (splits : List (List Split)) (text other : List ℕ)
    → IsShown show suite grid works splits text → IsShown show suite grid works splits other → text ≡ other
shown-one (Report with_splits) suite grid works splits text other h k = h ∙ sym k
shown-one (Summary number) suite grid works splits text other h k = h ∙ sym k
shown-one Reduced suite grid works splits text other h k = reduced-one suite grid text other h k
