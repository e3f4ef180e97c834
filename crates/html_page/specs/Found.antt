-- The score and the work as sentences.
use Rattle.std.specs.Prelude.{◌-◌, List, ◌++◌, codes, ℕ}
use Rattle.exec_core.specs.declared.result.Work.{Work}
use Rattle.kill_matrix.specs.Score.{Letters, killed_of}
use Rattle.html_page.specs.Numbers.{thousands}

abbrev pub counts_part : ℕ → ℕ → List ℕ
counts_part killed mutants =
    codes "<p class=big><b>" ++ thousands killed ++ codes "</b> of <b>" ++ thousands mutants ++ codes "</b> mutants are killed.</p>\n"

-- how many mutants are killed, the original not counted
abbrev pub score_part : Letters → List ℕ
score_part grid = counts_part (killed_of grid) (grid.mutants - 1)

-- how many steps the tests took, and how many they take where each mutant runs by itself
abbrev pub sums_part : Work → List ℕ
sums_part sums =
    codes "<p>The tests took <b>" ++ thousands sums.steps ++ codes "</b> steps in place of <b>" ++ thousands sums.alone
    ++ codes "</b> one by one.</p>\n"
