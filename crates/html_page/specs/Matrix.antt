-- The matrix.
use Rattle.std.specs.Prelude.{ℕ, ◌==◌, if◌then◌else◌, List, [], ◌∷◌, ◌++◌, codes, decimal, flat_map, length}
use Rattle.kill_matrix.specs.Score.{Letters, letter_of, is_killed}
use Rattle.kill_matrix.specs.declared.letter.Letter.{Letter}
use Rattle.kill_matrix.specs.declared.letter.Letter.TheVariants.{Same, Budget, Trap, Return, Output}
use Rattle.test_suite.specs.declared.suite.Suite.{Suite}
use Rattle.test_suite.specs.declared.suite.Test.{Test}
use Rattle.work_report.specs.Report.{each_below}
use Rattle.html_page.specs.Escaped.{escaped}

-- the cell of a letter, with a colour for each but the first
abbrev pub cell_of : Letter → List ℕ
cell_of Same = codes "<td>."
cell_of Budget = codes "<td class=B>B"
cell_of Trap = codes "<td class=T>T"
cell_of Return = codes "<td class=R>R"
cell_of Output = codes "<td class=O>O"

-- the rows of the unchanged program, of a killed mutant and of a survivor begin differently
abbrev pub row_start : Letters → ℕ → List ℕ
row_start grid m =
    if m == 0 then codes "<tr class=o><th scope=row>"
    else (if is_killed grid m then codes "<tr><th scope=row>" else codes "<tr class=s><th scope=row>")

-- a mutant with its letter on each test
abbrev pub mutant_row : Letters → ℕ → List ℕ
mutant_row grid m = row_start grid m ++ decimal m ++ each_below (λ t. cell_of (letter_of grid m t)) (length grid.tests) ++ 10 ∷ []

abbrev pub column_of : Test → List ℕ
column_of test = codes "<th scope=col>" ++ escaped test.name

unfoldable pub legend : List ℕ
legend =
    codes "<p><b class=R>R</b> another ending, <b class=O>O</b> another output,\n"
    ++ codes "<b class=T>T</b> a trap, <b class=B>B</b> cut off at the budget, <b>.</b> as expected.\n"
    ++ codes "Mutant 0 is the unchanged program.</p>\n"

abbrev pub matrix_part : Suite → Letters → List ℕ
matrix_part suite grid =
    codes "<h2 id=matrix>Matrix</h2>\n" ++ legend ++ codes "<div class=t><table class=m>\n<tr><th scope=col>mutant"
    ++ flat_map column_of suite.tests ++ 10 ∷ each_below (mutant_row grid) grid.mutants ++ codes "</table></div>\n"
