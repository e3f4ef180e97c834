-- The table of the tests.
use Rattle.std.specs.Prelude.{ℕ, Bool, nat_lt, ◌&&◌, if◌then◌else◌, List, [], ◌∷◌, ◌++◌, codes, decimal, length, count_by, slice_get, unwrap_or}
use Rattle.std.specs.List.{range_with_len}
use Rattle.exec_core.specs.declared.result.Work.{Work}
use Rattle.kill_matrix.specs.Score.{Letters, letter_of}
use Rattle.kill_matrix.specs.Verdict.{kills}
use Rattle.test_suite.specs.declared.suite.Suite.{Suite}
use Rattle.work_report.specs.Report.{each_below, name_at, no_work}
use Rattle.html_page.specs.Escaped.{escaped}
use Rattle.html_page.specs.Numbers.{thousands}

-- the test kills the mutant, which isn't the unchanged program
abbrev pub is_kill : Letters → ℕ → ℕ → Bool
is_kill grid t m = nat_lt 0 m && kills (letter_of grid m t)

-- how many it kills
abbrev pub kill_count : Letters → ℕ → ℕ
kill_count grid t = count_by (is_kill grid t) (range_with_len 0 grid.mutants)

-- a mutant, where the test kills it
abbrev pub killed_one : Letters → ℕ → ℕ → List ℕ
killed_one grid t m = if is_kill grid t m then 32 ∷ decimal m else []

-- the steps of a test, and those of the mutants one by one
abbrev pub took : Work → List ℕ
took w = codes "<td>" ++ thousands w.steps ++ codes "<td>" ++ thousands w.alone ++ codes "<td class=w>"

-- the name of a test and how many mutants it kills
abbrev pub front_of : List ℕ → ℕ → List ℕ
front_of name count = codes "<tr><th scope=row>" ++ escaped name ++ codes "<td>" ++ thousands count

-- those of a test
unfoldable pub row_front : Suite → Letters → ℕ → List ℕ
row_front suite grid t = front_of (name_at suite t) (kill_count grid t)

unfoldable pub row_work : List Work → ℕ → List ℕ
row_work works t = took (unwrap_or (slice_get works t) no_work)

-- the row of a test: its name, how many mutants it kills, what it took, and which it kills
abbrev pub test_row : Suite → Letters → List Work → ℕ → List ℕ
test_row suite grid works t = row_front suite grid t ++ row_work works t ++ each_below (killed_one grid t) grid.mutants ++ 10 ∷ []

abbrev pub tests_part : Suite → Letters → List Work → List ℕ
tests_part suite grid works =
    codes "<h2 id=tests>Tests</h2>\n<div class=t><table class=n>\n"
    ++ codes "<tr><th scope=col>test<th scope=col>kills<th scope=col>steps<th scope=col>one by one"
    ++ codes "<th scope=col>mutants that it kills\n"
    ++ each_below (test_row suite grid works) (length grid.tests) ++ codes "</table></div>\n"
