-- The page: its parts in their order. Each is made of constants, letters, numbers and escaped texts.
use Rattle.std.specs.Prelude.{ℕ, List, ◌++◌, codes}
use Rattle.exec_core.specs.declared.result.Work.{Work}
use Rattle.kill_matrix.specs.Score.{Letters}
use Rattle.test_suite.specs.declared.suite.Suite.{Suite}
use Rattle.work_report.specs.Report.{total_of}
use Rattle.instruction_list.specs.declared.line.Line.{Line}
use Rattle.html_page.specs.declared.listed.Listed.{Listed}
use Rattle.html_page.specs.Head.{head}
use Rattle.html_page.specs.Found.{score_part, sums_part}
use Rattle.html_page.specs.Survivors.{survivors_part}
use Rattle.html_page.specs.Tests.{tests_part}
use Rattle.html_page.specs.Matrix.{matrix_part}
use Rattle.html_page.specs.Instructions.{lines_part}

abbrev pub page_text : Suite → Letters → List Work → List Line → List Listed → List ℕ
page_text suite grid works lines all =
    head ++ score_part grid ++ sums_part (total_of works) ++ survivors_part grid lines all ++ tests_part suite grid works
    ++ matrix_part suite grid ++ lines_part grid all lines ++ codes "</body>\n</html>\n"
