use Rattle.std.proofs.Common.{◌≡◌, ◌++◌, drop}
use Rattle.html_page.specs.Instructions.{rows_from}
use Rattle.html_page.proofs.lines_part.put_rows.Given as goal

-- with what is left it's all rows
abbrev pub invariant-each : goal.invariant-each
invariant-each l = l.out ++ rows_from l.matrix l.all l.k (drop l.k l.lines) ≡ l.initial.out ++ rows_from l.matrix l.all 0 l.lines
