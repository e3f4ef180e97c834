use Rattle.std.proofs.Common.{◌≡◌, ◌++◌, flat_map, take}
use Rattle.html_page.specs.Matrix.{column_of}
use Rattle.html_page.proofs.matrix_part.put_columns.Given as goal

abbrev pub invariant-tests : goal.invariant-tests
invariant-tests l = l.out ≡ l.initial.out ++ flat_map (column_of) (take l.test-index l.tests)
