use Rattle.std.proofs.Common.{◌≡◌, length}
use Rattle.suite_reduce.proofs.tests.matrix_of.Given as goal

abbrev pub invariant-rows : goal.invariant-rows
invariant-rows l = record { mutants : l.matrix.mutants ≡ 4; tests : length l.matrix.tests ≡ l.row-index }
