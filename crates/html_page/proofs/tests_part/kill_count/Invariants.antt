use Rattle.std.proofs.Common.{◌≡◌, ◌≤◌}
use Rattle.std.specs.Prelude.{count_by}
use Rattle.std.specs.List.{range_with_len}
use Rattle.html_page.specs.Tests.{is_kill}
use Rattle.html_page.proofs.tests_part.kill_count.Given as goal

abbrev pub invariant-mutants : goal.invariant-mutants
invariant-mutants l = record {
  so_far : l.count ≡ count_by (is_kill l.matrix l.t) (range_with_len 0 l.m);
  few : l.count ≤ l.m;
}
