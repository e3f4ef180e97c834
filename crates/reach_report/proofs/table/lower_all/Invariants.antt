use Rattle.std.proofs.Common.{◌≡◌, fold, take}
use Rattle.reach_report.specs.Pass.{with_lesser}
use Rattle.reach_report.proofs.table.lower_all.Given as goal

abbrev pub invariant-mutants : goal.invariant-mutants
invariant-mutants l = l.table.items ≡ fold (with_lesser l.value) l.initial.table.items (take l.m-index l.mutants)
