use Rattle.suite_reduce.specs.Scan.{IsScan}
use Rattle.suite_reduce.proofs.least.subsumers.Given as goal

abbrev pub invariant-mutants : goal.invariant-mutants
invariant-mutants l = IsScan l.matrix l.minimal.items l.b l.found.items
