use Rattle.std.proofs.Common.{◌-◌}
use Rattle.suite_reduce.specs.Pass.{IsPass}
use Rattle.suite_reduce.proofs.choice.choose.Given as goal

abbrev pub invariant-pass : goal.invariant-pass
invariant-pass l = IsPass l.matrix (l.tests - l.k) l.chosen.items l.covered.items
