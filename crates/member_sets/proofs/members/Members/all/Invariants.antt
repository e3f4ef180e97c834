use Rattle.std.proofs.Common.{◌≡◌}
use Rattle.traces.specs.Together.{below}
use Rattle.member_sets.proofs.members.Members.all.Given as goal

abbrev pub invariant-loop-m : goal.invariant-loop-m
invariant-loop-m l = l.list.items ≡ below l.m
