use Rattle.std.proofs.Common.{◌≡◌, ◌≤◌, ◌++◌, length, map, reverse}
use Rattle.exec_core.specs.Plans.{own_firsts}
use Rattle.exec_core.proofs.plan.plans_for.Given as goal

abbrev pub invariant-loop-change : goal.invariant-loop-change
invariant-loop-change g l = record {
  members : l.parts ++ reverse (map (λ p. p.members) l.plans.items) ≡ l.fn.parts;
  changes : own_firsts l.numbers 0 l.changes.items ++ reverse (map (λ p. p.change) l.plans.items) ≡ own_firsts l.numbers 0 l.fn.changes.items;
  as_many : length l.parts ≡ length (own_firsts l.numbers 0 l.changes.items);
  within : length l.changes.items ≤ length l.numbers;
}

abbrev pub decreases-loop-change : goal.decreases-loop-change
decreases-loop-change g l = length l.changes.items
