use Rattle.std.proofs.Common.{◌≡◌, ◌+◌, ◌*◌, take}
use Rattle.ir_init_rules.specs.Same.{same_parts}
use Rattle.ir_init_rules.proofs.Structures.{levels_at, levels_of, levels_below}
use Rattle.ir_init_rules.proofs.same.+same.Given as goal

abbrev pub invariant-same_parts-each : goal.invariant-same_parts-each
invariant-same_parts-each l = l.same ≡ same_parts l.table (take l.k l.first) (take l.k l.second)

abbrev pub decreases-same_types : goal.decreases-same_types
decreases-same_types l = 4 * levels_at l.table.now l.m + 3

abbrev pub decreases-same_levels : goal.decreases-same_levels
decreases-same_levels l = 4 * levels_below l.table.now l.first.now + 2

abbrev pub decreases-also_same : goal.decreases-also_same
decreases-also_same l = 4 * levels_at l.table.now l.m + 4

abbrev pub decreases-same_parts : goal.decreases-same_parts
decreases-same_parts l = 4 * levels_of l.table.now l.first.now + 5
