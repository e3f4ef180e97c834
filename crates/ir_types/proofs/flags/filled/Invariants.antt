use Rattle.std.proofs.Common.{◌≡◌, replicate}
use Rattle.ir_types.proofs.flags.filled.Given as goal

abbrev pub invariant-each : goal.invariant-each
invariant-each g l = l.list ≡ replicate l._number l.item
