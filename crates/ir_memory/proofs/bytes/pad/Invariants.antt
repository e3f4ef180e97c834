use Rattle.std.proofs.Common.{◌≡◌, ◌++◌, replicate}
use Rattle.ir_memory.proofs.bytes.pad.Given as goal

abbrev pub invariant-each : goal.invariant-each
invariant-each l = l.buffer ≡ l.initial.buffer ++ replicate l._at 0
