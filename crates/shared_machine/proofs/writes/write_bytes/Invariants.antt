use Rattle.std.proofs.Common.{take}
use Rattle.shared_machine.specs.Written.{AreWritten}
use Rattle.shared_machine.proofs.writes.write_bytes.Given as goal

abbrev pub invariant-loop-address : goal.invariant-loop-address
invariant-loop-address l = AreWritten l.initial.store l.store l.memory (take l.address-index l.bytes)
