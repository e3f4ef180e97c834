use Rattle.std.proofs.Common.{◌≡◌, drop}
use Rattle.machine_form.specs.State.{with_bytes}
use Rattle.flat_state.proofs.write.write_bytes.Given as goal

abbrev pub invariant-loop-address : goal.invariant-loop-address
invariant-loop-address l = with_bytes l.bytes (drop l.address-index l.writes) ≡ with_bytes l.initial.bytes l.writes
