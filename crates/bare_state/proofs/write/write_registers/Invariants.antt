use Rattle.std.proofs.Common.{◌≡◌, drop, length}
use Rattle.machine_form.specs.State.{with_writes}
use Rattle.bare_state.proofs.write.write_registers.Given as goal

abbrev pub invariant-loop-r : goal.invariant-loop-r
invariant-loop-r l = record {
  all : with_writes l.registers (drop l.r-index l.writes) ≡ with_writes l.initial.registers l.writes;
  long : length l.registers ≡ length l.initial.registers;
}
