use Rattle.std.proofs.Common.{◌≡◌, drop, length, None, replicate}
use Rattle.machine_form.specs.State.{with_writes}
use Rattle.machine_form.specs.Calls.{numbered}
use Rattle.bare_state.proofs.start.opening_registers.Given as goal

abbrev pub invariant-loop-i : goal.invariant-loop-i
invariant-loop-i l = record {
  words : with_writes l.all.items (numbered l.i (drop l.i l.args)) ≡ with_writes (replicate l.registers None) (numbered 0 l.args);
  long : length l.all.items ≡ l.registers;
}
