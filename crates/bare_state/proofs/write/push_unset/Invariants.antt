use Rattle.std.proofs.Common.{◌≡◌, ◌++◌, replicate, None, vec_capacity}
use Rattle.bare_state.proofs.write.push_unset.Given as goal

abbrev pub invariant-loop : goal.invariant-loop
invariant-loop l = record {
  items : l.registers.items ≡ l.initial.registers.items ++ replicate l.counter None;
  room : vec_capacity l.registers ≡ vec_capacity l.initial.registers;
}
