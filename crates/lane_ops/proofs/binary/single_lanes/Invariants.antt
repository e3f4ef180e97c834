use Rattle.std.proofs.Common.{◌≡◌, take}
use Rattle.std.specs.Simd.Lanes.{zip2}
use Rattle.lane_ops.specs.Lane.{lane_word, lane_trap}
use Rattle.lane_ops.proofs.binary.single_lanes.Given as goal

abbrev pub invariant-loop-i : goal.invariant-loop-i
invariant-loop-i l = record {
  words : take l.i l.out ≡ zip2 (lane_word l.op l.w) (take l.i l.a) (take l.i l.b);
  traps : take l.i l.traps ≡ zip2 (lane_trap l.op l.w) (take l.i l.a) (take l.i l.b);
}
