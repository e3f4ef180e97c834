use Rattle.std.proofs.Common.{bit_and, ◌-◌, ◌^◌}
use Rattle.lane_ops.proofs.Vectors.{of_second}
use Rattle.lane_ops.proofs.bits.FirstAloneLanewise.eight.Goals as goal

pub returns : goal.returns
returns c = of_second bit_and (λ y. 2 ^ 64 - 1 - y) c.args.left c.args.right
