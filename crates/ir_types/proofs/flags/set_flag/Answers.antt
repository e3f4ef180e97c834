use Rattle.std.proofs.Common.{arith}
use Rattle.ir_types.proofs.Grounds.{sets-here, sets-past}
use Rattle.ir_types.proofs.flags.set_flag.Goals as goal

pub returns-then-number-len : goal.returns-then-number-len
returns-then-number-len c =
    sets-here c.args.flags.now c.set.new.self c.args.number (let inside = c.if-number-len.true in let l = c.len.ensures in omega arith) c.set.ensures

pub returns-else-number-len : goal.returns-else-number-len
returns-else-number-len c =
    sets-past c.args.flags.now c.args.number (let past = c.if-number-len.false in let l = c.len.ensures in omega arith)
