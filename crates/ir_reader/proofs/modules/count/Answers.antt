use Rattle.std.proofs.Common.{arith}
use Rattle.ir_reader.proofs.Places.{rise_few}
use Rattle.ir_reader.proofs.modules.count.Goals as goal

pub overflow_cast-result : goal.overflow_cast-result
overflow_cast-result c =
    let few = rise_few c.args.tokens.now c.requires.0 c.end_of-end.result _ c.requires.1 c.in-len1-up.len_at_least c.end_of-end.ensures in
    omega arith
