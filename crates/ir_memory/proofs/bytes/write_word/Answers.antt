use Rattle.std.proofs.Common.{◌++◌}
use Rattle.ir_rules.specs.Memory.{little_endian}
use Rattle.ir_memory.proofs.Buffers.{word-more}
use Rattle.ir_memory.proofs.bytes.write_word.Goals as goal

pub each-preserved : goal.each-preserved
each-preserved c =
    word-more c.each.buffer c.push.new.self (c.args.buffer.now ++ little_endian c.args.size c.args.word) c.args.size c.each._at c.each.rest
    c.each-test.true c.in_ok-push.ensures.ok c.each.invariant
