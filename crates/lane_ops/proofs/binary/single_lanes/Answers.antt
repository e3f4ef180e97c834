use Rattle.std.proofs.Common.{arith, ap, sym, ◌∙◌}
use Rattle.lane_ops.specs.Lane.{lane_word, lane_trap, word_or_zero, trap_or_zero}
use Rattle.lane_ops.proofs.Loops.{lane_more}
use Rattle.lane_ops.proofs.binary.single_lanes.Goals as goal
use Rattle.lane_ops.proofs.binary.single_lanes.Goals.{in-Ok, in-Err}

pub loop-i-preserved : goal.loop-i-preserved
loop-i-preserved c =
    let word = lane_word c.args.op c.args.w in
    let trap = lane_trap c.args.op c.args.w in
    let l = c.loop-i in
    let a = c.args.a.now in
    let b = c.args.b.now in
    elim c.match-binary.branch [
      | in-Ok w ↦
          let is = sym w.in-Ok.is ∙ c.binary.ensures in
          rw (w.out-is, w.traps-is) (record {
            words = lane_more word l.i w.in-Ok.word a b l.out c.loop-i-test.true c.requires.right (omega arith) (ap word_or_zero is) l.invariant.words;
            traps = lane_more trap l.i 0 a b l.traps c.loop-i-test.true c.requires.right (omega arith) (ap trap_or_zero is) l.invariant.traps;
          })
      | in-Err w ↦
          let is = sym w.in-Err.is ∙ c.binary.ensures in
          rw (w.out-is, w.traps-is) (record {
            words = lane_more word l.i 0 a b l.out c.loop-i-test.true c.requires.right (omega arith) (ap word_or_zero is) l.invariant.words;
            traps = lane_more trap l.i _ a b l.traps c.loop-i-test.true c.requires.right (omega arith) (w.number.ensures ∙ ap trap_or_zero is)
                l.invariant.traps;
          })
    ]
