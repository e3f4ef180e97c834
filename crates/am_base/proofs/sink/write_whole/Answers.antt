use Rattle.std.proofs.Common.{arith}
use Rattle.std.proofs.lemmas.List.{length-drop}
use Rattle.am_base.proofs.Pieces.{appended-more}
use Rattle.am_base.proofs.sink.write_whole.Goals as goal

pub loop-sent-preserved : goal.loop-sent-preserved
loop-sent-preserved g c = record {
  within = omega (arith, c.in_ok-sent.ensures.within, length-drop c.loop-sent.sent c.args.piece.now);
  written = appended-more _ _ _ _ _ _ c.loop-sent.invariant.written c.in_ok-sent.ensures.appended;
  counts = omega (arith, c.write.ensures.counts, c.loop-sent.invariant.counts);
}
