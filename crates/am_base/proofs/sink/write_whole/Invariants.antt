use Rattle.std.proofs.Common.{length, ◌-◌, ◌≡◌, ◌≤◌, take}
use Rattle.am_base.specs.Text.{appended}
use Rattle.am_base.proofs.sink.write_whole.Given as goal

-- the front of the piece was written
abbrev pub invariant-loop-sent : goal.invariant-loop-sent
invariant-loop-sent g l = record {
  within : l.sent ≤ length l.piece;
  written : g.K.Sink.written l.sink ≡ appended (g.K.Sink.written l.fn.sink) (take l.sent l.piece);
  counts : g.K.Sink.faults l.fn.sink ≤ g.K.Sink.faults l.sink;
}

abbrev pub decreases-loop-sent : goal.decreases-loop-sent
decreases-loop-sent g l = length l.piece - l.sent
