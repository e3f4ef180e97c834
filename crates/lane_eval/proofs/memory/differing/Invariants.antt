use Rattle.std.proofs.Common.{◌≡◌, ◌+◌, ◌-◌, ◌<◌, ◌++◌}
use Rattle.std.specs.List.{All}
use Rattle.machine_form.specs.Straight.{bytes_from, differing}
use Rattle.lane_eval.proofs.memory.differing.Given as goal

abbrev pub invariant-loop-i : goal.invariant-loop-i
invariant-loop-i g l = let bytes = (g.V.View.state l.s).bytes in record {
  all : l.writes ++ differing bytes (l.at + l.i) (bytes_from (l.len - l.i) l.rest) ≡ differing bytes l.at (bytes_from l.len l.fn.word);
  below : All (λ w. w.0 < l.at + l.i) l.writes;
}
