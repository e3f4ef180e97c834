use Rattle.std.proofs.Common.{◌+◌, ◌≤◌, vec_len, vec_capacity}
use Rattle.std.specs.List.{All}
use Rattle.exec_core.proofs.SettleLemmas.{AreSettling}
use Rattle.exec_core.proofs.execution.settle_all.Given as goal

abbrev pub invariant-loop-l : goal.invariant-loop-l
invariant-loop-l g l = let V = g.M.Machine.view in record {
  settling : AreSettling V l.machine l.budget l.fn.made.items l.made.items l.fn.lives.items l.lives.items l.fn.ended.items l.ended.items;
  out : All (λ x. V.is_out l.machine x.state) l.made.items;
  room_lives : vec_len l.made + vec_len l.lives ≤ vec_capacity l.lives;
  room_ended : vec_len l.made + vec_len l.ended ≤ vec_capacity l.ended;
}

abbrev pub decreases-loop-l : goal.decreases-loop-l
decreases-loop-l g l = vec_len l.made
