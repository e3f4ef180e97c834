use Rattle.std.proofs.Common.{ℕ, List, ◌+◌, ◌%◌, arith, ◌<◌, sym, ◌∙◌}
use Rattle.std.specs.List.{All}
use Rattle.std.proofs.lemmas.List.Elements.{All-push, All-weaker}
use Rattle.lane_eval.proofs.StoreSteps.{stored, skipped}
use Rattle.lane_eval.proofs.memory.differing.Goals as goal
use Rattle.lane_eval.proofs.memory.differing.Goals.{then-byte+in_ok-push, else-byte}

-- what is below an address is below the next one
more_below : (writes : List (ℕ × ℕ)) (at i : ℕ) → All (λ w. w.0 < at + i) writes → All (λ w. w.0 < at + (i + 1)) writes
more_below writes at i h = All-weaker (λ w. w.0 < at + i) (λ w. w.0 < at + (i + 1)) (λ w l. omega arith) writes h

pub loop-i-preserved : goal.loop-i-preserved
loop-i-preserved g c = elim c.if-byte.branch [
  | then-byte+in_ok-push w ↦ rw (w.writes-is, w.in_ok-push.ensures.ok) (record {
    all = stored (g.V.View.state c.args.s.now).bytes c.loop-i.writes _ c.args.at c.loop-i.i c.args.len c.loop-i.rest c.loop-i-test.true (λ e. w.if-byte.true (c.byte.ensures ∙ e)) c.loop-i.invariant.all;
    below = All-push (λ v. v.0 < c.args.at + (c.loop-i.i + 1)) c.loop-i.writes (c.args.at + c.loop-i.i, c.loop-i.rest % 256) (more_below c.loop-i.writes c.args.at c.loop-i.i c.loop-i.invariant.below) (omega arith);
  })
  | else-byte w ↦ rw w.writes-is (record {
    all = skipped (g.V.View.state c.args.s.now).bytes c.loop-i.writes _ c.args.at c.loop-i.i c.args.len c.loop-i.rest c.loop-i-test.true (sym c.byte.ensures ∙ w.if-byte.false) c.loop-i.invariant.all;
    below = more_below c.loop-i.writes c.args.at c.loop-i.i c.loop-i.invariant.below;
  })
]
