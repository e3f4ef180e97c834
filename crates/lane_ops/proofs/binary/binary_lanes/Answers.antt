use Rattle.std.proofs.Common.{◌≡◌, ℕ, take, drop, replicate, ◌++◌, arith, ap, ◌∙◌}
use Rattle.std.proofs.lemmas.List.{length-take-le, length-replicate, take-append-le, take-replicate}
use Rattle.lane_ops.specs.Lane.{lane_trap}
use Rattle.lane_ops.proofs.Loops.{zip2_zero}
use Rattle.lane_ops.proofs.binary.binary_lanes.Goals as goal

pub last_lanes-requires-clause-traps_done : goal.last_lanes-requires-clause-traps_done
last_lanes-requires-clause-traps_done c =
    let at = c.word_blocks-at.result in
    let a = c.args.a.now in
    let b = c.args.b.now in
    let traps = c.args.traps.now in
    let within = c.word_blocks-at.ensures.within in
    let cleared : c.fill.new.self ≡ replicate at 0 = c.fill.ensures.after (λ y h. h)
    ∙ ap (λ n. replicate n 0) (length-take-le at traps (omega (arith, within, c.requires.trap_room))) in
    ap (λ zs. take at (zs ++ drop at traps)) cleared
    ∙ take-append-le at (replicate at 0) (drop at traps) (omega (arith, length-replicate {A = ℕ} at 0))
    ∙ take-replicate at at 0 (omega arith)
    ∙ zip2_zero (lane_trap c.args.op c.args.w) at (take at a) (take at b)
    (length-take-le at a within) (length-take-le at b (omega (arith, within, c.requires.right))) c.word_blocks-at.ensures.traps
