use Rattle.std.proofs.Common.{ℕ, ◌<◌, ◌≢◌, length, arith, get_or-set_other, get_or-set_same, below_more}
use Rattle.std.proofs.lemmas.List.{length-set}
use Rattle.ir_room.proofs.ends.ends_after.Goals as goal

pub each-preserved : goal.each-preserved
each-preserved c = record {
  long = let same = c.each.invariant.long in omega (arith, length-set {A = ℕ});
  ends =
      let long = c.each.invariant.long in
      below_more _ _
      (λ k h. let ne : k ≢ c.each.r = omega arith in rw get_or-set_other (c.each.invariant.ends k h))
      (let lt : c.each.r < length c.each.next = omega arith in rw get_or-set_same c.end_after.ensures);
}
