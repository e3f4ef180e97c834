use Rattle.std.proofs.Common.{◌≤◌, length, arith, ◌∙◌, sym, subst}
use Rattle.am_base.specs.Files.{Holds, IsHeld}
use Rattle.am_base.proofs.Pieces.{put_mid_within, take-put_mid-more}
use Rattle.am_base.proofs.reading.read_whole.Goals as goal

pub loop-taken-preserved : goal.loop-taken-preserved
loop-taken-preserved g c =
    let name = c.args.name.now in
    let fits : c.in-Ok.count ≤ length c.read_at.new.into = omega (arith, c.in-Ok.ensures.within, c.read_at.auto.into) in
    record {
      within = put_mid_within _ _ _ _ c.loop-taken.invariant.within c.in-Ok.ensures.within c.read_at.auto.into;
      kept = c.read_at.ensures.kept ∙ c.loop-taken.invariant.kept;
      counts = λ other. omega (arith, c.loop-taken.invariant.counts other, c.read_at.ensures.counts other);
      held = λ _. subst (λ files. IsHeld files name) c.loop-taken.invariant.kept c.in-Ok.ensures.held;
      front = λ file holds. take-put_mid-more _ _ _ _ _ _ c.loop-taken.invariant.within fits (c.loop-taken.invariant.front file holds)
          (c.in-Ok.ensures.bytes file (subst (λ files. Holds files name file) (sym c.loop-taken.invariant.kept) holds));
    }
