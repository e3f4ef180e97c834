use Rattle.std.proofs.Common.{List, ℕ, subst}
use Rattle.shared_pages.specs.Held.{AreHeld}
use Rattle.shared_pages.proofs.HeldSteps.{held_last, held_less}
use Rattle.shared_pages.proofs.tests.release_forks.Goals as goal

pub release-requires : goal.release-requires
release-requires g c =
    let m = c.args.id.now in
    record {
      known = held_last c.forks.store m c.in-Some.fork c.pop.new.self.items
          (subst (λ (xs : List ℕ). AreHeld c.forks.store m xs) c.in-Some.ensures.items c.forks.invariant);
    }

pub forks-preserved : goal.forks-preserved
forks-preserved g c =
    let m = c.args.id.now in
    held_less c.forks.store c.release.new.self m c.in-Some.fork c.pop.new.self.items
    (subst (λ (xs : List ℕ). AreHeld c.forks.store m xs) c.in-Some.ensures.items c.forks.invariant) c.release.ensures.others
