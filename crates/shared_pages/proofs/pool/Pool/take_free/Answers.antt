use Rattle.std.proofs.Common.{◌<◌, ◌++◌, ◌∷◌, [], subst, List, ℕ, sym, length, arith}
use Rattle.std.specs.Vec.{vec_capacity}
use Rattle.shared_pages.specs.Counts.{IsPool}
use Rattle.shared_pages.proofs.Owners.{other_free, pool_taken, free_is, below_from_free}
use Rattle.shared_pages.proofs.pool.Pool.take_free.Goals as goal

pub index_mut-requires : goal.index_mut-requires
index_mut-requires c =
    let pool : IsPool c.self.inside.counts.items (c.pop.new.self.items ++ c.in_ok-p.p ∷ []) (vec_capacity c.self.inside.free) =
    subst (λ (xs : List ℕ). IsPool c.self.inside.counts.items xs (vec_capacity c.self.inside.free)) c.in_ok-p.ensures.items c.self.invariant in
    let below : c.in_ok-p.p < length c.self.inside.counts.items =
    below_from_free c.self.inside.counts.items c.in_ok-p.p (free_is c.self.inside.counts.items c.pop.new.self.items
    (vec_capacity c.self.inside.free) c.in_ok-p.p pool) in
    omega (arith, below)

pub invariant_of-self-2 : goal.invariant_of-self-2
invariant_of-self-2 c =
    let pool : IsPool c.self.inside.counts.items (c.pop.new.self.items ++ c.in_ok-p.p ∷ []) (vec_capacity c.pop.new.self) =
    subst (λ (n : ℕ). IsPool c.self.inside.counts.items (c.pop.new.self.items ++ c.in_ok-p.p ∷ []) n) (sym c.in_ok-p.ensures.capacity)
    (subst (λ (xs : List ℕ). IsPool c.self.inside.counts.items xs (vec_capacity c.self.inside.free)) c.in_ok-p.ensures.items c.self.invariant) in
    pool_taken c.self.inside.counts.items c.pop.new.self.items (vec_capacity c.pop.new.self) c.in_ok-p.p pool

pub returns-clause-other : goal.returns-clause-other
returns-clause-other c =
    let pool : IsPool c.self.inside.counts.items (c.pop.new.self.items ++ c.in_ok-p.p ∷ []) (vec_capacity c.self.inside.free) =
    subst (λ (xs : List ℕ). IsPool c.self.inside.counts.items xs (vec_capacity c.self.inside.free)) c.in_ok-p.ensures.items c.self.invariant in
    other_free c.self.inside.counts.items c.pop.new.self.items (vec_capacity c.self.inside.free) c.in_ok-p.p pool
