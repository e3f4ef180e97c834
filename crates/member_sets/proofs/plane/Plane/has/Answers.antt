use Rattle.std.proofs.Common.{ℕ, List, ap, ◌∙◌, subst}
use Rattle.std.specs.Prelude.{IsTrue, ◌↔◌}
use Rattle.std.specs.List.{Contains}
use Rattle.member_sets.specs.Planes.{has_bit}
use Rattle.member_sets.proofs.Bits.{set_iff}
use Rattle.member_sets.proofs.plane.Plane.has.Goals as goal

pub returns : goal.returns
returns c =
    let first = c.self.inside.first in let words = c.self.inside.words.items in let m = c.args.m in
    subst (λ (xs : List ℕ). IsTrue c.is_set.result ↔ Contains xs m) c.self.view_is
    (set_iff c.is_set.result first words m (c.is_set.ensures ∙ ap (λ ws. has_bit first ws m) c.deref.ensures.value))
