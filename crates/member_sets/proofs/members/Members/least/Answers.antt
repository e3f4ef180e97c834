use Rattle.std.proofs.Common.{◌≡◌, ◌≤◌, ℕ, List, slice_index, get_or, ap, sym, subst, ◌∙◌}
use Rattle.std.specs.List.{All}
use Rattle.member_sets.specs.Members.{IsMemberList}
use Rattle.member_sets.specs.Seen.{seen}
use Rattle.member_sets.proofs.Parts.{first_least}
use Rattle.member_sets.proofs.members.Members.least.Goals as goal

least_at : (xs ys : List ℕ) (m : ℕ) → IsMemberList xs → xs ≡ ys → m ≡ slice_index ys 0 → All (λ n. m ≤ n) ys
least_at xs ys m is e h = subst (λ k. All (λ n. k ≤ n) ys) (sym h) (first_least ys (subst IsMemberList e is).rising)

pub returns-in-Listed-clause-least : goal.returns-in-Listed-clause-least
returns-in-Listed-clause-least c =
    least_at (seen c.self.inside.form) c.args.self.now (get_or c.as_slice.result.now 0 0) c.self.invariant c.self.view_is
    (ap (λ xs. slice_index xs 0) (c.as_slice.ensures ∙ c.deref.ensures ∙ sym (ap seen c.in-Listed.is) ∙ c.self.view_is))

pub returns-in-Bits-clause-least : goal.returns-in-Bits-clause-least
returns-in-Bits-clause-least c =
    least_at (seen c.self.inside.form) c.args.self.now c.least.result c.self.invariant c.self.view_is
    (c.least.ensures ∙ ap (λ (xs : List ℕ). slice_index xs 0) (c.deref-in-Bits.ensures ∙ sym (ap seen c.in-Bits.is) ∙ c.self.view_is))
