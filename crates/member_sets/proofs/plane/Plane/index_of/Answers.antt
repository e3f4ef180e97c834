use Rattle.std.proofs.Common.{◌≡◌, ℕ, ◌<◌, List, length, slice_index, true, sym, ap, ◌∙◌, subst, arith}
use Rattle.std.specs.List.{Contains}
use Rattle.std.proofs.lemmas.Bool.{true≢false}
use Rattle.member_sets.specs.Planes.{has_bit, upto, numbers_in, AreSums}
use Rattle.member_sets.proofs.Bits.{contains-has_bit, index_of_bit}
use Rattle.member_sets.proofs.plane.Plane.index_of.Goals as goal

pub returns-then-not-is_set-clause-none : goal.returns-then-not-is_set-clause-none
returns-then-not-is_set-clause-none c h =
    let first = c.self.inside.first in let words = c.self.inside.words.items in let m = c.args.m in
    true≢false (sym (contains-has_bit first words m (subst (λ (xs : List ℕ). Contains xs m) (sym c.self.view_is) h))
    ∙ ap (λ ws. has_bit first ws m) (sym c.deref.ensures.value) ∙ sym c.is_set.ensures ∙ c.if-not-is_set.true)

pub rank-requires : goal.rank-requires
rank-requires c =
    let first = c.self.inside.first in let m = c.args.m in record {
      set = ap (λ ws. has_bit first ws m) (c.deref-2.ensures.value ∙ sym c.deref.ensures.value) ∙ sym c.is_set.ensures ∙ c.if-not-is_set.false;
      sums = subst (λ ws. AreSums first ws c.deref-3.result.now) (sym c.deref-2.ensures.value)
          (subst (λ ss. AreSums first c.self.inside.words.items ss) (sym c.deref-3.ensures.value) c.self.invariant.sums_are);
    }

pub returns-clause-within : goal.returns-clause-within
returns-clause-within c =
    let first = c.self.inside.first in let words = c.self.inside.words.items in let m = c.args.m in
    let h = index_of_bit first words m (ap (λ ws. has_bit first ws m) (sym c.deref.ensures.value) ∙ sym c.is_set.ensures ∙ c.if-not-is_set.false) in
    omega (arith, h.0, c.rank.ensures ∙ ap (λ ws. length (upto first ws m)) c.deref-2.ensures.value, ap length c.self.view_is)

pub returns-clause-there : goal.returns-clause-there
returns-clause-there c =
    let first = c.self.inside.first in let words = c.self.inside.words.items in let m = c.args.m in
    let h = index_of_bit first words m (ap (λ ws. has_bit first ws m) (sym c.deref.ensures.value) ∙ sym c.is_set.ensures ∙ c.if-not-is_set.false) in
    ap (λ (xs : List ℕ). slice_index xs c.rank.result) (sym c.self.view_is)
    ∙ ap (slice_index (numbers_in first words)) (c.rank.ensures ∙ ap (λ ws. length (upto first ws m)) c.deref-2.ensures.value) ∙ h.1
