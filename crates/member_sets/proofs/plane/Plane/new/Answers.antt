use Rattle.std.proofs.Common.{◌≡◌, ℕ, ◌<◌, ◌≢◌, List, length, slice_index, sym, ap, ◌∙◌, subst, arith}
use Rattle.member_sets.specs.Planes.{numbers_in, AreSums}
use Rattle.member_sets.proofs.Bits.{some_number}
use Rattle.member_sets.proofs.plane.Plane.new.Goals as goal

pub invariant_of-result : goal.invariant_of-result
invariant_of-result c =
    let first = c.args.first in let words = c.args.words.items in record {
      few = c.requires.few;
      some = subst (λ ws. 0 < length (numbers_in first ws)) c.deref-2.ensures.value c.least_of-least.ensures.there;
      least_is = c.least_of-least.ensures.least ∙ ap (λ ws. slice_index (numbers_in first ws) 0) c.deref-2.ensures.value;
      len_is = c.in_ok-sums.ensures.len first ∙ ap (λ ws. length (numbers_in first ws)) c.deref.ensures.value;
      sums_are = subst (λ ws. AreSums first ws c.in_ok-sums.sums.items) c.deref.ensures.value (c.in_ok-sums.ensures.sums first);
    }
