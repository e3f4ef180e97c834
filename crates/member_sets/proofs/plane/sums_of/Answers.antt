use Rattle.std.proofs.Common.{◌≡◌, ℕ, ◌+◌, ◌*◌, ◌%◌, ◌^◌, ◌<◌, ◌≤◌, List, [], ◌∷◌, ◌++◌, length, slice_index, sym, ap, ◌∙◌, arith, ⊎_elim, length-append, subst}
use Rattle.std.specs.Int.Count.{ones}
use Rattle.std.proofs.lemmas.Bool.{cases_lt}
use Rattle.std.proofs.lemmas.List.{get_or_push, get_or_append_left}
use Rattle.std.proofs.lemmas.Nat.{ones-le}
use Rattle.member_sets.specs.Planes.{upto, numbers_in, AreSums}
use Rattle.member_sets.proofs.Bits.{upto_none, count_whole}
use Rattle.member_sets.proofs.plane.sums_of.Goals as goal

pub loop-word-init : goal.loop-word-init
loop-word-init c = record {
  few = omega arith;
  as_many = ap length c.in_ok-sums.ensures.items;
  len = λ first. sym (ap length (upto_none first c.args.words.now (64 * (first + 0)) (omega arith)));
  sums = λ first j l. absurd (omega arith);
}

-- one sum more
pushed : (f : ℕ → ℕ) (xs ys : List ℕ) (n len : ℕ) → length xs ≡ n → ys ≡ xs ++ len ∷ [] → len ≡ f n → ((j : ℕ) → j < n → slice_index xs j ≡ f j)
    → (j : ℕ) → j < n + 1 → slice_index ys j ≡ f j
pushed f xs ys n len long p e h j l =
    ap (λ zs. slice_index zs j) p ∙ ⊎_elim
    (λ b. get_or_append_left xs (len ∷ []) 0 j (omega arith) ∙ h j b)
    (λ g. let at : j ≡ n = omega arith in rw at (get_or_push xs len 0 n long ∙ e))
    (cases_lt j n)

pub overflow_cast-len : goal.overflow_cast-len
overflow_cast-len c = omega (arith, c.loop-word.invariant.few, c.loop-word-test.true, c.requires)

pub loop-word-preserved : goal.loop-word-preserved
loop-word-preserved c =
    let words = c.args.words.now in let at = c.loop-word.word-index in let inv = c.loop-word.invariant in let fits = c.type_inv.words at in
    let more = ones-le 64 (slice_index words at) fits.fits in record {
      few = omega (arith, inv.few, more);
      as_many = ap length c.in_ok-push.ensures.items ∙ length-append c.loop-word.sums.items (c.loop-word.len ∷ []) ∙ ap (λ n. n + 1) inv.as_many;
      len = λ first. ap (λ n. n + ones (slice_index words at)) (inv.len first) ∙ sym (count_whole first words at fits.fits);
      sums = λ first. pushed (λ j. length (upto first words (64 * (first + j)))) c.loop-word.sums.items c.push.new.self.items at c.loop-word.len inv.as_many
          c.in_ok-push.ensures.items (inv.len first) (inv.sums first);
    }

pub returns : goal.returns
unfolding numbers_in
returns c =
    let words = c.args.words.now in let inv = c.loop-word.invariant in
    let all : c.loop-word.word-index ≡ length words = omega (arith, c.loop-word-test.false, c.loop-word.auto.word-index-end) in record {
      sums = λ first. record { as_many = inv.as_many ∙ all; sum = λ j l. inv.sums first j (omega (arith, l, all)) };
      len = λ first. inv.len first ∙ ap (λ n. length (upto first words (64 * (first + n)))) all;
    }
