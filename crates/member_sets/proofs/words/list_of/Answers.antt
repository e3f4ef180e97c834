use Rattle.std.proofs.Common.{◌≡◌, ℕ, ◌+◌, ◌*◌, ◌++◌, List, length, map, slice_index, sym, ap, ◌∙◌, arith}
use Rattle.member_sets.specs.Planes.{upto, numbers_in, bits_below}
use Rattle.member_sets.proofs.Bits.{upto_none, upto_word}
use Rattle.member_sets.proofs.words.list_of.Goals as goal

pub loop-at-init : goal.loop-at-init
loop-at-init c = c.in_ok-list.ensures.items ∙ sym (upto_none c.args.first c.args.words.now (64 * (c.args.first + 0)) (omega arith))

longer : (first at : ℕ) (words xs ys : List ℕ) → ys ≡ xs ++ map (λ k. 64 * (first + at) + k) (bits_below 64 (slice_index words at))
    → xs ≡ upto first words (64 * (first + at)) → ys ≡ upto first words (64 * (first + (at + 1)))
longer first at words xs ys p e =
    let next : 64 * (first + at) + 64 ≡ 64 * (first + (at + 1)) = omega arith in
    p ∙ ap (λ zs. zs ++ map (λ k. 64 * (first + at) + k) (bits_below 64 (slice_index words at))) e
    ∙ sym (upto_word first words at 64 (omega arith)) ∙ ap (upto first words) next

pub loop-at-preserved : goal.loop-at-preserved
loop-at-preserved c = longer c.args.first c.loop-at.at c.args.words.now c.loop-at.list.items c.push_word.new.list.items c.in_ok-push_word.ensures c.loop-at.invariant

pub returns : goal.returns
unfolding numbers_in
returns c =
    let all : c.loop-at.at ≡ length c.args.words.now = omega (arith, c.loop-at-test.false, c.loop-at.auto.at-end) in
    c.loop-at.invariant ∙ ap (λ n. upto c.args.first c.args.words.now (64 * (c.args.first + n))) all
