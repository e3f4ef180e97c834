use Rattle.std.proofs.Common.{◌≡◌, ℕ, ◌+◌, ◌-◌, ◌*◌, ◌/◌, ◌%◌, ◌^◌, ◌<◌, length, slice_index, sym, ap, ◌∙◌, bit_and, arith}
use Rattle.std.specs.Int.Count.{ones}
use Rattle.std.proofs.lemmas.Nat.{and_mask, one_shl}
use Rattle.member_sets.specs.Planes.{upto}
use Rattle.member_sets.proofs.Bits.{bit_place, count_word}
use Rattle.member_sets.proofs.words.rank.Goals as goal

pub overflow_sub-at : goal.overflow_sub-at
overflow_sub-at c = (bit_place c.args.first c.args.words.now c.args.m c.requires.set).0

pub bounds-words-at : goal.bounds-words-at
bounds-words-at c = (bit_place c.args.first c.args.words.now c.args.m c.requires.set).1

pub bounds-sums-at : goal.bounds-sums-at
bounds-sums-at c = let p = bit_place c.args.first c.args.words.now c.args.m c.requires.set in omega (arith, p.1, c.requires.sums.as_many)

pub returns : goal.returns
returns c =
    let first = c.args.first in let words = c.args.words.now in let m = c.args.m in let j : ℕ = m / 64 - first in let k : ℕ = m % 64 in
    let p = bit_place first words m c.requires.set in let at : 64 * (first + j) + k ≡ m = omega (arith, p.0) in
    let low : bit_and (slice_index words j) (1 * 2 ^ k % 2 ^ 64 - 1) ≡ slice_index words j % 2 ^ k =
    ap (λ b. bit_and (slice_index words j) (b - 1)) (one_shl k 64 (omega arith)) ∙ and_mask (slice_index words j) k in
    ap (λ n. slice_index c.args.sums.now j + ones n) low ∙ ap (λ n. n + ones (slice_index words j % 2 ^ k)) (c.requires.sums.sum j p.1)
    ∙ sym (count_word first words j k (omega arith)) ∙ ap (λ n. length (upto first words n)) at
