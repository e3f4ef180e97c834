use Rattle.std.proofs.Common.{◌/◌, ◌%◌, ◌-◌, ◌==◌, slice_index, sym, ap, ◌∙◌, arith}
use Rattle.std.proofs.lemmas.Nat.Bits.{shr_and_one}
use Rattle.member_sets.proofs.Bits.{bit_test, no_bit}
use Rattle.member_sets.proofs.words.is_set.Goals as goal

pub returns-then-word-first : goal.returns-then-word-first
returns-then-word-first c = sym (no_bit c.args.first c.args.words.now c.args.m (λ l h. omega (arith, l, c.if-word-first.true)))

pub returns-then-at-words : goal.returns-then-at-words
returns-then-at-words c = sym (no_bit c.args.first c.args.words.now c.args.m (λ l h. omega (arith, h, c.if-at-words.true)))

pub returns : goal.returns
returns c =
    ap (λ b. b == 1) (shr_and_one (slice_index c.args.words.now (c.args.m / 64 - c.args.first)) (c.args.m % 64))
    ∙ sym (bit_test c.args.first c.args.words.now c.args.m (omega (arith, c.if-word-first.false)))
