use Rattle.std.proofs.Common.{ℕ, ◌≢◌, ◌/◌, ◌%◌, ◌*◌, ◌-◌, ◌^◌, ◌||◌, ◌==◌, slice_index, slice_set, bit_or, sym, ap, ◌∙◌, arith}
use Rattle.std.proofs.lemmas.Bool.{ne_eqb}
use Rattle.std.proofs.lemmas.List.{get_or_default}
use Rattle.std.proofs.lemmas.Nat.{one_shl}
use Rattle.traces.proofs.Bools.{or_false}
use Rattle.member_sets.specs.Planes.{has_bit}
use Rattle.member_sets.proofs.Kernels.{put}
use Rattle.member_sets.proofs.words.put.Goals as goal

pub returns-then-word-first-clause-bits : goal.returns-then-word-first-clause-bits
returns-then-word-first-clause-bits c n l h =
    let ne : n ≢ c.args.m = (λ e. omega (arith, e, l, c.if-word-first.true)) in
    sym (ap (λ b. has_bit c.args.first c.args.words.now.items n || b) (ne_eqb _ _ ne) ∙ or_false _)

pub returns-then-at-len-clause-bits : goal.returns-then-at-len-clause-bits
returns-then-at-len-clause-bits c n l h =
    let ne : n ≢ c.args.m = (λ e. omega (arith, e, h, c.if-at-len.true)) in
    sym (ap (λ b. has_bit c.args.first c.args.words.now.items n || b) (ne_eqb _ _ ne) ∙ or_false _)

pub returns-clause-bits : goal.returns-clause-bits
returns-clause-bits c n l h =
    let words = c.args.words.now.items in let at = c.args.m / 64 - c.args.first in
    ap (λ (w : ℕ). has_bit c.args.first (slice_set words at (bit_or w (1 * 2 ^ (c.args.m % 64) % 2 ^ 64))) n) (c.index_mut.ensures.value ∙ get_or_default words at c.index_mut.result.now 0 (omega (arith, c.if-at-len.false)))
    ∙ ap (λ (bit : ℕ). has_bit c.args.first (slice_set words at (bit_or (slice_index words at) bit)) n) (one_shl (c.args.m % 64) 64 (omega arith))
    ∙ put c.args.first words c.args.m n (omega (arith, c.if-word-first.false)) (omega (arith, c.if-at-len.false))
