use Rattle.std.proofs.Common.{ℕ, ◌<◌, ◌≡◌, [], length, ap, arith, rules, ⊎_elim}
use Rattle.std.proofs.lemmas.Bool.{cases_lt}
use Rattle.member_sets.proofs.Bits.{no_number, some_number}
use Rattle.member_sets.proofs.words.have_bit.Goals as goal

pub returns : goal.returns
returns c first =
    let words = c.args.words.now in let z = c.zeros_before.result in (
      λ t. let l : z < length words = search (rules, t) in some_number first words z (c.zeros_before.ensures.next l) (c.type_inv.words z).fits,
      λ p. ⊎_elim (λ (l : z < length words). search (rules, l))
          (λ g. let none = ap length (no_number first words (λ k l. c.zeros_before.ensures.zeros k (omega arith))) in absurd (omega (arith, none, p)))
          (cases_lt z (length words)),
    )
