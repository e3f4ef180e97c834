use Rattle.std.proofs.Common.{◌≡◌, ℕ, ◌+◌, ◌-◌, ◌/◌, ◌%◌, ◌<◌, ◌≤◌, ◌||◌, ◌==◌, List, length, take, slice_index, sym, ap, ◌∙◌, subst, arith}
use Rattle.std.specs.List.{All, list_any}
use Rattle.std.proofs.lemmas.List.{take_all}
use Rattle.std.proofs.lemmas.List.Elements.{All-contains}
use Rattle.member_sets.specs.Planes.{has_bit}
use Rattle.member_sets.proofs.Bits.{no_bit_of_zeros, zeros_at, any_taken}
use Rattle.member_sets.proofs.Kernels.{numbers_are}
use Rattle.member_sets.proofs.words.words_of.Goals as goal

pub loop-m-init : goal.loop-m-init
loop-m-init c = record {
  size = omega (arith, c.in_ok-made.ensures.len);
  bits = λ n l h. no_bit_of_zeros c.args.first c.in_ok-made.made.items n (λ k. ap (λ xs. slice_index xs k) (c.in_ok-made.ensures.items_if_clones_equal (λ y e. e)) ∙ zeros_at c.args.words k);
}

pub loop-m-preserved : goal.loop-m-preserved
loop-m-preserved c =
    let inv = c.loop-m.invariant in record {
      size = c.put.ensures.size ∙ inv.size;
      bits = λ n l h. c.put.ensures.bits n l (omega (arith, h, inv.size)) ∙ ap (λ b. b || (n == slice_index c.args.list.now c.loop-m.m-index)) (inv.bits n l h)
          ∙ sym (any_taken n c.args.list.now c.loop-m.m-index c.loop-m-test.true);
    }

pub returns : goal.returns
returns c =
    let inv = c.loop-m.invariant in let list = c.args.list.now in let first = c.args.first in
    let all : take c.loop-m.m-index list ≡ list = take_all c.loop-m.m-index list (omega (arith, c.loop-m-test.false)) in (
      numbers_are first c.loop-m.made.items list c.requires.rising
          (λ m h. let w = All-contains (λ k. (first ≤ k / 64) × (k / 64 - first < c.args.words)) list m c.requires.within h in (w.0, omega (arith, w.1, inv.size)))
          (λ m l h. inv.bits m l (omega (arith, h, inv.size)) ∙ ap (list_any (λ k. k == m)) all),
      inv.size,
    )
