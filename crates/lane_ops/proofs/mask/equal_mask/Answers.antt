use Rattle.std.proofs.Common.{◌≤◌, ◌/◌, ◌%◌, ◌^◌, ◌≡◌, bit_and, inl, inr, length, get_or, arith}
use Rattle.std.proofs.lemmas.Nat.{and_le_l}
use Rattle.std.proofs.lemmas.Bool.{cases_lt}
use Rattle.std.proofs.lemmas.List.{get_or_past}
use Rattle.lane_ops.proofs.Masks.{set_where_equal, clear_past_end}
use Rattle.lane_ops.proofs.mask.equal_mask.Goals as goal

pub returns-clause-equal : goal.returns-clause-equal
returns-clause-equal c = λ i h.
    set_where_equal c.args.x c.args.a.now i _ h (c.write_masks.ensures (i / 64) (omega (arith, h, c.requires)))

pub returns-clause-past_end : goal.returns-clause-past_end
returns-clause-past_end c = λ i h.
    elim (cases_lt (i / 64) (length c.write_masks.new.out)) [
      | inl l ↦ clear_past_end c.args.x c.args.a.now i _ h (c.write_masks.ensures (i / 64) l)
      | inr l ↦ λ set.
          let none : get_or c.write_masks.new.out (i / 64) 0 ≡ 0 = get_or_past c.write_masks.new.out (i / 64) 0 l in
          let least : bit_and (get_or c.write_masks.new.out (i / 64) 0) (2 ^ (i % 64)) ≤ get_or c.write_masks.new.out (i / 64) 0 = and_le_l _ _ in
          set (omega (arith, none, least))
    ]
