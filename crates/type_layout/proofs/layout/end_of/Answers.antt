use Rattle.std.proofs.Common.{ap, arith}
use Rattle.type_layout.specs.Layout.{round_up}
use Rattle.type_layout.proofs.Layouts.{one_most, end_small, end_next}
use Rattle.type_layout.proofs.layout.end_of.Goals as goal

pub layout_type-field-requires : goal.layout_type-field-requires
layout_type-field-requires c = one_most c.args.fields.now c.loop-k.k c.index-fields-k.result (omega arith) c.index-fields-k.is c.requires.small

pub round-requires-clause-small : goal.round-requires-clause-small
round-requires-clause-small c = end_small c.args.fields.now c.loop-k.k c.loop-k.end c.loop-k.invariant c.requires.small

pub overflow_add-end : goal.overflow_add-end
overflow_add-end c =
    record {
      fits =
          omega (
            arith,
            c.round.ensures,
            c.layout_type-field.ensures.size,
            ap (round_up c.loop-k.end) c.layout_type-field.ensures.align,
            end_next c.args.fields.now c.loop-k.k c.loop-k.end c.index-fields-k.result (omega arith) c.index-fields-k.is c.loop-k.invariant c.requires.small,
          );
    }

pub returns-clause-few : goal.returns-clause-few
returns-clause-few c = end_small c.args.fields.now c.loop-k.k c.loop-k.end c.loop-k.invariant c.requires.small
