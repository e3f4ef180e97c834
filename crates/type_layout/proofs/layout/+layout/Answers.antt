use Rattle.std.proofs.Common.{rules, arith, ap}
use Rattle.type_layout.specs.Layout.{round_up}
use Rattle.type_layout.specs.declared.ty.Ty.{the_lemmas}
use Rattle.type_layout.proofs.Layouts.{end_small, end_next, one_most}
use Rattle.type_layout.proofs.layout.+layout.Goals as goal

pub layout_struct-round-requires-clause-small : goal.layout_struct-round-requires-clause-small
layout_struct-round-requires-clause-small t c = end_small c.args.fields.now c.loop-t.t-index _ c.loop-t.invariant.end c.requires

pub layout_struct-overflow_add-end : goal.layout_struct-overflow_add-end
layout_struct-overflow_add-end t c =
    record {
      fits = omega (
        arith,
        c.round.ensures,
        c.layout_type-field.ensures.size,
        c.layout_type-field.ensures.align,
        ap (λ a. round_up c.loop-t.end a) c.layout_type-field.ensures.align,
        end_next c.args.fields.now c.loop-t.t-index c.loop-t.end c.t-item.result (c.loop-t-test.true) c.t-item.is c.loop-t.invariant.end c.requires,
      );
    }

pub layout_struct-round-requires-2-clause-small : goal.layout_struct-round-requires-2-clause-small
layout_struct-round-requires-2-clause-small t c = end_small c.args.fields.now c.loop-t.t-index _ c.loop-t.invariant.end c.requires

pub layout_struct-layout_type-field-requires : goal.layout_struct-layout_type-field-requires
layout_struct-layout_type-field-requires t c =
    (search (rules, the_lemmas), one_most c.args.fields.now c.loop-t.t-index c.t-item.result c.loop-t-test.true c.t-item.is c.requires)
