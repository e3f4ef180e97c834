use Rattle.std.proofs.Common.{◌<◌, length, map, take, arith, sym, ap, ◌∙◌}
use Rattle.type_layout.specs.Layout.{round_up}
use Rattle.type_layout.specs.Types.{layout_of, end_after}
use Rattle.type_layout.proofs.Layouts.{one_most, length-offsets, offset_at}
use Rattle.type_layout.proofs.layout.struct_offset.Goals as goal

pub end_of-requires-clause-within : goal.end_of-requires-clause-within
end_of-requires-clause-within c = omega (arith, length-offsets c.args.fields.now 0, c.requires.field)

pub bounds-fields-k : goal.bounds-fields-k
bounds-fields-k c = omega (arith, length-offsets c.args.fields.now 0, c.requires.field)

pub layout_type-requires : goal.layout_type-requires
layout_type-requires c =
    one_most c.args.fields.now c.args.k c.index-fields-k.result (omega (arith, length-offsets c.args.fields.now 0, c.requires.field)) c.index-fields-k.is
    c.requires.small

pub returns : goal.returns
returns c =
    let inside : c.args.k < length c.args.fields.now = omega (arith, length-offsets c.args.fields.now 0, c.requires.field) in
    c.round.ensures
    ∙ ap (λ n. round_up n c.layout_type.result.align) c.end_of.ensures.value
    ∙ ap (round_up (end_after 0 (map layout_of (take c.args.k c.args.fields.now)))) c.layout_type.ensures.align
    ∙ sym (offset_at c.args.fields.now 0 c.args.k c.index-fields-k.result inside c.index-fields-k.is)
