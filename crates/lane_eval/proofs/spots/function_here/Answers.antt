use Rattle.std.proofs.Common.{length, List, arith, get_or, ap, ◌∙◌}
use Rattle.code_form.specs.declared.code.Func.{Func}
use Rattle.lane_eval.proofs.FoundSpots.{function_inside, function_read}
use Rattle.lane_eval.proofs.spots.function_here.Goals as goal

pub bounds-as_slice-spots : goal.bounds-as_slice-spots
bounds-as_slice-spots c =
    omega (arith, ap length c.as_slice.ensures, function_inside c.args.code.now c.args.spots.now c.requires.spots c.args.place c.requires.within (record { function = 0; block = 0 }))

pub offset_bounds-as_slice-spots : goal.offset_bounds-as_slice-spots
offset_bounds-as_slice-spots c =
    omega (
      arith,
      c.as_slice.type_inv.1,
      ap length c.as_slice.ensures,
      function_inside c.args.code.now c.args.spots.now c.requires.spots c.args.place c.requires.within (record { function = 0; block = 0 }),
    )

pub returns : goal.returns
returns c =
    c.index-as_slice-spots.is
    ∙ ap (λ (fs : List Func). get_or fs (get_or c.args.spots.now c.args.place (record { function = 0; block = 0 })).function c.index-as_slice-spots.result) c.as_slice.ensures
    ∙ function_read c.args.code.now c.args.spots.now c.requires.spots c.args.place c.requires.within (record { function = 0; block = 0 }) c.index-as_slice-spots.result
