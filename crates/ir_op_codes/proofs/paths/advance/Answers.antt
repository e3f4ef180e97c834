use Rattle.std.proofs.Common.{ap, ◌∙◌, ◌∷◌, subst}
use Rattle.std.specs.Option.{option_copied}
use Rattle.ir_op_codes.specs.declared.paths.Place.{Place}
use Rattle.ir_op_codes.specs.Paths.{rest_of, IsRoomy}
use Rattle.ir_op_codes.proofs.Places.{within, step-is, roomy-is}
use Rattle.ir_op_codes.proofs.paths.advance.Goals as goal

pub returns-in-At-clause-here : goal.returns-in-At-clause-here
returns-in-At-clause-here c = λ is.
    let ts = c.args.types.now.types in
    let defs = c.args.types.now.defs in
    ap (λ (p : Place). rest_of defs ts p (c.args.index.now ∷ is)) c.in-At.is
    ∙ step-is defs ts c.table-table.result.now c.in-At.n c.args.index.now is (option_copied c.shape-shape.result) c.field_number-k.result c.part_in.result
    c.step_in.result c.place_in.result c.table-table.ensures c.field_number-k.ensures c.step_in.ensures c.part_in.ensures c.place_in.ensures
    c.shape-shape.ensures.shape (within _ c.shape-shape.result c.shape-shape.ensures.within) (subst (IsRoomy ts) c.in-At.is c.requires)

pub returns-in-At-clause-roomy : goal.returns-in-At-clause-roomy
returns-in-At-clause-roomy c =
    let ts = c.args.types.now.types in
    roomy-is ts c.table-table.result.now c.in-At.n (option_copied c.shape-shape.result) c.field_number-k.result c.part_in.result c.place_in.result
    c.table-table.ensures c.part_in.ensures c.place_in.ensures
    c.shape-shape.ensures.shape (within _ c.shape-shape.result c.shape-shape.ensures.within) (subst (IsRoomy ts) c.in-At.is c.requires)
