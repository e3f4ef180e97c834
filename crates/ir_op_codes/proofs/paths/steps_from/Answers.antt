use Rattle.std.proofs.Common.{ap, sym, ◌∙◌, ◌+◌, ◌∷◌, drop}
use Rattle.std.proofs.lemmas.List.{drop_more}
use Rattle.ir_rules.specs.Parts.{Typed}
use Rattle.ir_op_codes.specs.Paths.{moves, rest_of}
use Rattle.ir_op_codes.proofs.Places.{path-more}
use Rattle.ir_op_codes.proofs.paths.steps_from.Goals as goal

pub each-preserved : goal.each-preserved
each-preserved c =
    let ts = c.args.types.now.types in
    let defs = c.args.types.now.defs in
    let is = c.args.indices.now in
    let k = c.each.index-index in
    record {
      roomy = c.advance-step.ensures.roomy;
      rest =
          path-more c.index-item.result c.advance-step.result.0 (moves c.each.list) (moves c.add_move.new.list) (rest_of defs ts c.each.place (drop k is))
          (rest_of defs ts c.advance-step.result.1 (drop (k + 1) is)) (rest_of defs ts c.args.start is) c.in_ok-add_move.ensures
          (ap (rest_of defs ts c.each.place) (drop_more is k c.index-item.result c.each-test.true ∙ ap (λ (y : Typed). y ∷ drop (k + 1) is) (sym c.index-item.is))
          ∙ c.advance-step.ensures.here (drop (k + 1) is))
          c.each.invariant.rest;
    }
