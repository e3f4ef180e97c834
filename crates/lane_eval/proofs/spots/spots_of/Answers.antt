use Rattle.std.proofs.Common.{List, ◌++◌, ap, ◌∙◌, subst, sym}
use Rattle.lane_eval.specs.declared.spots.Spot.{Spot}
use Rattle.lane_eval.specs.Spots.{AreSpots, spots_of_functions}
use Rattle.lane_eval.proofs.FoundSpots.{spots_found}
use Rattle.lane_eval.proofs.spots.spots_of.Goals as goal

pub returns : goal.returns
returns c =
    let P : List Spot → Type 0 = AreSpots c.args.code.now in
    let is =
    c.in_ok-add_functions.ensures ∙ ap (λ (xs : List Spot). xs ++ spots_of_functions 0 c.as_slice.result.now) c.new-spots.ensures.items
    ∙ ap (spots_of_functions 0) c.as_slice.ensures in
    subst P (sym is) (spots_found c.args.code.now c.requires)
