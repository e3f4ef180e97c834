use Rattle.std.proofs.Common.{ℕ, sym, subst}
use Rattle.lane_eval.specs.Operands.{CanGo}
use Rattle.lane_eval.proofs.WriteSteps.{case_goes}
use Rattle.lane_eval.proofs.edge.switch.Goals as goal

pub jump-requires : goal.jump-requires
jump-requires g c =
    let P : ℕ → Type 0 = CanGo c.args.program.now (g.V.View.state c.args.s.now) in
    subst P (sym c.case_block.ensures) (case_goes c.args.program.now (g.V.View.state c.args.s.now) c.args.cases.now c.in-Some.x c.args.other c.requires.other c.requires.cases)
