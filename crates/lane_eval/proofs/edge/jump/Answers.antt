use Rattle.std.proofs.Common.{ℕ, Bool, sym, ap, ◌∙◌}
use Rattle.code_form.specs.declared.code.Code.{Code}
use Rattle.machine_form.specs.declared.change.Control.TheVariants.{Jump as Go}
use Rattle.lane_eval.specs.Filled.{quiet_change, if_all}
use Rattle.lane_eval.proofs.WriteSteps.{go_with, jumped}
use Rattle.lane_eval.proofs.edge.jump.Goals as goal

pub returns-then-not-branch : goal.returns-then-not-branch
returns-then-not-branch g c =
    c.traps.ensures ∙ ap (λ (all : Bool). go_with (g.V.View.state c.args.s.now) c.args.b (if_all all c.phi_writes.new.writes)) (sym c.if-not-branch.true)
    ∙ jumped c.args.program.now (g.V.View.state c.args.s.now) c.args.b c.place-place.result c.block_index-from.result c.block-block.result c.as_slice.result.now c.as_slice-2.result.now _
    c.place-place.ensures c.block_index-from.ensures c.block-block.ensures (c.as_slice.ensures ∙ ap (λ (d : Code). d.instrs) c.code-code.ensures) (c.as_slice-2.ensures ∙ ap (λ (d : Code). d.results) c.code-code.ensures)
    c.in_ok-phi_writes.ensures

pub returns : goal.returns
returns g c =
    c.quiet.ensures ∙ ap (λ (top : ℕ). quiet_change c.phi_writes.new.writes top (Go c.args.b)) c.top.ensures
    ∙ ap (λ (all : Bool). go_with (g.V.View.state c.args.s.now) c.args.b (if_all all c.phi_writes.new.writes)) (sym c.if-not-branch.false)
    ∙ jumped c.args.program.now (g.V.View.state c.args.s.now) c.args.b c.place-place.result c.block_index-from.result c.block-block.result c.as_slice.result.now c.as_slice-2.result.now _
    c.place-place.ensures c.block_index-from.ensures c.block-block.ensures (c.as_slice.ensures ∙ ap (λ (d : Code). d.instrs) c.code-code.ensures) (c.as_slice-2.ensures ∙ ap (λ (d : Code). d.results) c.code-code.ensures)
    c.in_ok-phi_writes.ensures
