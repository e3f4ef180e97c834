use Rattle.std.proofs.Common.{ℕ, ◌<◌, length, sym, ap, ◌∙◌, subst}
use Rattle.code_form.specs.declared.instr.Instr.{Instr}
use Rattle.code_form.specs.declared.code.Code.{Code}
use Rattle.code_form.specs.Variant.{instr_of}
use Rattle.lane_eval.specs.Operands.{CanChange}
use Rattle.lane_eval.specs.Ports.{no_answers}
use Rattle.lane_eval.proofs.Asked.{at_most_as}
use Rattle.lane_eval.proofs.Steps.{variant_can_step, place_inside}
use Rattle.lane_eval.proofs.tries.fill_variant.Goals as goal

pub instr-i-requires-clause-within : goal.instr-i-requires-clause-within
instr-i-requires-clause-within g c =
    let P : ℕ → Type 0 = λ n. n < length c.args.program.now.instrs in
    let Q : Code → Type 0 = λ d. c.place-place.result < length d.instrs in
    subst Q (sym c.code-code.ensures) (subst P (sym c.place-place.ensures) (place_inside c.args.program.now (g.V.View.state c.args.s.now) c.requires.sound c.requires.running))

pub change-requires-clause-can : goal.change-requires-clause-can
change-requires-clause-can g c =
    let P : Instr → Type 0 = CanChange c.args.program.now (g.V.View.state c.args.s.now) in
    let is =
    c.instr-i.ensures ∙ ap (λ (n : ℕ). instr_of c.code-code.result.now c.args.table.now n c.args.v) c.place-place.ensures
    ∙ ap (λ (d : Code). instr_of d c.args.table.now (g.V.View.state c.args.s.now).running.place c.args.v) c.code-code.ensures in
    subst P (sym is) (variant_can_step c.args.program.now c.args.table.now no_answers c.requires.sound c.requires.table (g.V.View.state c.args.s.now) c.requires.running c.args.v)

pub returns-clause-asks_at_most : goal.returns-clause-asks_at_most
returns-clause-asks_at_most g c =
    let is =
    c.instr-i.ensures ∙ ap (λ (n : ℕ). instr_of c.code-code.result.now c.args.table.now n c.args.v) c.place-place.ensures
    ∙ ap (λ (d : Code). instr_of d c.args.table.now (g.V.View.state c.args.s.now).running.place c.args.v) c.code-code.ensures in
    at_most_as _ _ (g.V.View.state c.args.s.now) _ _ is c.change.ensures.asks_at_most
