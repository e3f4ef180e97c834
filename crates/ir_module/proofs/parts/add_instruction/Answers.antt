use Rattle.std.proofs.Common.{ℕ, Option, [], ◌∷◌, ◌++◌, ap, ◌∙◌}
use Rattle.code_form.specs.declared.instr.Instr.{Instr}
use Rattle.ir_module.proofs.parts.add_instruction.Goals as goal

pub returns-clause-parts : goal.returns-clause-parts
returns-clause-parts c =
    let old = c.args.parts.now in
    let instrs = c.in_ok-push.ensures.ok ∙ ap (λ (i : Instr). old.instrs ++ i ∷ []) c.in_ok-instruction.ensures.code in
    let results = c.in_ok-push-2.ensures.ok ∙ ap (λ (r : Option ℕ). old.results ++ r ∷ []) c.register_of.ensures in
    λ j. record old { instrs = instrs j; results = results j }
