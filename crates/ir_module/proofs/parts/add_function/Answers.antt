use Rattle.std.proofs.Common.{ℕ, List, [], ◌∷◌, ◌++◌, ap, ◌∙◌}
use Rattle.code_form.specs.declared.code.Func.{Func}
use Rattle.ir_rules.specs.Modules.{function_code}
use Rattle.ir_module.proofs.parts.add_function.Goals as goal

pub returns : goal.returns
returns c = λ defs k.
    let made = c.in_ok-function.ensures defs c.args.name.now c.in_ok-name.ensures k in
    let at = ap (λ (n : ℕ). function_code defs n c.args.name.now c.args.ty.now c.args.params.now c.args.scope.now) c.len-at.ensures in
    ap (λ (l : List Func). record c.args.parts.now { funcs = l })
    (c.in_ok-push.ensures.ok ∙ ap (λ (f : Func). c.args.parts.now.funcs ++ f ∷ []) (made ∙ at))
