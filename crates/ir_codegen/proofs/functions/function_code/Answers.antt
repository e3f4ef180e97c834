use Rattle.std.proofs.Common.{◌∙◌, ap, map}
use Rattle.ir_rules.specs.Codes.{scalar_in}
use Rattle.ir_scopes.specs.Kinds.{kind_in}
use Rattle.ir_codegen.proofs.FunctionCodes.{function-is}
use Rattle.ir_codegen.proofs.functions.function_code.Goals as goal

pub returns : goal.returns
returns c = λ defs n e k.
    function-is (kind_in c.args.kinds.now.names) defs c.args.at n c.args.ty.now c.args.params.now c.args.scope.now _
    (c.name.view_is ∙ e)
    k
    c.in_ok-param_types.ensures
    c.result_type.ensures
    c.len-2.ensures
    (c.in_ok-register_types.ensures ∙ ap (map scalar_in) c.as_slice-2.ensures)
    (c.in_ok-blocks.ensures ∙ (let starts = c.as_slice.ensures in let count = c.len.ensures in cc))
