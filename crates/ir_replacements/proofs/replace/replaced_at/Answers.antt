use Rattle.std.proofs.Common.{false, sym, ap, ◌∙◌, subst}
use Rattle.ir_rules.specs.Types.{TypeDefs}
use Rattle.ir_rules.specs.Codes.{op_code}
use Rattle.ir_scopes.specs.Kinds.{kind_in}
use Rattle.ir_op_codes.specs.Alone.{code_alone}
use Rattle.ir_op_codes.specs.Settings.{OpFits}
use Rattle.ir_replacements.proofs.Replacing.{fits-unless, code-is}
use Rattle.ir_replacements.proofs.replace.replaced_at.Goals as goal

pub code_in-requires-clause-fits : goal.code_in-requires-clause-fits
code_in-requires-clause-fits c =
    let k = c.args.known.now in
    let f = c.args.frame.now in
    let o = c.args.op.now in
    let broken = sym c.in_ok-breaks_rule.ensures.broken ∙ c.if-branch.false in
    subst (λ (ds : TypeDefs). OpFits ds o) (sym c.in_ok-breaks_rule.ensures.defs)
    (fits-unless c.args.types.now.defs (kind_in k.kinds.names) k.entities k.ports f.function.table f.result c.args.item.now o c.requires.instruction broken)

pub returns-clause-found : goal.returns-clause-found
returns-clause-found c =
    let k = c.args.known.now in
    let f = c.args.frame.now in
    let o = c.args.op.now in
    let broken = sym c.in_ok-breaks_rule.ensures.broken ∙ c.if-branch.false in
    let code =
    c.in_ok-code_in.ensures.code
    ∙ ap (λ (ds : TypeDefs). op_code (code_alone ds f.function.table k.entities k.ports) k.addresses o) c.in_ok-breaks_rule.ensures.defs in
    code-is c.args.types.now.defs k f c.args.spot.now c.args.item.now o c.in_ok-code_in.field-0 (sym c.differs.ensures ∙ c.if-differs.false) broken code
