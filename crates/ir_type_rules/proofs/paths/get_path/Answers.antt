use Rattle.std.proofs.Common.{Bor, List, ◌||◌, map, ap, ◌∙◌}
use Rattle.std.specs.List.{list_any}
use Rattle.ir_tree.specs.declared.type_text.TyText.{TyText}
use Rattle.ir_tree.specs.declared.operand.Opd.{Opd}
use Rattle.ir_rules.specs.Types.{TypeDefs}
use Rattle.ir_rules.specs.Parts.{Typed, operands_of}
use Rattle.ir_rules.specs.Paths as spec
use Rattle.ir_type_rules.proofs.Loops.{any-typed}
use Rattle.ir_type_rules.proofs.paths.get_path.Goals as goal

pub returns-clause-broken : goal.returns-clause-broken
returns-clause-broken c =
    let defs = c.args.types.now.defs in
    let list = c.as_slice.result.now in
    let operands = ap (λ (l : List (Bor TyText × Bor Opd)). map {B = Typed} (λ v. (v.0.now, v.1.now)) l) c.as_slice.ensures ∙ c.in_ok-operands.ensures in
    let inner =
    c.in_ok-inner.ensures.broken
    ∙ ap (λ (ds : TypeDefs). list_any (λ (v : Bor TyText × Bor Opd). spec.no_constant_path ds v.1.now) list) c.in_ok-own.ensures.defs
    ∙ any-typed (λ (v : Typed). spec.no_constant_path defs v.1) list (operands_of c.args.item.now) operands in
    c.either.ensures ∙ ap (λ b. b || c.in_ok-inner.inner) c.in_ok-own.ensures.broken ∙ ap (λ b. spec.no_item_path defs c.args.item.now || b) inner
