use Rattle.std.proofs.Common.{Bor, List, ℤ, map, ap, ◌∙◌}
use Rattle.ir_tree.specs.declared.type_text.TyText.{TyText}
use Rattle.ir_rules.specs.Parts.{constant_indices}
use Rattle.ir_rules.specs.Operands as spec
use Rattle.ir_scopes.specs.Kinds.{kind_in}
use Rattle.ir_type_rules.proofs.Loops.{any-now}
use Rattle.ir_type_rules.proofs.Globals.{any-firsts}
use Rattle.ir_type_rules.proofs.initial.init_type_differs.Goals as goal

pub returns : goal.returns
returns c =
    let names = c.args.kinds.now.names in
    let is = constant_indices c.args.item.now in
    c.some_no_integer.ensures
    ∙ any-now (λ t. spec.no_integer (kind_in names t)) c.as_slice.result.now (map (λ (i : TyText × ℤ). i.0) is)
    (ap (λ (l : List (Bor TyText)). map (λ b. b.now) l) c.as_slice.ensures ∙ c.in_ok-list.ensures)
    ∙ any-firsts (λ t. spec.no_integer (kind_in names t)) is
