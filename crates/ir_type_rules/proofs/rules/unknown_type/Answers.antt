use Rattle.std.proofs.Common.{Bor, List, map, ap, ◌∙◌}
use Rattle.ir_tree.specs.declared.type_text.TyText.{TyText}
use Rattle.ir_rules.specs.Types.{has_unknown}
use Rattle.ir_rules.specs.Parts.{types_of}
use Rattle.ir_type_rules.proofs.Loops.{any-now}
use Rattle.ir_type_rules.proofs.rules.unknown_type.Goals as goal

pub returns : goal.returns
returns c =
    c.some_unknown.ensures
    ∙ any-now (has_unknown c.args.types.now.defs) c.as_slice.result.now (types_of c.args.item.now)
    (ap (λ (l : List (Bor TyText)). map (λ b. b.now) l) c.as_slice.ensures ∙ c.in_ok-list.ensures)
