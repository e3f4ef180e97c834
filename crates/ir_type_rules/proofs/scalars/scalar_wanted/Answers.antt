use Rattle.std.proofs.Common.{Bor, List, is_none, map, ap, ◌∙◌}
use Rattle.ir_tree.specs.declared.type_text.TyText.{TyText}
use Rattle.ir_rules.specs.Parts.{scalars_of}
use Rattle.ir_scopes.specs.Kinds.{kind_in}
use Rattle.ir_type_rules.proofs.Loops.{any-now}
use Rattle.ir_type_rules.proofs.scalars.scalar_wanted.Goals as goal

pub returns : goal.returns
returns c =
    c.some_no_scalar.ensures
    ∙ any-now (λ t. is_none (kind_in c.args.kinds.now.names t)) c.as_slice.result.now (scalars_of c.args.item.now)
    (ap (λ (l : List (Bor TyText)). map (λ b. b.now) l) c.as_slice.ensures ∙ c.in_ok-list.ensures)
