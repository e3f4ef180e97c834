use Rattle.std.proofs.Common.{Bor, Bool, ◌≡◌, List, IfOk, map, ap, subst, ◌∙◌}
use Rattle.ir_tree.specs.declared.type_text.TyText.{TyText}
use Rattle.ir_rules.specs.Types.{is_large}
use Rattle.ir_rules.specs.Parts.{types_of}
use Rattle.ir_type_rules.proofs.Loops.{any-now}
use Rattle.ir_type_rules.proofs.rules.type_too_large.Goals as goal

pub returns-clause-broken : goal.returns-clause-broken
returns-clause-broken c =
    subst (λ (r : Bool). IfOk c.some_large.result (λ b. b ≡ r))
    (any-now (is_large c.args.types.now.defs) c.as_slice.result.now (types_of c.args.item.now)
    (ap (λ (l : List (Bor TyText)). map (λ b. b.now) l) c.as_slice.ensures ∙ c.in_ok-list.ensures))
    c.some_large.ensures.large
