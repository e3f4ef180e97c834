use Rattle.std.proofs.Common.{ℤ, List, slice_get, fold, map, ap, ◌∙◌}
use Rattle.ir_tree.specs.declared.type_text.TyText.{TyText}
use Rattle.ir_rules.specs.Paths.{index_operand}
use Rattle.ir_type_rules.specs.Walk.{next_type}
use Rattle.ir_type_rules.proofs.Walks.{no-number-path-at}
use Rattle.ir_type_rules.proofs.paths.no_number_path.Goals as goal

pub returns-in-len1-up-clause-broken : goal.returns-in-len1-up-clause-broken
returns-in-len1-up-clause-broken c =
    let types = c.number.new.self in
    let walk =
    c.walked_by_numbers-end.ensures
    ∙ ap (λ (is : List (TyText × ℤ)). fold (next_type types.defs) (slice_get types.types c.in_ok-from.from) (map index_operand is)) c.behind_first.ensures in
    no-number-path-at c.args.types.now.defs types.defs c.args.of.now c.args.indices.now types.types c.in_ok-from.from c.walked_by_numbers-end.result
    c.is_type.result c.in-len1-up.len_at_least c.in_ok-from.ensures.defs c.in_ok-from.ensures.number walk c.is_type.ensures
