use Rattle.std.proofs.Common.{List, slice_get, fold, ap, ◌∙◌}
use Rattle.ir_rules.specs.Parts.{Typed}
use Rattle.ir_type_rules.specs.Walk.{next_type}
use Rattle.ir_type_rules.proofs.Walks.{no-path-at}
use Rattle.ir_type_rules.proofs.paths.no_path.Goals as goal

pub returns-in-len1-up-clause-broken : goal.returns-in-len1-up-clause-broken
returns-in-len1-up-clause-broken c =
    let types = c.number.new.self in
    let walk = c.walked.ensures ∙ ap (λ (is : List Typed). fold (next_type types.defs) (slice_get types.types c.in_ok-from.from) is) c.behind_first.ensures in
    no-path-at c.args.types.now.defs types.defs c.args.of.now c.args.indices.now types.types c.in_ok-from.from c.walked.result c.is_type.result
    c.in-len1-up.len_at_least c.in_ok-from.ensures.defs c.in_ok-from.ensures.number walk c.is_type.ensures
