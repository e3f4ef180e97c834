use Rattle.std.proofs.Common.{ℕ, ◌<◌, Option, IfSome, length, sym, ap, subst, ◌∙◌}
use Rattle.std.specs.Option.{option_copied}
use Rattle.ir_type_rules.specs.Walk.{typed_at}
use Rattle.ir_init_rules.proofs.Parts.{part-found, part-within, within-copied}
use Rattle.ir_init_rules.proofs.levels.part_at.Goals as goal

pub returns-clause-part : goal.returns-clause-part
returns-clause-part c =
    let ts = c.args.table.now in
    let o = option_copied c.shape.result in
    ap (typed_at ts) c.part_level.ensures
    ∙ part-found ts c.args.n o c.requires c.shape.ensures.shape c.args.k (within-copied (length ts) c.shape.result c.shape.ensures.within)

pub returns-clause-within : goal.returns-clause-within
returns-clause-within c =
    let ts = c.args.table.now in
    subst (λ (r : Option ℕ). IfSome r (λ m. m < length ts)) (sym c.part_level.ensures)
    (part-within (length ts) c.args.k (option_copied c.shape.result) (within-copied (length ts) c.shape.result c.shape.ensures.within))
