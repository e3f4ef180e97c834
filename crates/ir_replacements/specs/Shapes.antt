-- The points in which a replacement doesn't fit by its kind.
use Rattle.std.specs.Prelude.{Bool, ◌||◌, not, is_some}
use Rattle.std.specs.List.{list_all}
use Rattle.ir_tree.specs.declared.op.Op.{Op}
use Rattle.ir_names.specs.Names.{defined}
use Rattle.ir_rules.specs.Types.{Kinds}
use Rattle.ir_rules.specs.Parts.{branch_labels}
use Rattle.ir_rules.specs.Replacements.{stays_as_it_is, ends_otherwise, gives_otherwise}
use Rattle.ir_replacements.specs.Labels.{Labels}

abbrev pub differs : Kinds → Op → Labels → Op → Bool
differs kind old labels new =
    stays_as_it_is old || stays_as_it_is new || ends_otherwise old new || gives_otherwise kind old new
    || not (list_all (λ n. is_some (defined labels n)) (branch_labels new))
