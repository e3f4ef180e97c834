use Rattle.std.proofs.Common.{map, slice_index, sym, ap, ◌∙◌, subst}
use Rattle.std.specs.List.Sorted.{IsPermutation, IsNonDecreasingBy}
use Rattle.std.proofs.lemmas.List.Sorted.{IsPermutation-trans}
use Rattle.exec_core.specs.Analysed.{class_from}
use Rattle.exec_core.specs.Engines.{split_seen}
use Rattle.exec_core.specs.declared.result.Class.{Class}
use Rattle.exec_core.proofs.finish.analysis_of.Goals as goal

pub returns-clause-moved : goal.returns-clause-moved
returns-clause-moved g c = subst (IsPermutation (map class_from c.args.engine.ended.items)) (sym c.from_vec.ensures) (IsPermutation-trans _ _ _
    c.move_classes.ensures.moved c.sort_classes.ensures.moved)

pub returns-clause-rising : goal.returns-clause-rising
returns-clause-rising g c = subst (IsNonDecreasingBy (λ (x : Class g.row.S.Denot). slice_index x.members 0))
    (sym c.from_vec.ensures) c.sort_classes.ensures.rising

pub returns-clause-splits : goal.returns-clause-splits
returns-clause-splits g c ordered p h = ap (map split_seen) c.from_vec-2.ensures ∙ c.sort_splits.ensures ordered p h
