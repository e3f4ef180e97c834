use Rattle.std.proofs.Common.{rules, ltb, leb, sym, subst}
use Rattle.std.specs.List.Sorted.{IsNonDecreasingBy}
use Rattle.std.proofs.lemmas.List.{take_rest}
use Rattle.std.proofs.lemmas.List.Sorted.{IsPartitionPoint-from_clause, IsPartitionedBy-ltb, IsPartitionedBy-leb, IsNonDecreasingBy-drop}
use Rattle.change_classes.proofs.Runs.{run_is}
use Rattle.change_classes.proofs.keyed.run_of.Goals as goal

pub returns : goal.returns
returns c keys o =
    let order = c.args.order.now in let key = c.args.key in let low = c.partition_point.result in
    let same = take_rest order low in
    let rise = subst (IsNonDecreasingBy (λ e. e.0)) (sym same) (IsNonDecreasingBy-drop (λ e. e.0) low order o.keys_rise) in
    run_is keys order o key low c.partition_point-2.result c.partition_point.ensures.bound
    (IsPartitionPoint-from_clause (λ e. ltb e.0 key) order low c.partition_point.ensures.partitioned (IsPartitionedBy-ltb (λ e. e.0) order key o.keys_rise)
    (λ a r q k. search rules))
    _ same c.partition_point-2.ensures.bound
    (IsPartitionPoint-from_clause (λ e. leb e.0 key) _ c.partition_point-2.result c.partition_point-2.ensures.partitioned
    (IsPartitionedBy-leb (λ e. e.0) _ key rise) (λ a r q k. search rules))
