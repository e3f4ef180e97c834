use Rattle.std.proofs.Common.{rules}
use Rattle.exec_core.proofs.SortLemmas.{sorted_by_pairs, in_order_same, key_of}
use Rattle.exec_core.proofs.finish.sort_splits.Goals as goal

pub returns : goal.returns
returns c ordered p h =
    in_order_same c.args.splits.now.items c.sort_unstable_by_key.new.self.items ordered c.sort_unstable_by_key.ensures.permutation p h
    (sorted_by_pairs key_of c.sort_unstable_by_key.new.self.items c.sort_unstable_by_key.ensures.sorted (λ a r q k. search rules))
