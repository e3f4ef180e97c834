use Rattle.std.proofs.Common.{◌≡◌, fold, take, map, replicate, None}
use Rattle.exec_core.specs.Engines.{split_seen}
use Rattle.reach_report.specs.Pass.{with_split}
use Rattle.reach_report.proofs.parting.led.Given as goal

abbrev pub invariant-splits : goal.invariant-splits
invariant-splits l = l.table.items ≡ fold with_split (replicate l.mutants None) (map split_seen (take l.split-index l.splits))
