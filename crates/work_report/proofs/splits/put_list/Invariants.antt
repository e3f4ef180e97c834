use Rattle.std.proofs.Common.{◌≡◌, ◌++◌, flat_map, take}
use Rattle.work_report.specs.Report.{split_line}
use Rattle.work_report.proofs.splits.put_list.Given as goal

abbrev pub invariant-splits : goal.invariant-splits
invariant-splits l = l.out ≡ l.initial.out ++ flat_map (split_line l.name) (take l.split-index l.splits)
