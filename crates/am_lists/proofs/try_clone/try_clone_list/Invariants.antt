use Rattle.std.proofs.Common.{◌≡◌, take}
use Rattle.am_lists.proofs.try_clone.try_clone_list.Given as goal

abbrev pub invariant-each : goal.invariant-each
invariant-each g l = l.copies ≡ take l.item-index l.items
