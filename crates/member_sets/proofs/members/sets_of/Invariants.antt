use Rattle.std.proofs.Common.{◌≡◌, take}
use Rattle.member_sets.proofs.members.sets_of.Given as goal

abbrev pub invariant-loop-list : goal.invariant-loop-list
invariant-loop-list l = l.sets.items ≡ take l.list-index l.lists
