use Rattle.std.proofs.Common.{◌≡◌, ◌+◌, ◌*◌}
use Rattle.member_sets.specs.Planes.{upto}
use Rattle.member_sets.proofs.words.list_of.Given as goal

abbrev pub invariant-loop-at : goal.invariant-loop-at
invariant-loop-at l = l.list.items ≡ upto l.first l.words (64 * (l.first + l.at))
