use Rattle.std.proofs.Common.{◌+◌, ◌-◌, length}
use Rattle.code_form.specs.Replacements.{AreSame}
use Rattle.code_form.proofs.replacements.make_room.Given as goal

abbrev pub invariant-loop-alloc : goal.invariant-loop-alloc
invariant-loop-alloc l = AreSame l.fn.places.items l.places.items

abbrev pub decreases-loop-alloc : goal.decreases-loop-alloc
decreases-loop-alloc l = l.at + 1 - length l.places.items
