use Rattle.std.proofs.Common.{◌≡◌, map, take}
use Rattle.type_layout.specs.Types.{layout_of, end_after}
use Rattle.type_layout.proofs.layout.end_of.Given as goal

abbrev pub invariant-loop-k : goal.invariant-loop-k
invariant-loop-k l = l.end ≡ end_after 0 (map layout_of (take l.k l.fields))
