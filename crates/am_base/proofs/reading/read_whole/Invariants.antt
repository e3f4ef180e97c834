use Rattle.std.proofs.Common.{length, ◌-◌, ◌≡◌, ℕ, ◌<◌, ◌≤◌, List, take}
use Rattle.am_base.specs.Files.{Holds, IsHeld}
use Rattle.am_base.proofs.reading.read_whole.Given as goal

-- the front of the buffer is the front of the file
abbrev pub invariant-loop-taken : goal.invariant-loop-taken
invariant-loop-taken g l = record {
  within : l.taken ≤ length l.into;
  kept : g.F.Shelf.files l.shelf ≡ g.F.Shelf.files l.fn.shelf;
  counts : (other : List ℕ) → g.F.Shelf.faults l.fn.shelf other ≤ g.F.Shelf.faults l.shelf other;
  held : 0 < l.taken → IsHeld (g.F.Shelf.files l.fn.shelf) l.name;
  front : (file : List ℕ) → Holds (g.F.Shelf.files l.fn.shelf) l.name file → take l.taken l.into ≡ take l.taken file;
}

abbrev pub decreases-loop-taken : goal.decreases-loop-taken
decreases-loop-taken g l = length l.initial.into - l.taken
