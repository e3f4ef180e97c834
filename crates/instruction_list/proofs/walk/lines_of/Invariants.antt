use Rattle.std.proofs.Common.{◌≡◌, ◌≤◌, drop}
use Rattle.instruction_list.specs.Lines.{lines_of}
use Rattle.instruction_list.proofs.Turns.{With}
use Rattle.instruction_list.proofs.walk.lines_of.Given as goal

-- what is done with what is left are the lines of the module
abbrev pub invariant-each : goal.invariant-each
invariant-each l = record {
  so_far : With l.walk (drop l.item-index l.items) ≡ lines_of l.items;
  count : l.walk.count ≤ l.item-index;
}
