use Rattle.std.proofs.Common.{◌≡◌, ◌+◌, ◌≤◌, drop}
use Rattle.command_texts.specs.Accepted.{count_of, test_of}
use Rattle.command_texts.proofs.accepted.count_of.Given as goal

abbrev pub invariant-items : goal.invariant-items
invariant-items l = record {
  so_far : l.count + count_of (test_of l.kind) (drop l.item-index l.items) ≡ count_of (test_of l.kind) l.items;
  few : l.count ≤ l.item-index;
}
