use Rattle.std.proofs.Common.{◌≡◌, ◌+◌, ◌≤◌, false, drop}
use Rattle.command_texts.specs.Accepted.{unlabelled_behind}
use Rattle.command_texts.proofs.accepted.unlabelled_of.Given as goal

abbrev pub invariant-items : goal.invariant-items
invariant-items l = record {
  so_far : l.count + unlabelled_behind l.behind_head (drop l.item-index l.items) ≡ unlabelled_behind false l.items;
  few : l.count ≤ l.item-index;
}
