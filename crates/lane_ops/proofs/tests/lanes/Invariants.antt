use Rattle.std.proofs.Common.{◌≡◌, length}
use Rattle.std.specs.List.{All}
use Rattle.am_base.specs.Word.{IsWord}
use Rattle.lane_ops.proofs.tests.lanes.Given as goal

abbrev pub invariant-lanes : goal.invariant-lanes
invariant-lanes l = record {
  len : length l.words.items ≡ l.lane;
  words : All (IsWord l.fn.w) l.words.items;
}
