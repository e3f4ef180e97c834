use Rattle.std.proofs.Common.{◌≡◌, ◌<◌, ◌≤◌, map, take}
use Rattle.type_layout.specs.Types.{layout_of, end_after, greatest_align}
use Rattle.type_layout.proofs.layout.+layout.Given as goal

abbrev pub invariant-layout_struct-loop-t : goal.invariant-layout_struct-loop-t
invariant-layout_struct-loop-t l = record {
  end : l.end ≡ end_after 0 (map layout_of (take l.t-index l.fields));
  align : l.align ≡ greatest_align (map layout_of (take l.t-index l.fields));
  some : 0 < l.align;
  few : l.align ≤ 8;
}
