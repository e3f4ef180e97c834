use Rattle.std.proofs.Common.{◌≡◌, ◌+◌, ◌≤◌, ◌++◌, map, reverse, vec_len, vec_capacity}
use Rattle.exec_core.specs.Analysed.{class_from}
use Rattle.exec_core.proofs.finish.move_classes.Given as goal

abbrev pub invariant-loop-l : goal.invariant-loop-l
invariant-loop-l g l = record {
  moved : map class_from l.ended.items ++ reverse l.classes.items ≡ map class_from l.fn.ended.items;
  room : vec_len l.ended + vec_len l.classes ≤ vec_capacity l.classes;
}

abbrev pub decreases-loop-l : goal.decreases-loop-l
decreases-loop-l g l = vec_len l.ended
