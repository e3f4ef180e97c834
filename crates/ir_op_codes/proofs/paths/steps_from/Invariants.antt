use Rattle.std.proofs.Common.{◌≡◌, ◌++◌, drop}
use Rattle.ir_op_codes.specs.Paths.{moves, rest_of, IsRoomy}
use Rattle.ir_op_codes.proofs.paths.steps_from.Given as goal

abbrev pub invariant-each : goal.invariant-each
invariant-each l = record {
  roomy : IsRoomy l.types.types l.place;
  rest : moves l.list ++ rest_of l.types.defs l.types.types l.place (drop l.index-index l.indices) ≡ rest_of l.types.defs l.types.types l.fn.start l.indices;
}
