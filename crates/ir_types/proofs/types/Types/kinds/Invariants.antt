use Rattle.std.proofs.Common.{◌≡◌, [], take}
use Rattle.std.specs.List.{fold}
use Rattle.ir_types.specs.Scalars.{name_kind, with_kind}
use Rattle.ir_types.proofs.types.Types.kinds.Given as goal

abbrev pub invariant-each : goal.invariant-each
invariant-each l = l.names ≡ fold (with_kind (name_kind l.self.defs)) [] (take l.item-index l.items)
