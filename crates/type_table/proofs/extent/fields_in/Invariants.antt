use Rattle.std.proofs.Common.{◌≡◌, map, take, Some}
use Rattle.std.specs.List.{fold}
use Rattle.type_table.specs.Extents as spec
use Rattle.type_table.proofs.extent.fields_in.Given as goal

abbrev pub invariant-each : goal.invariant-each
invariant-each l = l.fields ≡ fold spec.with_field (Some spec.no_fields) (map (spec.extent_in l.extents) (take l.part-index l.parts))
