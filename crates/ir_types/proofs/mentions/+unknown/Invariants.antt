use Rattle.std.proofs.Common.{◌≡◌, take}
use Rattle.std.specs.List.{list_any}
use Rattle.ir_types.specs.Graph.{names_unknown}
use Rattle.ir_types.proofs.mentions.+unknown.Given as goal

abbrev pub invariant-some_names_unknown_type-each : goal.invariant-some_names_unknown_type-each
invariant-some_names_unknown_type-each l = l.found ≡ list_any (names_unknown l.numbers) (take l.ty-index l.types)
