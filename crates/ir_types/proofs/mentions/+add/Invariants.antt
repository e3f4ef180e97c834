use Rattle.std.proofs.Common.{◌≡◌, ◌++◌, take}
use Rattle.std.specs.List.{flat_map}
use Rattle.ir_types.specs.Graph.{numbers_in}
use Rattle.ir_types.proofs.mentions.+add.Given as goal

abbrev pub invariant-add_all_numbers-each : goal.invariant-add_all_numbers-each
invariant-add_all_numbers-each l = l.list ≡ l.initial.list ++ flat_map (numbers_in l.numbers) (take l.ty-index l.types)
