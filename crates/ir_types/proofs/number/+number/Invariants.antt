use Rattle.std.proofs.Common.{◌≡◌, Some, map, take, slice_get}
use Rattle.type_table.specs.Table.{Keeps}
use Rattle.ir_rules.specs.Types.{expand_by}
use Rattle.ir_types.specs.Named.{name_number, types_in}
use Rattle.ir_types.proofs.number.+number.Given as goal

abbrev pub invariant-numbers_by-each : goal.invariant-numbers_by-each
invariant-numbers_by-each l = record {
  kept : Keeps l.initial.table l.table;
  numbers :
      let number = name_number l.names.numbers.now l.names.recursive.now l.names.named.now in
      map (slice_get l.table) l.list ≡ map (λ t. Some (expand_by (types_in l.initial.table number) t)) (take l.ty-index l.types);
}
