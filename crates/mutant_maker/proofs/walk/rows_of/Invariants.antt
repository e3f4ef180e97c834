use Rattle.std.proofs.Common.{◌≡◌, ◌≤◌, [], drop}
use Rattle.ir_rules.specs.Types.{kind_of}
use Rattle.mutant_maker.specs.Lists.{made_from}
use Rattle.mutant_maker.specs.Walks.{with_all}
use Rattle.mutant_maker.proofs.walk.rows_of.Given as goal

-- what is done with what is left are the records of the module
abbrev pub invariant-each : goal.invariant-each
invariant-each l = record {
  so_far : with_all l.walk.rows (made_from (kind_of l.types.defs) l.instrs l.walk.function l.walk.instruction l.walk.place (drop l.item-index l.items))
      ≡ with_all [] (made_from (kind_of l.types.defs) l.instrs [] 0 0 l.items);
  instruction : l.walk.instruction ≤ l.item-index;
  place : l.walk.place ≤ l.item-index;
}
