use Rattle.std.proofs.Common.{◌≡◌, ◌++◌, drop}
use Rattle.ir_rules.specs.Modules.{blocks_from}
use Rattle.ir_codegen.proofs.functions.blocks.Given as goal

abbrev pub invariant-each : goal.invariant-each
invariant-each l = l.list ++ blocks_from l.at (drop l.b l.starts) l.count ≡ blocks_from l.at l.starts l.count
