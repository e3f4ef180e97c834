use Rattle.std.proofs.Common.{◌≡◌, map, take}
use Rattle.ir_names.specs.Names.{defined}
use Rattle.ir_rules.specs.Blocks.{block_number}
use Rattle.ir_call_rules.proofs.phis.entry_blocks.Given as goal

abbrev pub invariant-each : goal.invariant-each
invariant-each l = l.list ≡ map (λ e. block_number (defined l.locals e.1)) (take l.entry-index l.entries)
