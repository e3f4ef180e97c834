use Rattle.std.proofs.Common.{◌≡◌, take}
use Rattle.std.specs.List.{list_all}
use Rattle.ir_rules.specs.Blocks.{has}
use Rattle.ir_call_rules.proofs.numbers.has_all.Given as goal

abbrev pub invariant-each : goal.invariant-each
invariant-each l = l.all ≡ list_all (has l.set) (take l.n-index l.numbers)
