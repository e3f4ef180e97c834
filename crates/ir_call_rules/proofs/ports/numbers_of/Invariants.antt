use Rattle.std.proofs.Common.{◌≡◌, take}
use Rattle.ir_names.specs.Names.{firsts}
use Rattle.ir_call_rules.specs.Ports.{numbered}
use Rattle.ir_call_rules.proofs.ports.numbers_of.Given as goal

abbrev pub invariant-each : goal.invariant-each
invariant-each l = l.numbers ≡ firsts (numbered 0 (take l.number l.signs))
