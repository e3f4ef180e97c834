use Rattle.std.proofs.Common.{◌≡◌, ◌++◌, take, drop}
use Rattle.ir_rules.specs.Settings.{upto_end}
use Rattle.ir_pass.proofs.frame.len_upto_end.Given as goal

abbrev pub invariant-each : goal.invariant-each
invariant-each l = upto_end l.items ≡ take l.i l.items ++ upto_end (drop l.i l.items)
