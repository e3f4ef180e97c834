use Rattle.std.proofs.Common.{◌≡◌, take}
use Rattle.ir_module.proofs.signs.copies.Given as goal

abbrev pub invariant-each : goal.invariant-each
invariant-each l = l.list ≡ take l.sign-index l.signs
