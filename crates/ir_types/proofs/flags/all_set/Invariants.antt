use Rattle.std.proofs.Common.{◌≡◌, take}
use Rattle.std.specs.List.{list_all}
use Rattle.ir_types.proofs.flags.all_set.Given as goal

abbrev pub invariant-each : goal.invariant-each
invariant-each l = l.all ≡ list_all (λ b. b) (take l.flag-index l.flags)
