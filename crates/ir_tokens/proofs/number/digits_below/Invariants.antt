use Rattle.std.proofs.Common.{◌≡◌, ◌≤◌, take}
use Rattle.std.specs.Str.Parse.{digits_value}
use Rattle.ir_tokens.proofs.number.digits_below.Given as goal

abbrev pub invariant-each : goal.invariant-each
invariant-each l = record { so_far : l.value ≡ digits_value 10 (take l.digit-index l.digits); small : l.value ≤ 4294967295 }
