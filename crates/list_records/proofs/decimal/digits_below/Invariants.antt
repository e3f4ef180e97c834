use Rattle.std.proofs.Common.{◌≡◌, ◌≤◌, take}
use Rattle.std.specs.Str.Parse.{digits_value}
use Rattle.list_records.proofs.decimal.digits_below.Given as goal

abbrev pub invariant-each : goal.invariant-each
invariant-each l = record { so_far : l.value ≡ digits_value 10 (take l.digit-index l.digits); small : l.value ≤ 18446744073709551615 }
