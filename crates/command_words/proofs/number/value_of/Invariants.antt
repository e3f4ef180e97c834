use Rattle.std.proofs.Common.{◌≡◌, take}
use Rattle.std.specs.Str.Parse.{digits_value}
use Rattle.command_words.proofs.number.value_of.Given as goal

abbrev pub invariant-each : goal.invariant-each
invariant-each l = l.value ≡ digits_value 10 (take l.digit-index l.digits)
