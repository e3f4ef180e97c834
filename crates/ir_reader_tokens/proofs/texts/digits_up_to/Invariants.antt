use Rattle.std.proofs.Common.{◌≡◌, ◌≤◌, take}
use Rattle.std.specs.Str.Parse.{digits_value}
use Rattle.ir_reader_tokens.proofs.texts.digits_up_to.Given as goal

abbrev pub invariant-each : goal.invariant-each
invariant-each l = record { so_far : l.value ≡ digits_value 10 (take l.digit-index l.digits); small : l.value ≤ l.most }
