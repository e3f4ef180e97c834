use Rattle.std.proofs.Common.{◌≡◌, drop}
use Rattle.std.specs.Option.{option_copied}
use Rattle.test_suite.specs.Tests.{some_text, arguments_in}
use Rattle.test_suite.proofs.Arguments.{prefixed}
use Rattle.test_suite.proofs.read.arguments_of.Given as goal

abbrev pub invariant-each : goal.invariant-each
invariant-each l = arguments_in l.types (some_text l.text) ≡ prefixed l.words (arguments_in (drop l.ty-index l.types) (option_copied l.rest))
