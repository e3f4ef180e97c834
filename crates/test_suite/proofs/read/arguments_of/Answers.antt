use Rattle.std.proofs.Common.{ap}
use Rattle.std.specs.Option.{option_copied}
use Rattle.test_suite.proofs.Arguments.{none_left}
use Rattle.test_suite.proofs.read.arguments_of.Goals as goal

pub returns-in-None : goal.returns-in-None
returns-in-None c = none_left c.args.types.now c.each.ty-index c.each.words _ _ c.each-test.true (ap option_copied c.in-None.is) c.each.invariant
