use Rattle.std.proofs.Common.{sym, subst}
use Rattle.ir_op_codes.specs.Paths.{IsSmall}
use Rattle.ir_op_codes.proofs.Layouts.{small}
use Rattle.ir_op_codes.proofs.paths.steps_of.Goals as goal

pub steps_from-requires : goal.steps_from-requires
steps_from-requires c = subst IsSmall (sym c.in_ok-number.ensures.number) (small c.args.types.now.defs c.args.of.now c.requires)
