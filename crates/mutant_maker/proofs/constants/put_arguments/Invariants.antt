use Rattle.std.proofs.Common.{◌≡◌, drop}
use Rattle.ir_rules.specs.Types.{kind_of}
use Rattle.mutant_maker.specs.Makers.{constants_from}
use Rattle.mutant_maker.specs.Walks.{with_ops}
use Rattle.mutant_maker.proofs.constants.put_arguments.Given as goal

-- what is done with what is left is what is made of the call
abbrev pub invariant-each : goal.invariant-each
invariant-each l =
    with_ops l.walk (constants_from (kind_of l.types.defs) l.op l.k (drop l.k l.xs))
    ≡ with_ops l.initial.walk (constants_from (kind_of l.types.defs) l.op 0 l.xs)
