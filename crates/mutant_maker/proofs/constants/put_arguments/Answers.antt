use Rattle.std.proofs.Common.{List, sym, ap, ◌∙◌}
use Rattle.std.proofs.lemmas.List.{drop_all}
use Rattle.ir_rules.specs.Types.{kind_of}
use Rattle.ir_rules.specs.Parts.{Typed}
use Rattle.mutant_maker.specs.Makers.{constants_from}
use Rattle.mutant_maker.specs.Walks.{with_ops}
use Rattle.mutant_maker.proofs.Steps.{done}
use Rattle.mutant_maker.proofs.Turns.{argument_turn}
use Rattle.mutant_maker.proofs.constants.put_arguments.Goals as goal

pub each-preserved : goal.each-preserved
each-preserved c =
    argument_turn (kind_of c.args.types.now.defs) c.args.op.now c.each.k c.args.xs.now c.index-xs-k.result c.each.walk c.put_numbers.new.walk
    c.each-test.true c.index-xs-k.is c.in_ok-put_numbers.ensures ∙ c.each.invariant

pub returns : goal.returns
returns c =
    done c.each.walk
    ∙ ap (λ (l : List Typed). with_ops c.each.walk (constants_from (kind_of c.args.types.now.defs) c.args.op.now c.each.k l))
    (sym (drop_all c.each.k c.args.xs.now c.each-test.false))
    ∙ c.each.invariant
