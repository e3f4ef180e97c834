use Rattle.std.proofs.Common.{ap, ◌∙◌}
use Rattle.ir_tree.specs.declared.name.Name.TheVariants.{Text}
use Rattle.ir_names.specs.Names.{with_first}
use Rattle.ir_call_rules.proofs.PortNumbers.{numbered-more}
use Rattle.ir_call_rules.proofs.ports.numbers_of.Goals as goal

pub each-preserved : goal.each-preserved
each-preserved c =
    let sign = c.index-signs-number.result in
    c.in_ok-add.ensures
    ∙ ap (λ name. with_first c.each.numbers (Text name, c.each.number)) c.in_ok-copy.ensures
    ∙ ap (λ t. with_first t (Text sign.name, c.each.number)) c.each.invariant
    ∙ numbered-more c.args.signs.now c.each.number sign c.each-test.true c.index-signs-number.is
