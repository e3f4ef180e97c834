use Rattle.code_form.specs.declared.instr.Operand.TheVariants.{Word}
use Rattle.ir_tree.specs.declared.operand.Opd.TheVariants as opd
use Rattle.mutant_maker.specs.Makers.{same_operand, with_condition}
use Rattle.mutant_maker.proofs.Steps.{both}
use Rattle.mutant_maker.proofs.makers.put_both.Goals as goal

pub returns : goal.returns
returns c =
    both (with_condition c.args.op.now) opd.True opd.False (same_operand c.args.d (Word 1)) (same_operand c.args.d (Word 0)) c.same_operand-is_true.result
    c.same_operand-is_false.result c.args.walk.now c.put_condition.new.walk c.put_condition-2.new.walk c.same_operand-is_true.ensures
    c.same_operand-is_false.ensures c.in_ok-put_condition.ensures c.in_ok-put_condition-2.ensures
