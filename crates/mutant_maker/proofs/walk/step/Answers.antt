use Rattle.std.proofs.Common.{arith}
use Rattle.ir_rules.specs.Types.{kind_of}
use Rattle.mutant_maker.proofs.Turns.{stepped, place_kept}
use Rattle.mutant_maker.proofs.walk.step.Goals as goal

pub overflow_add-walk-in-Instr : goal.overflow_add-walk-in-Instr
overflow_add-walk-in-Instr c =
    let same = place_kept _ c.put_all.new.walk _ c.in_ok-put_all-in-Instr.ensures in
    omega (arith, same, c.requires.place)

pub returns-in_ok-put_all-in-Instr : goal.returns-in_ok-put_all-in-Instr
returns-in_ok-put_all-in-Instr c =
    stepped (kind_of c.args.types.now.defs) c.args.instrs.now c.args.walk.now c.put_all.new.walk c.args.item.now c.in-Instr.field-0 c.in-Instr.op
    c.get-in-Instr.result.now _ c.in-Instr.is c.get.ensures c.get-in-Instr.ensures c.in_ok-put_all-in-Instr.ensures
