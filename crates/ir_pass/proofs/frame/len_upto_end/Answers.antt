use Rattle.std.proofs.Common.{sym, ◌∙◌, arith}
use Rattle.ir_pass.proofs.Ends.{end-found, end-later, no-end}
use Rattle.ir_pass.proofs.frame.len_upto_end.Goals as goal

pub returns-then-is_end-clause-value : goal.returns-then-is_end-clause-value
returns-then-is_end-clause-value c =
    end-found c.args.items.now c.each.i c.index-items-i.result c.each-test.true c.index-items-i.is c.each.invariant (sym c.is_end.ensures ∙ c.if-is_end.true)

pub returns-clause-value : goal.returns-clause-value
returns-clause-value c = no-end c.args.items.now c.each.i c.each-test.false c.each.invariant

pub each-preserved : goal.each-preserved
each-preserved c =
    end-later c.args.items.now c.each.i c.index-items-i.result c.each-test.true c.index-items-i.is c.each.invariant (sym c.is_end.ensures ∙ c.if-is_end.false)
