-- Instructions with one part changed.
use Rattle.std.specs.Prelude.{Bool, true, false}
use Rattle.am_base.specs.declared.word.BinOp.{BinOp}
use Rattle.am_base.specs.declared.word.Pred.{Pred}
use Rattle.ir_tree.specs.declared.operand.Opd.{Opd}
use Rattle.ir_tree.specs.declared.operand.Opd.TheVariants as opd
use Rattle.ir_tree.specs.declared.op.Op.{Op}
use Rattle.ir_tree.specs.declared.op.Op.TheVariants as op
use Rattle.mutant_maker.specs.declared.changes.Change.{Change}
use Rattle.mutant_maker.specs.declared.changes.Change.TheVariants as change
use Rattle.mutant_maker.specs.Makers.{with_value}

abbrev pub with_operation : Op → BinOp → Op
with_operation (op.Bin b t x y) k = op.Bin k t x y
with_operation o k = o

abbrev pub with_predicate : Op → Pred → Op
with_predicate (op.Cmp p t x y) k = op.Cmp k t x y
with_predicate o k = o

abbrev pub swapped : Op → Op
swapped (op.Bin b t x y) = op.Bin b t y x
swapped (op.Cmp p t x y) = op.Cmp p t y x
swapped (op.Select c i t x u y) = op.Select c i u y t x
swapped (op.Branch t i m n) = op.Branch t i n m
swapped o = o

abbrev pub conditioned : Op → Opd → Op
conditioned (op.Select c i t x u y) j = op.Select c j t x u y
conditioned (op.Branch t i m n) j = op.Branch t j m n
conditioned o j = o

abbrev pub condition : Bool → Opd
condition true = opd.True
condition false = opd.False

abbrev pub changed : Op → Change → Op
changed o (change.Operation k) = with_operation o k
changed o (change.Predicate k) = with_predicate o k
changed o (change.Number k z) = with_value o k (opd.Number z)
changed o change.Swap = swapped o
changed o (change.Condition b) = conditioned o (condition b)
