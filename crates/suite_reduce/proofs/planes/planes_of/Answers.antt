use Rattle.std.proofs.Common.{arith}
use Rattle.suite_reduce.proofs.Letters.{no_mutant}
use Rattle.suite_reduce.proofs.planes.planes_of.Goals as goal

pub returns : goal.returns
returns c = let inv = c.all.invariant in let many = inv.count in record {
  enough = omega (arith, c.div_ceil-blocks.ensures, c.all-test.false);
  no_more = λ m t h. no_mutant c.args.matrix.now m t h;
  each = λ block l. inv.each block (omega arith);
}
