use Rattle.ir_op_codes.proofs.Alike.{alike, alone, by-firsts}
use Rattle.ir_op_codes.proofs.laws.code_needs_no_more.Goals as goal

pub returns : goal.returns
returns c = record {
  alike = λ s u a b o like same. alike s u a b like same o;
  alone = alone;
  firsts = by-firsts;
}
