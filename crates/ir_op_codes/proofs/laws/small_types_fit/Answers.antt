use Rattle.ir_op_codes.proofs.Fitting.{op-fits}
use Rattle.ir_op_codes.proofs.laws.small_types_fit.Goals as goal

pub returns : goal.returns
returns c = λ s r o h. op-fits s.types r o h
