use Rattle.mutant_maker_laws.proofs.Left.{all-left}
use Rattle.mutant_maker_laws.proofs.laws.only_equal_ones_are_left_out.Goals as goal

pub returns : goal.returns
returns c = λ s addresses o. all-left s addresses o
