use Rattle.mutant_maker_laws.proofs.Accepted.{asked-fit}
use Rattle.mutant_maker_laws.proofs.laws.makers_fit.Goals as goal

pub returns : goal.returns
returns c = λ signs text m asked h g. asked-fit signs text m h asked g
