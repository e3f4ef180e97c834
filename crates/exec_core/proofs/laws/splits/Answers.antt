use Rattle.traces.proofs.AllSplits.{split_is, split_there, in_order}
use Rattle.exec_core.proofs.laws.splits.Goals as goal

pub returns-clause-exactly : goal.returns-clause-exactly
returns-clause-exactly g c = λ trial split same. (split_is trial same split, split_there trial same split)

pub returns-clause-order : goal.returns-clause-order
returns-clause-order g c = λ trial same. in_order trial same
