use Rattle.flat_analysis.proofs.GroupLemmas.{is_group}
use Rattle.flat_analysis.proofs.laws.groups.Goals as goal

pub returns : goal.returns
returns c = λ T n e same few is. is_group T n e same few is
