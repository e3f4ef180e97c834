use Rattle.shared_analysis.proofs.GroupLemmas.{is_group}
use Rattle.shared_analysis.proofs.laws.groups.Goals as goal

pub returns : goal.returns
returns c = λ T n e same few is. is_group T n e same few is
