use Rattle.shared_pages.proofs.Laws.{equal_share}
use Rattle.shared_pages.proofs.law.equal_memories_share.Goals as goal

pub returns : goal.returns
returns c = equal_share
