use Rattle.ir_tokens.proofs.Cut.{HasTokens-same, HasTokens-HasFault, HasFault-same}
use Rattle.ir_tokens.proofs.laws.one_cut.Goals as goal

pub returns-clause-tokens : goal.returns-clause-tokens
returns-clause-tokens c = HasTokens-same

pub returns-clause-either : goal.returns-clause-either
returns-clause-either c = HasTokens-HasFault

pub returns-clause-fault : goal.returns-clause-fault
returns-clause-fault c = HasFault-same
