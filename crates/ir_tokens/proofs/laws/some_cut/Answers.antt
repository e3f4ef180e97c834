use Rattle.ir_tokens.proofs.Cut.{HasTokens-or-HasFault}
use Rattle.ir_tokens.proofs.laws.some_cut.Goals as goal

pub returns : goal.returns
returns c = HasTokens-or-HasFault
