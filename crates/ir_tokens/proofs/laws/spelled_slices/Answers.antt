use Rattle.ir_tokens.proofs.Places.{HasTokens-AreSpelled}
use Rattle.ir_tokens.proofs.laws.spelled_slices.Goals as goal

pub returns : goal.returns
returns c = HasTokens-AreSpelled
