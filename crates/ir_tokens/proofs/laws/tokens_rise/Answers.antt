use Rattle.ir_tokens.proofs.Places.{HasTokens-Rise}
use Rattle.ir_tokens.proofs.laws.tokens_rise.Goals as goal

pub returns : goal.returns
returns c = HasTokens-Rise
