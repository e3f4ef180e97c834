use Rattle.ir_grammar.proofs.ModuleLemmas.{some-reading}
use Rattle.ir_grammar.proofs.laws.some_reading.Goals as goal

pub returns : goal.returns
returns c = some-reading
