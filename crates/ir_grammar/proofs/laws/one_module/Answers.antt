use Rattle.ir_grammar.proofs.ModuleLemmas.{module-one}
use Rattle.ir_grammar.proofs.laws.one_module.Goals as goal

pub returns : goal.returns
returns c = module-one
