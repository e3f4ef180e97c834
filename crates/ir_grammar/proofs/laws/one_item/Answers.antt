use Rattle.ir_grammar.proofs.ModuleLemmas.{item-one}
use Rattle.ir_grammar.proofs.Productions.{item-firm}
use Rattle.ir_grammar.proofs.laws.one_item.Goals as goal

pub returns-clause-one : goal.returns-clause-one
returns-clause-one c = λ ts rest rest' x y h g. item-one ts x y rest rest' h g

pub returns-clause-shorter : goal.returns-clause-shorter
returns-clause-shorter c = λ ts rest x h. item-firm.strict ts x rest h

pub returns-clause-found : goal.returns-clause-found
returns-clause-found c = λ ts rest x. (λ h. item-firm.exact.only ts x rest h, λ e. item-firm.exact.sound ts x rest e)
