use Rattle.std.proofs.Common.{refl}
use Rattle.ir_block_rules.proofs.laws.rules_need_no_more.Goals as goal

pub returns-clause-label : goal.returns-clause-label
returns-clause-label c = λ s x. refl

pub returns-clause-target : goal.returns-clause-target
returns-clause-target c = λ s x. refl

pub returns-clause-place : goal.returns-clause-place
returns-clause-place c = λ s x. refl

pub returns-clause-open_block : goal.returns-clause-open_block
returns-clause-open_block c = λ s x. refl

pub returns-clause-width : goal.returns-clause-width
returns-clause-width c = λ s x. refl

pub returns-clause-returned : goal.returns-clause-returned
returns-clause-returned c = λ s x. refl
