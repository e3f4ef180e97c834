use Rattle.ir_grammar.proofs.ModuleLemmas.{unread-one, either-one}
use Rattle.ir_grammar.proofs.laws.one_unread.Goals as goal

pub returns-clause-place : goal.returns-clause-place
returns-clause-place c = unread-one

pub returns-clause-either : goal.returns-clause-either
returns-clause-either c = either-one
