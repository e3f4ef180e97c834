use Rattle.ir_tokens.specs.declared.token.TokenKind.TheVariants as kind
use Rattle.ir_grammar.proofs.Names.{name_of-StandsFor}
use Rattle.ir_grammar.proofs.laws.names_read.Goals as goal

pub returns-clause-local : goal.returns-clause-local
returns-clause-local c = λ s rest n h. name_of-StandsFor kind.Local s rest n tt h

pub returns-clause-global : goal.returns-clause-global
returns-clause-global c = λ s rest n h. name_of-StandsFor kind.Global s rest n tt h

pub returns-clause-label : goal.returns-clause-label
returns-clause-label c = λ s rest n h. name_of-StandsFor kind.Label s rest n tt h
