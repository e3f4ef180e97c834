use Rattle.std.proofs.Common.{◌∙◌, arith}
use Rattle.mutant_maker.proofs.Counts.{few_rows, many_rows, list_is}
use Rattle.mutant_maker.proofs.list.listed.Goals as goal

pub returns-then-rows-clause-many : goal.returns-then-rows-clause-many
returns-then-rows-clause-many c = λ ms e same. many_rows c.args.rows.now ms e (omega arith)

pub returns-clause-list : goal.returns-clause-list
returns-clause-list c = λ ms e. c.in_ok-text.ensures ∙ list_is c.args.rows.now ms e (omega arith)

pub returns-clause-few : goal.returns-clause-few
returns-clause-few c = λ ms e. few_rows c.args.rows.now ms e (omega arith)
