use Rattle.traces.proofs.Together.{AreTogether-from, together_from, both_go_on}
use Rattle.traces.proofs.WholeTraces.{together_at_start, same_trace_is}
use Rattle.exec_core.proofs.laws.classes.Goals as goal

pub returns-clause-together : goal.returns-clause-together
returns-clause-together g c = λ trial m k n same. (AreTogether-from trial same m k n, together_from trial same m k n)

pub returns-clause-at_the_start : goal.returns-clause-at_the_start
returns-clause-at_the_start g c = λ trial m k same. together_at_start trial same m k

pub returns-clause-both_go_on : goal.returns-clause-both_go_on
returns-clause-both_go_on g c = λ trial m k n same. both_go_on trial same m k n

pub returns-clause-whole : goal.returns-clause-whole
returns-clause-whole g c = λ trial m k same. same_trace_is trial same m k
