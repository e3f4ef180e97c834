use Rattle.std.specs.List.{filter}
use Rattle.traces.specs.Together.{below, class_of}
use Rattle.traces.proofs.Budgets.{trace_within, together_within}
use Rattle.exec_core.proofs.laws.budgets.Goals as goal

pub returns-clause-trace : goal.returns-clause-trace
returns-clause-trace g c = λ trial m n h. trace_within trial m n h

pub returns-clause-together : goal.returns-clause-together
returns-clause-together g c = λ trial budget m k n l h. together_within trial budget m k n l h

pub returns-clause-classes : goal.returns-clause-classes
unfolding class_of
returns-clause-classes g c = λ trial budget m n l h i. filter (λ k. together_within trial budget m k n l h i) (below trial.mutants)
