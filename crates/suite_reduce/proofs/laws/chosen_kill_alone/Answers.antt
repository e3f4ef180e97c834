use Rattle.suite_reduce.proofs.Choosing.{kill_alone}
use Rattle.suite_reduce.proofs.laws.chosen_kill_alone.Goals as goal

pub returns : goal.returns
returns c = λ grid t h. kill_alone grid t h
