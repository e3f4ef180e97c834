use Rattle.suite_reduce.proofs.Choosing.{kill_like_all}
use Rattle.suite_reduce.proofs.laws.chosen_kill_like_all.Goals as goal

pub returns : goal.returns
returns c = λ grid m h. kill_like_all grid m h
