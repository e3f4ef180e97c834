use Rattle.std.proofs.Common.{◌≡◌, drop}
use Rattle.machine_form.specs.Straight.{values_of}
use Rattle.lane_eval.proofs.WriteSteps.{after_front}
use Rattle.lane_eval.proofs.port.argument_words.Given as goal

abbrev pub invariant-loop-a : goal.invariant-loop-a
invariant-loop-a g l = after_front l.words (values_of (g.V.View.state l.s) (drop l.a-index l.args)) ≡ values_of (g.V.View.state l.s) l.args
