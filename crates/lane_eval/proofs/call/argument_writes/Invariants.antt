use Rattle.std.proofs.Common.{◌≡◌, drop}
use Rattle.std.specs.Option.{option_map}
use Rattle.machine_form.specs.Straight.{values_of}
use Rattle.machine_form.specs.Calls.{numbered}
use Rattle.lane_eval.proofs.WriteSteps.{after_front}
use Rattle.lane_eval.proofs.call.argument_writes.Given as goal

abbrev pub invariant-loop-i : goal.invariant-loop-i
invariant-loop-i g l = after_front l.writes (option_map (numbered l.i) (values_of (g.V.View.state l.s) (drop l.i l.args))) ≡ option_map (numbered 0) (values_of (g.V.View.state l.s) l.args)
