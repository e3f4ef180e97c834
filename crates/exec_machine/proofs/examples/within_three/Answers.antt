use Rattle.std.proofs.Common.{refl}
use Rattle.traces.specs.Trace.{changes_from}
use Rattle.traces.specs.Together.{together, class_of}
use Rattle.exec_machine.proofs.examples.within_three.Goals as goal

pub returns : goal.returns
unfolding changes_from together class_of
returns c = record {
  steps = refl;
  alone = refl;
  tries = refl;
  executions = refl;
  load = refl;
  asks = refl;
  splits = refl;
  first_class = refl;
  second_class =
      refl;
  third_class = refl;
  run = refl;
}
