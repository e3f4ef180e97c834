-- A state from which a sound code runs.
use Rattle.std.specs.Prelude.{◌<◌, All}
use Rattle.code_form.specs.declared.code.Code.{Code}
use Rattle.machine_form.specs.State.{State}
use Rattle.machine_form.specs.SoundState.{IsSoundState}

-- the state is sound, and its input holds bytes
pub record IsRunning (code : Code) (s : State) : Type 0 where
  pub sound : IsSoundState code s
  pub input : All (λ b. b < 256) s.input
