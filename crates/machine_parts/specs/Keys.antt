-- The number of a change by which equal changes are found.
--     mix         a key with one part more
--     change_key  the parts of a change, mixed in order
use Rattle.std.specs.Prelude.{ℕ, ◌+◌, ◌*◌, ◌%◌, ◌^◌, List, Some, unwrap_or, fold}
use Rattle.am_base.specs.declared.outcome.Ending.{Ending}
use Rattle.am_base.specs.declared.outcome.Ending.TheVariants.{Return, Exit}
use Rattle.machine_form.specs.declared.change.Change.{Change}
use Rattle.machine_form.specs.declared.change.Control.{Control}
use Rattle.machine_form.specs.declared.change.Control.TheVariants.{Jump, Enter, End}
use Rattle.machine_parts.specs.declared.keys.TheConstants.{FACTOR}

abbrev pub mix : ℕ → ℕ → ℕ
mix key part = ((key * FACTOR) % 2 ^ 64 + part) % 2 ^ 64

abbrev pub ending_part : Ending → ℕ
ending_part (Return (Some word)) = word
ending_part (Exit word) = word
ending_part _ = 0

abbrev pub control_part : Control → ℕ
control_part (Jump block) = block
control_part (Enter function) = function
control_part (End ending) = ending_part ending
control_part _ = 0

abbrev pub mix_pairs : ℕ → List (ℕ × ℕ) → ℕ
mix_pairs = fold (λ key w. mix (mix key w.0) w.1)

abbrev pub change_key : Change → ℕ
change_key c = mix_pairs (mix_pairs (mix (mix (control_part c.control) c.top) (unwrap_or c.put 0)) c.writes) c.bytes
