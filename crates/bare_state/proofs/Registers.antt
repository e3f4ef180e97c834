-- The registers of all frames together are those of the one list in which they lie.
use Rattle.std.proofs.Common.{◌≡◌, ℕ, ◌≤◌, List, [], ◌∷◌, Option, length, take, drop, arith, refl}
use Rattle.std.specs.Prelude.{sum_by}
use Rattle.std.proofs.lemmas.List.{length-take-le, length-drop}
use Rattle.std.proofs.lemmas.List.Sums.{sum_by-cons}
use Rattle.machine_form.specs.declared.frame.Frame.{Frame}
use Rattle.bare_state.specs.declared.mark.Mark.{Mark}
use Rattle.bare_state.specs.Frames.{frame_at, callers_in, AreNested}

abbrev registers_of : Frame → ℕ
registers_of f = length f.registers

below_counted : (marks : List Mark) (registers : List (Option ℕ)) (end : ℕ) → length registers ≡ end → AreNested marks end → sum_by registers_of (callers_in marks registers) ≡ end
below_counted [] registers end long nested = omega (arith, nested)
below_counted (m ∷ marks) registers end long nested =
    let kept : length (take m.base registers) ≡ m.base = length-take-le m.base registers (omega (arith, nested.0)) in
    omega (
      arith,
      sum_by-cons registers_of (frame_at m (drop m.base registers)) (callers_in marks (take m.base registers)),
      below_counted marks (take m.base registers) m.base kept nested.1,
      length-drop m.base registers,
      nested.0,
    )

pub all_counted : (running : Mark) (marks : List Mark) (registers : List (Option ℕ)) → running.base ≤ length registers → AreNested marks running.base
    → length registers ≡ sum_by registers_of (frame_at running (drop running.base registers) ∷ callers_in marks (take running.base registers))
all_counted running marks registers within nested =
    let kept : length (take running.base registers) ≡ running.base = length-take-le running.base registers within in
    omega (
      arith,
      sum_by-cons registers_of (frame_at running (drop running.base registers)) (callers_in marks (take running.base registers)),
      below_counted marks (take running.base registers) running.base kept nested,
      length-drop running.base registers,
    )

pub length-callers_in : (marks : List Mark) (registers : List (Option ℕ)) → length (callers_in marks registers) ≡ length marks
length-callers_in [] registers = refl
length-callers_in (m ∷ marks) registers = omega (arith, length-callers_in marks (take m.base registers))
