-- Frames whose registers lie one after another in one list.
use Rattle.std.specs.Prelude.{◌≡◌, ℕ, ◌≤◌, List, [], ◌∷◌, Option, take, drop}
use Rattle.machine_form.specs.declared.frame.Frame.{Frame}
use Rattle.bare_state.specs.declared.mark.Mark.{Mark}

-- the frame of a mark, with its registers
abbrev pub frame_at : Mark → List (Option ℕ) → Frame
frame_at m registers = record { place = m.place; registers = registers; result = m.result; restores = m.restores }

-- the frames of marks, the newest first, over the registers of all of them
abbrev pub callers_in : List Mark → List (Option ℕ) → List Frame
callers_in [] registers = []
callers_in (m ∷ marks) registers = frame_at m (drop m.base registers) ∷ callers_in marks (take m.base registers)

-- the registers of each frame begin where those of the one below it end, or before, and those of the first frame at 0
abbrev pub AreNested : List Mark → ℕ → Type 0
AreNested [] end = end ≡ 0
AreNested (m ∷ marks) end = (m.base ≤ end) × AreNested marks m.base
