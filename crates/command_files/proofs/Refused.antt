-- Refusals from the lines that were made for them.
use Rattle.std.proofs.Common.{◌≡◌, ℕ, List, Option, Some, None, Result, Ok, Err, IfOk, refl, sym, inl, inr, ◌⊎◌}
use Rattle.am_base.specs.declared.outcome.OutOfMemory.{OutOfMemory}
use Rattle.command_plan.specs.declared.status.Input.{Input}
use Rattle.command_plan.specs.Answer.{Says, refusal}

-- a line that was made refuses
pub says_line : {E : Type 0} (input : Input) (Refuses Is : List ℕ → Type 0) (line : Result (List ℕ) E) → ((l : List ℕ) → Is l → Refuses l)
    → IfOk line Is → Says input Refuses (refusal input line)
says_line input Refuses Is (Ok line) to h = (refl, to line h)
says_line input Refuses Is (Err e) to h = tt
