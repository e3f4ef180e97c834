-- The changes of branches, with the `phi` that are read on the edge to the next block.
use Rattle.std.specs.Prelude.{ℕ, false, ◌==◌, if◌then◌else◌, List, [], ◌∷◌, Option, Some, None, unwrap_or}
use Rattle.code_form.specs.declared.instr.Operand.{Operand}
use Rattle.code_form.specs.declared.instr.Instr.{Instr}
use Rattle.code_form.specs.declared.instr.Instr.TheVariants.{Phi}
use Rattle.code_form.specs.declared.code.Code.{Code}
use Rattle.code_form.specs.Places.{block_in, block_of, function_of, instrs_of, results_of}
use Rattle.machine_form.specs.declared.change.Change.{Change}
use Rattle.machine_form.specs.declared.change.Control.TheVariants.{Jump}
use Rattle.machine_form.specs.State.{State}
use Rattle.machine_form.specs.Straight.{joined, value_of, with_value}

-- the operand of a `phi` for the predecessor `from`
abbrev pub entry_of : List (ℕ × Operand) → ℕ → Option Operand
entry_of [] from = None
entry_of (e ∷ rest) from = if (e.0 == from) then Some e.1 else entry_of rest from

abbrev pub value_of_entry : State → Option Operand → Option ℕ
value_of_entry s None = None
value_of_entry s (Some a) = value_of s a

abbrev pub numbered_by : ℕ → Option ℕ → Option (ℕ × ℕ)
numbered_by r None = None
numbered_by r (Some word) = Some (r, word)

-- the writes of the `phi` that a block begins with, all read in the state before the edge. None where one of the operands isn't set
abbrev pub phi_writes : State → ℕ → List Instr → List (Option ℕ) → Option (List (ℕ × ℕ))
phi_writes s from (Phi entries ∷ more) (Some r ∷ results) =
    joined (numbered_by r (value_of_entry s (entry_of entries from))) (phi_writes s from more results)
phi_writes s from _ _ = Some []

-- the block of the running frame, an index from 0
abbrev pub block_now : Code → State → ℕ
block_now code s = unwrap_or (block_in (function_of code s.running.place).blocks s.running.place) 0

-- a branch to a block of the function
abbrev pub jump_change : Code → State → ℕ → Change
jump_change code s b =
    let target = block_of code s.running.place b in
    with_value s (phi_writes s (block_now code s) (instrs_of code target) (results_of code target))
    (λ ws. record { writes = ws; bytes = []; top = s.top; put = None; took = false; control = Jump b })

-- the block of the first case equal to the word, or the default block
abbrev pub case_of : List (ℕ × ℕ) → ℕ → ℕ → ℕ
case_of [] word other = other
case_of (c ∷ rest) word other = if (c.0 == word) then c.1 else case_of rest word other
