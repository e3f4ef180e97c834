-- Mutants of two replacements on the worked example, computed from the definitions.
use Rattle.std.proofs.Common.{◌≡◌, ℕ, List, [], ◌∷◌, Some, refl}
use Rattle.am_base.specs.declared.word.Width.TheVariants.{W32}
use Rattle.am_base.specs.declared.word.BinOp.TheVariants.{Sub, Mul}
use Rattle.am_base.specs.declared.word.Pred.{Pred}
use Rattle.am_base.specs.declared.word.Pred.TheVariants.{Sge, Slt}
use Rattle.am_base.specs.declared.outcome.Ending.TheVariants.{Return}
use Rattle.am_base.specs.declared.outcome.Outcome.{Outcome}
use Rattle.code_form.specs.declared.instr.Operand.TheVariants.{Reg, Word}
use Rattle.code_form.specs.declared.instr.Instr.{Instr}
use Rattle.code_form.specs.declared.instr.Instr.TheVariants.{Cmp}
use Rattle.code_form.specs.Variant.{Table}
use Rattle.traces.specs.Trace.{Trial, changes_from}
use Rattle.traces.specs.Together.{together, class_of}
use Rattle.traces.specs.Work.{steps, tries, alone, executions, splits}
use Rattle.machine_form.specs.declared.change.Change.{Change}
use Rattle.machine_form.specs.State.{State}
use Rattle.machine_form.specs.Machine.{case_trial, outcome_of}
use Rattle.lane_eval.specs.Ports.{no_answers}
use Rattle.worked_example.specs.Example.{first_instr, example}
use Rattle.worked_example.specs.Codes.{case_of}

-- the comparison of the sum with a number
compare : Pred → ℕ → Instr
compare p n = Cmp p W32 (Reg 2) (Word n)

-- mutant 1 subtracts and asks for 10 or more, mutant 2 multiplies and asks for 4 or more
both : Table
both = record {
  chosen = [] ∷ ((0, 1) ∷ (1, 1) ∷ []) ∷ ((0, 2) ∷ (1, 2) ∷ []) ∷ [];
  mentioned = (first_instr Sub ∷ first_instr Mul ∷ []) ∷ (compare Sge 10 ∷ compare Sge 4 ∷ []) ∷ [];
}

-- mutant 1 subtracts, mutant 2 asks for less than 10, and mutant 3 does both
hidden : Table
hidden = record {
  chosen = [] ∷ ((0, 1) ∷ []) ∷ ((1, 1) ∷ []) ∷ ((0, 1) ∷ (1, 1) ∷ []) ∷ [];
  mentioned = (first_instr Sub ∷ []) ∷ (compare Slt 10 ∷ []) ∷ [];
}

module _ (memory : List ℕ) where
  abbrev run : Table → ℕ → Trial State Change
  run table a = case_trial (example memory) table no_answers (case_of 0 (a ∷ a ∷ []) [] 9)

  abbrev returns : ℕ → Outcome
  returns word = record { ending = Return (Some word); output = [] }

  -- on 2 and 2
  work_of_both : (steps (run both 2) ≡ 11) × (tries (run both 2) ≡ 12) × (executions (run both 2) ≡ 3) × (alone (run both 2) ≡ 12)
  unfolding changes_from together both compare
  work_of_both = (refl, refl, refl, refl)

  branch_points_of_both : splits (run both 2) ≡ (0, 0 ∷ 1 ∷ []) ∷ (1, 0 ∷ 2 ∷ []) ∷ []
  unfolding changes_from together class_of both compare
  branch_points_of_both = refl

  -- on 8 and 8 each replacement is noticed alone, and both together are not
  outcomes_of_hidden : (outcome_of (run hidden 8) 0 ≡ returns 1) × (outcome_of (run hidden 8) 1 ≡ returns 0) × (outcome_of (run hidden 8) 2 ≡ returns 0)
      × (outcome_of (run hidden 8) 3 ≡ returns 1)
  unfolding changes_from hidden compare
  outcomes_of_hidden = (refl, refl, refl, refl)

  work_of_hidden : (steps (run hidden 8) ≡ 14) × (tries (run hidden 8) ≡ 14) × (executions (run hidden 8) ≡ 4) × (alone (run hidden 8) ≡ 16)
  unfolding changes_from together hidden compare
  work_of_hidden = (refl, refl, refl, refl)

  branch_points_of_hidden : splits (run hidden 8) ≡ (0, 0 ∷ 1 ∷ []) ∷ (1, 0 ∷ 2 ∷ []) ∷ (1, 1 ∷ 3 ∷ []) ∷ []
  unfolding changes_from together class_of hidden compare
  branch_points_of_hidden = refl
