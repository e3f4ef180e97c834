-- The definitions, computed on the example: its outcomes and lengths as they come out by hand.
use Rattle.std.proofs.Common.{◌≡◌, ℕ, List, [], ◌∷◌, length, Some, refl}
use Rattle.am_base.specs.declared.word.BinOp.TheVariants.{Sub}
use Rattle.am_base.specs.declared.outcome.Ending.TheVariants.{Return, Budget}
use Rattle.am_base.specs.declared.outcome.Outcome.{Outcome}
use Rattle.code_form.specs.Variant.{Table}
use Rattle.traces.specs.Trace.{Trial, trace, changes_from}
use Rattle.machine_form.specs.declared.change.Change.{Change}
use Rattle.machine_form.specs.State.{State}
use Rattle.machine_form.specs.Machine.{case_trial, outcome_of}
use Rattle.lane_eval.specs.Ports.{no_answers}
use Rattle.worked_example.specs.Example.{first_instr, example}
use Rattle.worked_example.specs.Codes.{case_of}

-- mutant 1 has `sub` in the place of `add`
table : Table
table = record { chosen = [] ∷ ((0, 1) ∷ []) ∷ []; mentioned = (first_instr Sub ∷ []) ∷ [] }

module _ (memory : List ℕ) where
  abbrev run : ℕ → ℕ → ℕ → Trial State Change
  run a b budget = case_trial (example memory) table no_answers (case_of 0 (a ∷ b ∷ []) [] budget)

  abbrev returns : ℕ → Outcome
  returns word = record { ending = Return (Some word); output = [] }

  -- 2 + 2 isn't above 10, and neither is 2 - 2
  two_and_two : (outcome_of (run 2 2 9) 0 ≡ returns 0) × (length (trace (run 2 2 9) 0) ≡ 4) × (outcome_of (run 2 2 9) 1 ≡ returns 0)
      × (length (trace (run 2 2 9) 1) ≡ 4)
  unfolding changes_from table
  two_and_two = (refl, refl, refl, refl)

  -- 6 + 5 is above 10, and 6 - 5 isn't
  six_and_five : (outcome_of (run 6 5 9) 0 ≡ returns 1) × (outcome_of (run 6 5 9) 1 ≡ returns 0)
  unfolding changes_from table
  six_and_five = (refl, refl)

  -- with a budget of 3 the run is cut off; 4 are just enough
  three_steps : (outcome_of (run 2 2 3) 0 ≡ record { ending = Budget; output = [] }) × (length (trace (run 2 2 3) 0) ≡ 3)
  unfolding changes_from table
  three_steps = (refl, refl)

  four_steps : (outcome_of (run 2 2 4) 0 ≡ returns 0) × (length (trace (run 2 2 4) 0) ≡ 4)
  unfolding changes_from table
  four_steps = (refl, refl)
