-- The verdict on what a mutant's run showed, against what a test expects.
use Rattle.std.specs.Prelude.{◌≡◌, ◌≢◌, ℕ, Bool, true, false}
use Rattle.am_base.specs.declared.outcome.Ending.{Ending}
use Rattle.am_base.specs.declared.outcome.Ending.TheVariants.{Return as Returned, Exit, Trap as Trapped, Budget as UsedUp}
use Rattle.am_base.specs.declared.outcome.Outcome.{Outcome}
use Rattle.kill_matrix.specs.declared.letter.Letter.{Letter}
use Rattle.kill_matrix.specs.declared.letter.Letter.TheVariants.{Same, Budget, Trap, Return, Output}

-- the run ended by its budget or by a trap
abbrev pub IsBudgetOrTrap : Ending → Type 0
IsBudgetOrTrap UsedUp = Unit {0}
IsBudgetOrTrap (Trapped trap) = Unit {0}
IsBudgetOrTrap (Returned word) = ⊥
IsBudgetOrTrap (Exit word) = ⊥

abbrev pub IsTrapped : Ending → Type 0
IsTrapped (Trapped trap) = Unit {0}
IsTrapped UsedUp = ⊥
IsTrapped (Returned word) = ⊥
IsTrapped (Exit word) = ⊥

-- the letter is the first of these that holds: equal outcomes; the budget; a trap; another ending; another output
abbrev pub IsVerdict : Outcome → Outcome → Letter → Type 0
IsVerdict got expected Same = got ≡ expected
IsVerdict got expected Budget = (got ≢ expected) × (got.ending ≡ UsedUp)
IsVerdict got expected Trap = (got ≢ expected) × IsTrapped got.ending
IsVerdict got expected Return = (¬ (IsBudgetOrTrap got.ending)) × (got.ending ≢ expected.ending)
IsVerdict got expected Output = (¬ (IsBudgetOrTrap got.ending)) × (got.ending ≡ expected.ending) × (got.output ≢ expected.output)

abbrev pub byte_of : Letter → ℕ
byte_of Same = 46
byte_of Budget = 66
byte_of Trap = 84
byte_of Return = 82
byte_of Output = 79

-- every letter but the first says that the test kills the mutant
abbrev pub kills : Letter → Bool
kills Same = false
kills Budget = true
kills Trap = true
kills Return = true
kills Output = true
