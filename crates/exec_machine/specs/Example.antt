-- Five mutants of the toy machine with the gains 1, 8, 2, within a budget.
--     five_mutants budget    mutant 1 has variant 1 at place 0, mutant 2 at place 1, mutants 3 and 4 at place 2; all else is variant 0
--     execution n ms s       an execution at step n with the members ms in the state s
use Rattle.std.specs.Prelude.{ℕ, List, ◌∷◌, [], ◌==◌, ◌&&◌, ◌||◌, if◌then◌else◌}
use Rattle.traces.specs.Trace.{Trial}
use Rattle.traces.specs.Configuration.{Execution}
use Rattle.exec_machine.specs.Toy.{toy_meanings}

abbrev example_variant : ℕ → ℕ → ℕ
example_variant m place = if (m == 1 && place == 0) || ((m == 2 && place == 1) || ((m == 3 || m == 4) && place == 2)) then 1 else 0

abbrev pub five_mutants : ℕ → Trial (ℕ × ℕ) ℕ
five_mutants budget = record { meanings = toy_meanings (1 ∷ 8 ∷ 2 ∷ []); variant = example_variant; start = (0, 0); budget = budget; mutants = 5 }

abbrev pub execution : ℕ → List ℕ → ℕ × ℕ → Execution (ℕ × ℕ)
execution n ms s = record { step = n; members = ms; state = s }
