-- What a matrix holds, and its score.
use Rattle.std.specs.Prelude.{ℕ, ◌-◌, Bool, List, [], count_by, slice_get, unwrap_or}
use Rattle.std.specs.List.{list_any, range_with_len}
use Rattle.kill_matrix.specs.declared.letter.Letter.{Letter}
use Rattle.kill_matrix.specs.declared.letter.Letter.TheVariants.{Same}
use Rattle.kill_matrix.specs.Verdict.{kills}

-- how many mutants there are, the original included, and for each test the letter of each
pub record Letters : Type 0 where
  pub mutants : ℕ
  pub tests : List (List Letter)

abbrev pub letter_of : Letters → ℕ → ℕ → Letter
letter_of grid m t = unwrap_or (slice_get (unwrap_or (slice_get grid.tests t) []) m) Same

-- some test kills the mutant
abbrev pub is_killed : Letters → ℕ → Bool
is_killed grid m = list_any (λ row. kills (unwrap_or (slice_get row m) Same)) grid.tests

-- how many mutants are killed, the original not counted
abbrev pub killed_of : Letters → ℕ
killed_of grid = count_by (is_killed grid) (range_with_len 1 (grid.mutants - 1))
