-- Which tests kill which mutants, by the letters of a matrix.
--     is_killed_by grid m t         test t kills mutant m, one from 1 upward, as its letter says: mutant 0 is the original
--     is_killed_by_some grid m ts   one of these tests kills it
--     first_tests n                 the tests before test n
use Rattle.std.specs.Prelude.{ℕ, Bool, ◌&&◌, ◌==◌, nat_lt, not, List}
use Rattle.std.specs.List.{list_any, range_with_len}
use Rattle.kill_matrix.specs.Verdict.{kills}
use Rattle.kill_matrix.specs.Score.{Letters, letter_of}

abbrev pub first_tests : ℕ → List ℕ
first_tests n = range_with_len 0 n

module _ (grid : Letters) (m : ℕ) where
  unfoldable pub is_killed_by : ℕ → Bool
  is_killed_by t = (not (m == 0) && nat_lt m grid.mutants) && kills (letter_of grid m t)

  abbrev pub is_killed_by_some : List ℕ → Bool
  is_killed_by_some tests = list_any is_killed_by tests
