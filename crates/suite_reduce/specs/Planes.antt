-- Which tests kill a mutant, as words of 64 tests each.
--     IsWord grid m first word     bit i of the word, for i below 64, says whether the test first + i kills mutant m
--     IsPlane grid block words     the words of all mutants for the 64 tests from 64·block on
--     AreWords grid planes         the planes of all tests, in order
--     words_within planes a b      each bit of a mutant's words is set in those of another
--     words_kill planes a          some bit of a mutant's words is set
use Rattle.std.specs.Prelude.{◌≡◌, ◌==◌, ℕ, ◌+◌, ◌*◌, ◌^◌, ◌<◌, ◌≤◌, Bool, false, not, List, length, if◌then◌else◌, slice_index, slice_index_or, []}
use Rattle.std.specs.List.{list_all, list_any}
use Rattle.std.specs.Int.Bits.{bit_and}
use Rattle.std.specs.Int.{bit_at}
use Rattle.kill_matrix.specs.Score.{Letters}
use Rattle.suite_reduce.specs.Kills.{is_killed_by}

module _ (grid : Letters) where
  pub record IsWord (m first word : ℕ) : Type 0 where
    pub fits : word < 2 ^ 64
    pub bits : (i : ℕ) → i < 64 → bit_at word i ≡ (if is_killed_by grid m (first + i) then 1 else 0)

  pub record IsPlane (block : ℕ) (words : List ℕ) : Type 0 where
    pub count : length words ≡ grid.mutants
    pub each : (m : ℕ) → m < grid.mutants → IsWord m (64 * block) (slice_index words m)

  pub record AreWords (planes : List (List ℕ)) : Type 0 where
    pub enough : length grid.tests ≤ 64 * length planes
    pub no_more : (m t : ℕ) → grid.mutants ≤ m → is_killed_by grid m t ≡ false
    pub each : (block : ℕ) → block < length planes → IsPlane block (slice_index_or planes block [])

module _ (planes : List (List ℕ)) where
  unfoldable pub words_within : ℕ → ℕ → Bool
  words_within a b = list_all (λ plane. bit_and (slice_index plane a) (slice_index plane b) == slice_index plane a) planes

  unfoldable pub words_kill : ℕ → Bool
  words_kill a = list_any (λ plane. not (slice_index plane a == 0)) planes
