-- A table by number.
--     AreMarked numbers marks    the table has an entry for each of these numbers, and it is the number's index
use Rattle.std.specs.Prelude.{◌≡◌, ℕ, ◌<◌, List, length, slice_index}

pub record AreMarked (numbers marks : List ℕ) : Type 0 where
  pub within : (i : ℕ) → i < length numbers → slice_index numbers i < length marks
  pub mark : (i : ℕ) → i < length numbers → slice_index marks (slice_index numbers i) ≡ i
