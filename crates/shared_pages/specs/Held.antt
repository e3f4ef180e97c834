-- Memories that are held at once.
use Rattle.std.specs.Prelude.{ℕ, ◌<◌, ◌≡◌, ◌≢◌, List, length, slice_index}
use Rattle.shared_pages.specs.Store.{IsIn, Store}

-- memory m and the memories of a list are in a store, and no two of them are the same
pub record AreHeld (s : Store) (m : ℕ) (ids : List ℕ) : Type 0 where
  pub known : IsIn s m
  pub each : (k : ℕ) → k < length ids → IsIn s (slice_index ids k)
  pub other : (k : ℕ) → k < length ids → slice_index ids k ≢ m
  pub apart : (j k : ℕ) → j < length ids → k < length ids → slice_index ids j ≡ slice_index ids k → j ≡ k
