-- Items with keys.
--     HasEqualKeys  equal items have equal keys
--     IsOrderOf     the keys with their numbers, in order of key and among equal keys of number
--     IsRunOf       the part of such an order that has one key
--     HoldsNumbers  a list of numbered keys has the number of each item that passes a test
use Rattle.std.specs.Prelude.{◌≡◌, ℕ, ◌<◌, ◌≤◌, Bool, true, List, length, slice_index, slice_index_or, All, Contains}
use Rattle.std.specs.List.Sorted.{IsNonDecreasingBy}

abbrev pub HasEqualKeys : {X : Type 0} → (X → X → Bool) → List ℕ → List X → Type 0
HasEqualKeys {X} same keys xs =
    (i j : ℕ) (d : X) → i < length xs → j < length xs → same (slice_index_or xs i d) (slice_index_or xs j d) ≡ true → slice_index keys i ≡ slice_index keys j

pub record IsOrderOf (keys : List ℕ) (order : List (ℕ × ℕ)) : Type 0 where
  pub within : All (λ e. e.1 < length keys) order
  pub whole : (n : ℕ) → n < length keys → Contains order (slice_index keys n, n)
  pub keys_rise : IsNonDecreasingBy (λ e. e.0) order
  pub numbers_rise : (i j : ℕ) (d : ℕ × ℕ) → i ≤ j → j < length order → (slice_index_or order i d).0 ≡ (slice_index_or order j d).0
      → (slice_index_or order i d).1 ≤ (slice_index_or order j d).1

pub record IsRunOf (keys : List ℕ) (key : ℕ) (run : List (ℕ × ℕ)) : Type 0 where
  pub within : All (λ e. e.1 < length keys) run
  pub whole : (n : ℕ) → n < length keys → slice_index keys n ≡ key → Contains run (key, n)
  pub numbers_rise : IsNonDecreasingBy (λ e. e.1) run

pub record HoldsNumbers {X : Type 0} (passes : X → Bool) (run : List (ℕ × ℕ)) (xs : List X) : Type 0 where
  pub rise : IsNonDecreasingBy (λ e. e.1) run
  pub holds : (n : ℕ) (d : X) → n < length xs → passes (slice_index_or xs n d) ≡ true → (k : ℕ) × Contains run (k, n)
