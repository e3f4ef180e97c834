-- The least change of mutant 0 at a place at which a mutant has a variant other than 0.
--     IsLeast variant visits places m reach    the number, from 1, of the least of the first changes at those of the places 0, 1, .., places - 1 at which
--                                              mutant m has a variant other than 0; none where none of these places has one
--     AreLeast                                  this for each mutant
use Rattle.std.specs.Prelude.{◌≡◌, ℕ, ◌+◌, ◌<◌, ◌≤◌, List, length, Option, None, Some, slice_index_or}

module _ (variant : ℕ → ℕ → ℕ) (visits : List (Option ℕ)) where
  pub record FirstTry (places m reach : ℕ) : Type 0 where
    pub place : ℕ
    pub number : ℕ
    pub within : place < places
    pub tried : 0 < variant m place
    pub visit : slice_index_or visits place None ≡ Some number
    pub is : reach ≡ number + 1
    pub least : (at n : ℕ) → at < places → 0 < variant m at → slice_index_or visits at None ≡ Some n → number ≤ n

  abbrev pub IsLeast : ℕ → ℕ → Option ℕ → Type 0
  IsLeast places m None = (at : ℕ) → at < places → 0 < variant m at → slice_index_or visits at None ≡ None
  IsLeast places m (Some reach) = FirstTry places m reach

  pub record AreLeast (mutants places : ℕ) (table : List (Option ℕ)) : Type 0 where
    pub count : length table ≡ mutants
    pub each : (m : ℕ) → m < mutants → IsLeast places m (slice_index_or table m None)
