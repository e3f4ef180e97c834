-- What the replacements of an accepted list are: each mutant has some, no more than it may have, each at another place.
use Rattle.std.specs.Prelude.{◌≡◌, ℕ, ◌≤◌, ◌<◌, List, [], length, Some, slice_get}
use Rattle.am_base.specs.declared.limits.TheConstants.{MAX_LISTED_MUTANTS, MAX_REPLACEMENTS}
use Rattle.mutant_records.specs.Lists.{last_mutant, places_of}
use Rattle.mutant_records.specs.declared.list.Made.{Made}

-- no place stands twice
abbrev pub AreApart : List ℕ → Type 0
AreApart places = (j k at : ℕ) → slice_get places j ≡ Some at → slice_get places k ≡ Some at → j ≡ k

-- the mutants are numbered from 1 to the last, and each has one to four replacements at different places
pub record HaveMutants (all : List Made) : Type 0 where
  pub within : last_mutant all ≤ MAX_LISTED_MUTANTS
  pub unchanged : places_of all 0 ≡ []
  pub no_other : (m : ℕ) → last_mutant all < m → places_of all m ≡ []
  pub some : (m : ℕ) → 1 ≤ m → m ≤ last_mutant all → 1 ≤ length (places_of all m)
  pub few : (m : ℕ) → length (places_of all m) ≤ MAX_REPLACEMENTS
  pub apart : (m : ℕ) → AreApart (places_of all m)
