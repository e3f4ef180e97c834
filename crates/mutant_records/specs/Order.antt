-- The order in which the replacements of an accepted list stand: by their mutants, each with one to four at different places.
use Rattle.std.specs.Prelude.{◌≡◌, ℕ, ◌+◌, ◌<◌, ◌≤◌, false, List, [], ◌∷◌, ◌++◌, length}
use Rattle.am_base.specs.declared.limits.TheConstants.{MAX_LISTED_MUTANTS, MAX_REPLACEMENTS}
use Rattle.code_form.specs.Variant.{has_place}
use Rattle.mutant_records.specs.Lists.{last_mutant, places_of}
use Rattle.mutant_records.specs.declared.list.Made.{Made}

-- a replacement may stand behind these: it is of the last mutant or a later one, which has fewer than four among these, and none at its place
pub record Follows (all : List Made) (made : Made) : Type 0 where
  pub some : 1 ≤ made.mutant
  pub later : last_mutant all ≤ made.mutant
  pub next : made.mutant ≤ length all + 1
  pub within : made.mutant ≤ MAX_LISTED_MUTANTS
  pub few : length (places_of all made.mutant) < MAX_REPLACEMENTS
  pub free : has_place (places_of all made.mutant) made.place.0 ≡ false

-- these may stand one after the other behind the first ones
abbrev pub AreInOrder : List Made → List Made → Type 0
AreInOrder before [] = Unit {0}
AreInOrder before (made ∷ more) = Follows before made × AreInOrder (before ++ made ∷ []) more
