-- The text of the groups of mutants at a step: `group,MEMBERS` for each class whose traces have at least so many changes, and `short,MEMBERS` for the
-- mutants whose traces have fewer.
use Rattle.std.specs.Prelude.{◌≡◌, ℕ, nat_lt, if◌then◌else◌, List, [], ◌∷◌, ◌++◌, codes, flat_map}
use Rattle.std.specs.List.Sorted.{IsNonDecreasing, IsPermutation}
use Rattle.flat_analysis.specs.declared.ended.Ended.{Ended}
use Rattle.line_parts.specs.Parts.{spaced}

-- the line of a class
abbrev pub group_of : ℕ → Ended → List ℕ
group_of step class = if nat_lt class.length step then [] else (codes "group," ++ spaced class.members ++ 10 ∷ [])

-- the members of a class with shorter traces
abbrev pub short_of : ℕ → Ended → List ℕ
short_of step class = if nat_lt class.length step then class.members else []

-- the text, with the mutants whose traces are shorter, in rising order
pub record IsGroupsText (step : ℕ) (classes : List Ended) (text : List ℕ) : Type 0 where
  pub short : List ℕ
  pub same : IsPermutation (flat_map (short_of step) classes) short
  pub rising : IsNonDecreasing short
  pub lines : text ≡ flat_map (group_of step) classes ++ codes "short," ++ spaced short ++ 10 ∷ []
