-- Sets of numbers as lists in which each stands once, in the order in which they were first seen.
use Rattle.std.specs.Prelude.{ℕ, Bool, false, List, [], ◌∷◌, ◌++◌, fold, Option, Some, None, if◌then◌else◌}
use Rattle.ir_rules.specs.Blocks.{has}

abbrev pub with_number : List ℕ → ℕ → List ℕ
with_number ns n = if has ns n then ns else ns ++ n ∷ []

abbrev pub set_of : List ℕ → List ℕ
set_of ns = fold with_number [] ns

-- a word that may be missing
abbrev pub has_word : List ℕ → Option ℕ → Bool
has_word ns None = false
has_word ns (Some n) = has ns n

abbrev pub with_word : List ℕ → Option ℕ → List ℕ
with_word ns None = ns
with_word ns (Some n) = with_number ns n
