-- Numbers in a page.
use Rattle.std.specs.Prelude.{ℕ, ◌%◌, ◌==◌, nat_lt, ◌&&◌, if◌then◌else◌, List, [], ◌∷◌, ◌++◌, length, decimal}

-- a digit, and a comma where a multiple of three digits stands behind it
abbrev pub digit_text : ℕ → ℕ → List ℕ
digit_text d behind = if (nat_lt 0 behind && behind % 3 == 0) then d ∷ 44 ∷ [] else d ∷ []

abbrev pub grouped : List ℕ → List ℕ
grouped [] = []
grouped (d ∷ ds) = digit_text d (length ds) ++ grouped ds

-- in decimal with a comma between each three digits, as 1,234,567
abbrev pub thousands : ℕ → List ℕ
thousands n = grouped (decimal n)
