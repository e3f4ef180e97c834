-- Numbers in the lines of a text.
use Rattle.std.specs.Prelude.{ℕ, List, [], ◌∷◌, ◌++◌, decimal, flat_map}

-- numbers separated by one blank
abbrev pub spaced : List ℕ → List ℕ
spaced [] = []
spaced (n ∷ ns) = decimal n ++ flat_map (λ k. 32 ∷ decimal k) ns
