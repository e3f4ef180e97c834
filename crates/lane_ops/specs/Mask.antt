-- Which words are equal to one word, as the bits of a mask.
use Rattle.std.specs.Prelude.{ℕ, List, map, nat_eq}
use Rattle.std.specs.Simd.Lanes.{mask_l}

-- the number whose bit i is set exactly where word i of the list is x
abbrev pub mask_of : ℕ → List ℕ → ℕ
mask_of x ys = mask_l (map (λ y. nat_eq y x) ys)
