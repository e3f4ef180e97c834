-- One more of the parts of a text.
use Rattle.std.proofs.Common.{◌≡◌, ◌<◌, ℕ, ◌+◌, ◌++◌, ◌∷◌, List, flat_map, take, length, get_or, arith}
use Rattle.std.specs.Prelude.{decimal}
use Rattle.std.proofs.lemmas.List.{take_more}
use Rattle.std.proofs.lemmas.Grind.{flat_map-append, common_steps}

pub flat_more : {A : Type 0} (f : A → List ℕ) (xs : List A) (i : ℕ) (x : A) → i < length xs → x ≡ get_or xs i x
    → flat_map f (take (i + 1) xs) ≡ flat_map f (take i xs) ++ f x
flat_more f xs i x h e = rw (take_more xs i x h, ← e, flat_map-append) (grind (arith, common_steps))

pub blanks_more : (ns : List ℕ) (i : ℕ) → i < length ns → flat_map (λ k. 32 ∷ decimal k) (take (i + 1) ns) ≡ flat_map (λ k. 32 ∷ decimal k) (take i ns) ++ 32
    ∷ decimal (get_or ns i 0)
blanks_more ns i h = rw (take_more ns i 0 h, flat_map-append) (grind (arith, common_steps))
