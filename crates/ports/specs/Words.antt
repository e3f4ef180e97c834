-- The arguments of a port.
use Rattle.std.specs.Prelude.{ℕ, List, [], ◌∷◌}
use Rattle.am_base.specs.declared.word.Width.{Width}
use Rattle.am_base.specs.Word.{IsWord}

-- one word for each width, in order
abbrev pub AreWords : List Width → List ℕ → Type 0
AreWords [] [] = Unit {0}
AreWords [] (x ∷ xs) = ⊥
AreWords (w ∷ ws) [] = ⊥
AreWords (w ∷ ws) (x ∷ xs) = IsWord w x × AreWords ws xs
