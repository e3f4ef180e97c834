-- Where there are no ports, none are left, and none is asked.
use Rattle.std.proofs.Common.{arith, ◌≡◌, ℕ, List, [], ◌∷◌, Result, OnOk, map, refl}
use Rattle.ports.specs.Asks.{AskedBy}

pub none_asked : {X S T A E : Type 0} (sign : X → S) (asked : X → ℕ) (answers : X → T) (old new : List X) (result : Result A E) (tolls : List T → ℕ → ℕ)
    → old ≡ [] → map sign new ≡ map sign old → OnOk result (AskedBy (map asked old) (map asked new) (tolls (map answers old))) → OnOk result (AskedBy [] [] (tolls []))
none_asked sign asked answers [] [] result tolls none signs h = h
none_asked sign asked answers [] (x ∷ xs) result tolls none signs h = grind (arith, signs)
none_asked sign asked answers (y ∷ ys) new result tolls none signs h = grind (arith, none)

pub none_answers : {X T : Type 0} (answers : X → T) (old : List X) → old ≡ [] → map answers old ≡ []
none_answers answers [] none = refl
none_answers answers (y ∷ ys) none = grind (arith, none)
