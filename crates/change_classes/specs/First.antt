-- The classes of a list by a test of equality.
--     first_equal same xs    for each item the number, from 0, of the first item that is equal to it
use Rattle.std.specs.Prelude.{ℕ, Bool, List, map}
use Rattle.std.specs.List.{position_or_len}

abbrev pub first_equal : {X : Type 0} → (X → X → Bool) → List X → List ℕ
first_equal same xs = map (λ x. position_or_len (λ y. same y x) xs) xs
