-- The numbers that are taken.
--     taken marks    the number of each mark that is set, rising
use Rattle.std.specs.Prelude.{ℕ, ◌+◌, List, [], ◌∷◌, Bool, true, false}

-- the numbers of the marks of a list whose first one has the number k
abbrev pub taken_from : ℕ → List Bool → List ℕ
taken_from k [] = []
taken_from k (false ∷ ms) = taken_from (k + 1) ms
taken_from k (true ∷ ms) = k ∷ taken_from (k + 1) ms

abbrev pub taken : List Bool → List ℕ
taken ms = taken_from 0 ms
