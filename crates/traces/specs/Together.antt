-- Which mutants have made the same changes so far.
--     below n            the numbers 0, 1, .., n - 1
--     together m k n     both traces have at least n changes, and their first n changes are equal
--     class_of m n       the class of m at n: the mutants that are together with m there, rising
--     AreTogether        what together means
--     IsNonemptyPrefix   the list isn't empty, and begins the trace of some mutant
--     CountsPrefixes     n is the number of the different nonempty prefixes of the traces
use Rattle.std.specs.Prelude.{◌≡◌, ◌≢◌, ◌↔◌, ℕ, zero, suc, ◌≤◌, ◌<◌, Bool, ◌&&◌, nat_le, List, [], ◌∷◌, ◌++◌, length, take}
use Rattle.std.specs.List.{filter, AllPairs, Contains}
use Rattle.std.specs.Cmp.Lexicographic.{pointwise}
use Rattle.traces.specs.Trace.{Trial, trace}

abbrev pub below : ℕ → List ℕ
below zero = []
below (suc n) = below n ++ n ∷ []

module _ {S C : Type 0} (T : Trial S C) where
  unfoldable pub together : ℕ → ℕ → ℕ → Bool
  together m k n =
      nat_le n (length (trace T m)) && (nat_le n (length (trace T k)) && pointwise T.meanings.same (take n (trace T m)) (take n (trace T k)))

  unfoldable pub class_of : ℕ → ℕ → List ℕ
  class_of m n = filter (λ k. together m k n) (below T.mutants)

  pub record AreTogether (m k n : ℕ) : Type 0 where
    pub reached : n ≤ length (trace T m)
    pub other_reached : n ≤ length (trace T k)
    pub equal : take n (trace T m) ≡ take n (trace T k)

  pub record IsNonemptyPrefix (cs : List C) : Type 0 where
    pub mutant : ℕ
    pub is_mutant : mutant < T.mutants
    pub some : 0 < length cs
    pub reached : length cs ≤ length (trace T mutant)
    pub is : cs ≡ take (length cs) (trace T mutant)

  -- n is the number of the different prefixes that the traces have, but for the empty one
  pub record CountsPrefixes (n : ℕ) : Type 0 where
    pub prefixes : List (List C)
    pub different : AllPairs (λ cs ds. cs ≢ ds) prefixes
    pub exactly : (cs : List C) → Contains prefixes cs ↔ IsNonemptyPrefix cs
    pub count : length prefixes ≡ n
