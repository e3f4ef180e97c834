-- How often the run of one mutant asks a port.
use Rattle.std.specs.Prelude.{ℕ, ◌+◌, List, [], ◌∷◌}
use Rattle.traces.specs.Trace.{Trial, trace}

module _ {S C : Type 0} (T : Trial S C) where
  -- while a mutant makes these changes, one after another from a state on: the sum of the tolls of its variants, each in the state before the change
  abbrev pub tolls_from : ℕ → ℕ → S → List C → ℕ
  tolls_from m p s [] = 0
  tolls_from m p s (c ∷ cs) = T.meanings.toll p (T.variant m (T.meanings.place s)) s + tolls_from m p (T.meanings.after s c) cs

  -- in the mutant's whole run
  abbrev pub tolls_of : ℕ → ℕ → ℕ
  tolls_of m p = tolls_from m p T.start (trace T m)
