-- What a run comes to where no execution is live.
--     HasTraceOf m k    mutant k has the same whole trace as mutant m
--     IsEnd e           the members are the mutants with the whole trace of any one of them, rising, and the step and the state are those at
--                       the end of it
use Rattle.std.specs.Prelude.{◌≡◌, ◌↔◌, ℕ, ◌<◌, length}
use Rattle.std.specs.List.{Contains}
use Rattle.std.specs.List.Sorted.{IsStrictlyIncreasing}
use Rattle.traces.specs.Trace.{Trial, trace, state_at}
use Rattle.traces.specs.Configuration.{Execution}

module _ {S C : Type 0} (T : Trial S C) where
  pub record HasTraceOf (m k : ℕ) : Type 0 where
    pub is_mutant : k < T.mutants
    pub equal : trace T k ≡ trace T m

  pub record IsEnd (e : Execution S) : Type 0 where
    pub some : 0 < length e.members
    pub rising : IsStrictlyIncreasing e.members
    pub members : (m k : ℕ) → Contains e.members m → Contains e.members k ↔ HasTraceOf m k
    pub step : (m : ℕ) → Contains e.members m → e.step ≡ length (trace T m)
    pub state : (m : ℕ) → Contains e.members m → e.state ≡ state_at T m (length (trace T m))
