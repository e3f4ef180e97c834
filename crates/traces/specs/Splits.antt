-- What the splits of a trial are.
--     LeadsPart m n k    k is in the class of m at n, and no lower mutant of it makes the change number n that k makes
--     IsSplit s          at the number s.0 the class of a mutant goes on, and s.1 is the rising list of those who lead its parts, two or more
--     IsEarlier s t      s stands at a lower number than t, or at the same one and with a lower first mutant
use Rattle.std.specs.Prelude.{◌≡◌, ◌≢◌, ◌↔◌, ℕ, ◌<◌, ◌≤◌, List, length, slice_get, slice_index}
use Rattle.std.specs.List.{Contains}
use Rattle.std.specs.List.Sorted.{IsStrictlyIncreasing}
use Rattle.traces.specs.Trace.{Trial, trace}
use Rattle.traces.specs.Together.{class_of}

module _ {S C : Type 0} (T : Trial S C) where
  pub record LeadsPart (m n k : ℕ) : Type 0 where
    pub member : Contains (class_of T m n) k
    pub new : (j : ℕ) → j < k → Contains (class_of T m n) j → slice_get (trace T j) n ≢ slice_get (trace T k) n

  pub record IsSplit (split : ℕ × List ℕ) : Type 0 where
    pub mutant : ℕ
    pub is_mutant : mutant < T.mutants
    pub goes_on : split.0 < length (trace T mutant)
    pub leaders : (k : ℕ) → Contains split.1 k ↔ LeadsPart mutant split.0 k
    pub rising : IsStrictlyIncreasing split.1
    pub divided : 2 ≤ length split.1

pub record IsEarlier (s t : ℕ × List ℕ) : Type 0 where
  pub number : s.0 ≤ t.0
  pub mutant : s.0 ≡ t.0 → slice_index s.1 0 < slice_index t.1 0
