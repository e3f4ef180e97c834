-- How far each mutant of a trial gets: reach, infection, killing. Killing is the letter; the others are numbers of changes, from 1.
--     IsReach T m reach       the number of the first change that m makes by a variant other than 0: none where it makes none
--     IsParting T m parting   the number of the first change in which the traces of m and of mutant 0 differ, where both have so many; none where
--                             there is none
--     IsVisit T at visit      the least number, from 0, of a change that mutant 0 makes at this place: none where it makes none there
--     AreReaches, ArePartings, AreVisits   these for each mutant from 0, and for each place
--
-- By hand, for `%c = add %a, %b`, `%d = icmp sgt %c, 10`, `%e = select %d, 1, 0`, `ret %e` on 2 and 2: mutant 1, which subtracts, is reached at change 1,
-- and parts at change 1, since 0 isn't 4; mutant 2, which asks for `sge`, is reached at change 2, and doesn't part; mutant 3, which multiplies, is
-- reached at change 1 and doesn't part, since 4 is 4.
use Rattle.std.specs.Prelude.{◌≡◌, ◌≢◌, ℕ, ◌+◌, ◌<◌, List, length, Option, None, Some, slice_get, slice_index_or}
use Rattle.traces.specs.Trace.{Trial, trace, state_at}
use Rattle.traces.specs.Work.{variant_at}

module _ {S C : Type 0} (T : Trial S C) where
  pub record ReachedAt (m n : ℕ) : Type 0 where
    pub within : n < length (trace T m)
    pub changed : 0 < variant_at T m n
    pub before : (k : ℕ) → k < n → variant_at T m k ≡ 0

  pub record PartsAt (m n : ℕ) : Type 0 where
    pub within : n < length (trace T m)
    pub original_within : n < length (trace T 0)
    pub differ : slice_get (trace T m) n ≢ slice_get (trace T 0) n
    pub before : (k : ℕ) → k < n → slice_get (trace T m) k ≡ slice_get (trace T 0) k

  pub record StandsAt (at n : ℕ) : Type 0 where
    pub within : n < length (trace T 0)
    pub there : T.meanings.place (state_at T 0 n) ≡ at
    pub before : (k : ℕ) → k < n → T.meanings.place (state_at T 0 k) ≢ at

  abbrev pub IsReach : ℕ → Option ℕ → Type 0
  IsReach m None = (n : ℕ) → n < length (trace T m) → variant_at T m n ≡ 0
  IsReach m (Some reach) = (n : ℕ) × (reach ≡ n + 1) × ReachedAt m n

  abbrev pub IsParting : ℕ → Option ℕ → Type 0
  IsParting m None = (n : ℕ) → n < length (trace T m) → n < length (trace T 0) → slice_get (trace T m) n ≡ slice_get (trace T 0) n
  IsParting m (Some parting) = (n : ℕ) × (parting ≡ n + 1) × PartsAt m n

  abbrev pub IsVisit : ℕ → Option ℕ → Type 0
  IsVisit at None = (n : ℕ) → n < length (trace T 0) → T.meanings.place (state_at T 0 n) ≢ at
  IsVisit at (Some n) = StandsAt at n

  pub record AreReaches (list : List (Option ℕ)) : Type 0 where
    pub count : length list ≡ T.mutants
    pub each : (m : ℕ) → m < T.mutants → IsReach m (slice_index_or list m None)

  pub record ArePartings (list : List (Option ℕ)) : Type 0 where
    pub count : length list ≡ T.mutants
    pub each : (m : ℕ) → m < T.mutants → IsParting m (slice_index_or list m None)

  -- all other places are not visited
  pub record AreVisits (list : List (Option ℕ)) : Type 0 where
    pub each : (at : ℕ) → IsVisit at (slice_index_or list at None)
