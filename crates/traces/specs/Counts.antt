-- What a machine counts, and how its counts rise.
--     Counts       the variants tried, the changes applied, the weight of the changes applied and of those readied,
--                  and how often each port, by its number, was asked
--     NoCounts     nothing was counted yet
--     SameCounts   no count changed
--     RoseBy old new by          each count rose by exactly that much
--     IsBetween low value high   the value is at least low and at most high
--     RoseWithin old new most    each count fell by nothing and rose by at most that much
--     AreAtMost most counts      no count is above most
--     counts_of_tries            what a machine counts for trying these variants in a state
--     counts_of_ready            what it counts for readying a state for this change
--     counts_of_apply            what it counts for applying this change
use Rattle.std.specs.Prelude.{◌≡◌, ℕ, ◌+◌, ◌≤◌, List, length}
use Rattle.traces.specs.Meanings.{Meanings, total_toll}

pub record Counts : Type 0 where
  pub tried : ℕ
  pub applied : ℕ
  pub weighed : ℕ
  pub readied : ℕ
  pub asks : ℕ → ℕ

pub record NoCounts (counts : Counts) : Type 0 where
  pub tried : counts.tried ≡ 0
  pub applied : counts.applied ≡ 0
  pub weighed : counts.weighed ≡ 0
  pub readied : counts.readied ≡ 0
  pub asks : (port : ℕ) → counts.asks port ≡ 0

pub record SameCounts (old new : Counts) : Type 0 where
  pub tried : new.tried ≡ old.tried
  pub applied : new.applied ≡ old.applied
  pub weighed : new.weighed ≡ old.weighed
  pub readied : new.readied ≡ old.readied
  pub asks : (port : ℕ) → new.asks port ≡ old.asks port

pub record RoseBy (old new by : Counts) : Type 0 where
  pub tried : new.tried ≡ old.tried + by.tried
  pub applied : new.applied ≡ old.applied + by.applied
  pub weighed : new.weighed ≡ old.weighed + by.weighed
  pub readied : new.readied ≡ old.readied + by.readied
  pub asks : (port : ℕ) → new.asks port ≡ old.asks port + by.asks port

pub record IsBetween (low value high : ℕ) : Type 0 where
  pub least : low ≤ value
  pub most : value ≤ high

pub record RoseWithin (old new most : Counts) : Type 0 where
  pub tried : IsBetween old.tried new.tried (old.tried + most.tried)
  pub applied : IsBetween old.applied new.applied (old.applied + most.applied)
  pub weighed : IsBetween old.weighed new.weighed (old.weighed + most.weighed)
  pub readied : IsBetween old.readied new.readied (old.readied + most.readied)
  pub asks : (port : ℕ) → IsBetween (old.asks port) (new.asks port) (old.asks port + most.asks port)

pub record AreAtMost (most : ℕ) (counts : Counts) : Type 0 where
  pub tried : counts.tried ≤ most
  pub applied : counts.applied ≤ most
  pub weighed : counts.weighed ≤ most
  pub readied : counts.readied ≤ most
  pub asks : (port : ℕ) → counts.asks port ≤ most

module _ {S C : Type 0} (M : Meanings S C) where
  abbrev pub counts_of_tries : S → List ℕ → Counts
  counts_of_tries s variants = record { tried = length variants; applied = 0; weighed = 0; readied = 0; asks = λ port. total_toll M port s variants }

  abbrev pub counts_of_ready : C → Counts
  counts_of_ready c = record { tried = 0; applied = 0; weighed = 0; readied = M.weight c; asks = λ port. 0 }

  abbrev pub counts_of_apply : C → Counts
  counts_of_apply c = record { tried = 0; applied = 1; weighed = M.weight c; readied = 0; asks = λ port. 0 }
