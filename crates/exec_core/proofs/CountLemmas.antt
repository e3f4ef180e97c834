-- Counts that rise, turn by turn.
use Rattle.std.proofs.Common.{◌≡◌, ℕ, ◌+◌, ◌≤◌, arith, ◌∙◌}
use Rattle.traces.specs.Counts.{Counts, RoseBy, RoseWithin}

-- what a machine's tries count
module _ (a b : Counts) (n : ℕ) (tolls : ℕ → ℕ) where
  abbrev pub tries_alone : Counts
  tries_alone = record { tried = n; applied = 0; weighed = 0; readied = 0; asks = tolls }

-- the counts of a turn: those of its tries, and then those of its changes
module _ (a b c : Counts) (n applied weight : ℕ) (tolls : ℕ → ℕ) where
  abbrev pub whole_turn : Counts
  whole_turn = record { tried = n; applied = applied; weighed = weight; readied = weight; asks = tolls }

  pub turn_by : RoseBy a b (tries_alone a b n tolls) → c.tried ≡ b.tried → ((p : ℕ) → c.asks p ≡ b.asks p) → c.applied ≡ b.applied + applied
      → c.weighed ≡ b.weighed + weight → c.readied ≡ b.readied + weight → RoseBy a c whole_turn
  turn_by r t f p w d = record {
    tried = t ∙ r.tried;
    applied = omega (arith, r.applied, p);
    weighed = omega (arith, r.weighed, w);
    readied = omega (arith, r.readied, d);
    asks = λ k. f k ∙ r.asks k;
  }

  pub turn_within : RoseWithin a b (tries_alone a b n tolls) → c.tried ≡ b.tried → ((p : ℕ) → c.asks p ≡ b.asks p) → c.applied ≡ b.applied
      → c.weighed ≡ b.weighed → b.readied ≤ c.readied → c.readied ≤ b.readied + weight → RoseWithin a c whole_turn
  turn_within r t f p w l m = record {
    tried = record { least = omega (arith, r.tried.least, t); most = omega (arith, r.tried.most, t) };
    applied = record { least = omega (arith, r.applied.least, p); most = omega (arith, r.applied.most, p) };
    weighed = record { least = omega (arith, r.weighed.least, w); most = omega (arith, r.weighed.most, w) };
    readied = record { least = omega (arith, r.readied.least, l); most = omega (arith, r.readied.most, m) };
    asks = λ k. record { least = omega (arith, (r.asks k).least, f k); most = omega (arith, (r.asks k).most, f k) };
  }

  pub none_applied : RoseWithin a b (tries_alone a b n tolls) → (b.applied ≡ a.applied) × (b.weighed ≡ a.weighed)
  none_applied r = (omega (arith, r.applied.least, r.applied.most), omega (arith, r.weighed.least, r.weighed.most))
