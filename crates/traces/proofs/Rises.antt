-- Counts that rise, call by call.
use Rattle.std.proofs.Common.{◌≡◌, ℕ, ◌+◌, ◌≤◌, arith, ◌∙◌}
use Rattle.traces.specs.Counts.{Counts, SameCounts, RoseBy, RoseWithin}

pub within_none : (a by : Counts) → RoseWithin a a by
within_none a by = record {
  tried = record { least = omega arith; most = omega arith };
  applied = record { least = omega arith; most = omega arith };
  weighed = record { least = omega arith; most = omega arith };
  readied = record { least = omega arith; most = omega arith };
  asks = λ p. record { least = omega arith; most = omega arith };
}

-- what rose by an amount rose within it
pub rose_within : (a b by : Counts) → RoseBy a b by → RoseWithin a b by
rose_within a b by r = record {
  tried = record { least = omega (arith, r.tried); most = omega (arith, r.tried) };
  applied = record { least = omega (arith, r.applied); most = omega (arith, r.applied) };
  weighed = record { least = omega (arith, r.weighed); most = omega (arith, r.weighed) };
  readied = record { least = omega (arith, r.readied); most = omega (arith, r.readied) };
  asks = λ p. record { least = omega (arith, r.asks p); most = omega (arith, r.asks p) };
}

-- one rise after another
abbrev pub both : Counts → Counts → Counts
both x y = record {
  tried = x.tried + y.tried;
  applied = x.applied + y.applied;
  weighed = x.weighed + y.weighed;
  readied = x.readied + y.readied;
  asks = λ p. x.asks p + y.asks p;
}

pub rose_both : (a b c x y : Counts) → RoseBy a b x → RoseBy b c y → RoseBy a c (both x y)
rose_both a b c x y r s = record {
  tried = omega (arith, r.tried, s.tried);
  applied = omega (arith, r.applied, s.applied);
  weighed = omega (arith, r.weighed, s.weighed);
  readied = omega (arith, r.readied, s.readied);
  asks = λ p. omega (arith, r.asks p, s.asks p);
}

pub within_both : (a b c x y : Counts) → RoseWithin a b x → RoseWithin b c y → RoseWithin a c (both x y)
within_both a b c x y r s = record {
  tried = record { least = omega (arith, r.tried.least, s.tried.least); most = omega (arith, r.tried.most, s.tried.most) };
  applied = record { least = omega (arith, r.applied.least, s.applied.least); most = omega (arith, r.applied.most, s.applied.most) };
  weighed = record { least = omega (arith, r.weighed.least, s.weighed.least); most = omega (arith, r.weighed.most, s.weighed.most) };
  readied = record { least = omega (arith, r.readied.least, s.readied.least); most = omega (arith, r.readied.most, s.readied.most) };
  asks = λ p. record { least = omega (arith, (r.asks p).least, (s.asks p).least); most = omega (arith, (r.asks p).most, (s.asks p).most) };
}

-- the same rise, reckoned otherwise
pub record SameRise (x y : Counts) : Type 0 where
  pub tried : x.tried ≡ y.tried
  pub applied : x.applied ≡ y.applied
  pub weighed : x.weighed ≡ y.weighed
  pub readied : x.readied ≡ y.readied
  pub asks : (p : ℕ) → x.asks p ≡ y.asks p

pub rose_as : (a b x y : Counts) → SameRise x y → RoseBy a b x → RoseBy a b y
rose_as a b x y e r = record {
  tried = omega (arith, r.tried, e.tried);
  applied = omega (arith, r.applied, e.applied);
  weighed = omega (arith, r.weighed, e.weighed);
  readied = omega (arith, r.readied, e.readied);
  asks = λ p. omega (arith, r.asks p, e.asks p);
}

pub record NoMore (x y : Counts) : Type 0 where
  pub tried : x.tried ≤ y.tried
  pub applied : x.applied ≤ y.applied
  pub weighed : x.weighed ≤ y.weighed
  pub readied : x.readied ≤ y.readied
  pub asks : (p : ℕ) → x.asks p ≤ y.asks p

pub within_more : (a b x y : Counts) → NoMore x y → RoseWithin a b x → RoseWithin a b y
within_more a b x y e r = record {
  tried = record { least = r.tried.least; most = omega (arith, r.tried.most, e.tried) };
  applied = record { least = r.applied.least; most = omega (arith, r.applied.most, e.applied) };
  weighed = record { least = r.weighed.least; most = omega (arith, r.weighed.most, e.weighed) };
  readied = record { least = r.readied.least; most = omega (arith, r.readied.most, e.readied) };
  asks = λ p. record { least = (r.asks p).least; most = omega (arith, (r.asks p).most, e.asks p) };
}

-- what stayed the same afterwards
pub rose_still : (a b c by : Counts) → RoseBy a b by → SameCounts b c → RoseBy a c by
rose_still a b c by r s = record {
  tried = s.tried ∙ r.tried;
  applied = s.applied ∙ r.applied;
  weighed = s.weighed ∙ r.weighed;
  readied = s.readied ∙ r.readied;
  asks = λ p. s.asks p ∙ r.asks p;
}

pub within_still : (a b c by : Counts) → RoseWithin a b by → SameCounts b c → RoseWithin a c by
within_still a b c by r s = record {
  tried = record { least = omega (arith, r.tried.least, s.tried); most = omega (arith, r.tried.most, s.tried) };
  applied = record { least = omega (arith, r.applied.least, s.applied); most = omega (arith, r.applied.most, s.applied) };
  weighed = record { least = omega (arith, r.weighed.least, s.weighed); most = omega (arith, r.weighed.most, s.weighed) };
  readied = record { least = omega (arith, r.readied.least, s.readied); most = omega (arith, r.readied.most, s.readied) };
  asks = λ p. record { least = omega (arith, (r.asks p).least, s.asks p); most = omega (arith, (r.asks p).most, s.asks p) };
}
