-- Rows of entries, each of a width.
use Rattle.am_base.specs.declared.limits.TheConstants.{PAGE_BYTES}
use Rattle.std.specs.Prelude.{ℕ, zero, suc, List, ◌⊎◌, slice_set, ◌≢◌, ◌+◌, ◌*◌, ◌<◌, ◌≤◌, ◌≡◌, ◌^◌, length, slice_index}
use Rattle.shared_pages.specs.Counts.{Names, occurs, different, one_if}
use Rattle.shared_pages.specs.Store.{own_at}

-- the first entries of row n are those of row m, and no other entry differs
pub record IsCopied (wide : ℕ) (old new : Names) (m n count : ℕ) : Type 0 where
  pub long : length new.entries ≡ length old.entries
  pub limit : new.limit ≡ old.limit
  pub copied : (j : ℕ) → j < count → slice_index new.entries (n * wide + j) ≡ slice_index old.entries (m * wide + j)
  pub below : (j : ℕ) → j < n * wide → slice_index new.entries j ≡ slice_index old.entries j
  pub above : (j : ℕ) → n * wide + count ≤ j → slice_index new.entries j ≡ slice_index old.entries j

-- how many of the first entries of row n are the only ones that name their number
unfoldable pub own_below : ℕ → List ℕ → ℕ → ℕ → ℕ
own_below wide entries n zero = 0
own_below wide entries n (suc i) = own_below wide entries n i + one_if (own_at entries (n * wide + i))

-- the first entries of row n are 0, and no other entry differs
pub record IsCleared (wide : ℕ) (old new : Names) (n count : ℕ) : Type 0 where
  pub long : length new.entries ≡ length old.entries
  pub limit : new.limit ≡ old.limit
  pub used : different new.entries + own_below wide old.entries n count ≡ different old.entries
  pub cleared : (j : ℕ) → j < count → slice_index new.entries (n * wide + j) ≡ 0
  pub below : (j : ℕ) → j < n * wide → slice_index new.entries j ≡ slice_index old.entries j
  pub above : (j : ℕ) → n * wide + count ≤ j → slice_index new.entries j ≡ slice_index old.entries j
  pub others : (p : ℕ) → 0 < p → ((j : ℕ) → j < count → slice_index old.entries (n * wide + j) ≢ p) → occurs p new.entries ≡ occurs p old.entries

-- number n has an owner, and no other number changed
pub record IsTaken (old new : List ℕ) (n : ℕ) : Type 0 where
  pub below : n < length new
  pub long : length old ≤ length new
  pub taken : slice_index new n ≡ 1
  pub others : (k : ℕ) → k ≢ n → slice_index new k ≡ slice_index old k

-- there may be more entries, which are 0
pub record IsExtended (old new : Names) : Type 0 where
  pub few : length new.entries < 2 ^ 32
  pub long : length old.entries ≤ length new.entries
  pub limit : new.limit ≡ old.limit
  pub used : different new.entries ≡ different old.entries
  pub same : (j : ℕ) → slice_index new.entries j ≡ slice_index old.entries j
  pub occurs : (p : ℕ) → 0 < p → occurs p new.entries ≡ occurs p old.entries

-- entry `at` names a number that none named, whose page has a copy of the bytes of the page that it named before
pub record IsRenewed (old new : Names) (before after : List ℕ) (at p : ℕ) : Type 0 where
  pub place : at < length old.entries
  pub entries : new.entries ≡ slice_set old.entries at p
  pub other : 0 < p
  pub unnamed : occurs p old.entries ≡ 0
  pub copied : (o : ℕ) → o < PAGE_BYTES → slice_index after (p * PAGE_BYTES + o) ≡ slice_index before (slice_index old.entries at * PAGE_BYTES + o)
  pub same : (i : ℕ) → (i < p * PAGE_BYTES) ⊎ (p * PAGE_BYTES + PAGE_BYTES ≤ i) → slice_index after i ≡ slice_index before i
