-- Numbers and their owners.
use Rattle.std.specs.Prelude.{ℕ, zero, suc, ◌+◌, ◌-◌, ◌≢◌, ◌<◌, ◌≤◌, ◌≡◌, ◌&&◌, List, [], ◌∷◌, length, slice_index, slice_index_or, slice_set, nat_eq, nat_lt}
use Rattle.std.specs.Prelude.{Bool, if◌then◌else◌}
use Rattle.std.specs.List.{sum_by}

-- 1 where a number is x, and else 0
abbrev pub is_one : ℕ → ℕ → ℕ
is_one x y = if nat_eq x y then 1 else 0

abbrev pub one_if : Bool → ℕ
one_if b = if b then 1 else 0

-- how often x stands in a list
abbrev pub occurs : ℕ → List ℕ → ℕ
occurs x xs = sum_by (λ y. is_one x y) xs

-- how many different numbers other than 0 stand in a list: each is counted where it stands last
abbrev pub different : List ℕ → ℕ
different [] = 0
different (x ∷ xs) = one_if (nat_lt 0 x && nat_eq (occurs x xs) 0) + different xs

-- 1 where a number of the list has no owner, and else 0
abbrev pub is_free : List ℕ → ℕ → ℕ
is_free counts p = is_one 0 (slice_index_or counts p 1)

-- the free list has each number without an owner once, and no other, and room for every number
pub record IsPool (counts : List ℕ) (free : List ℕ) (room : ℕ) : Type 0 where
  pub first : 0 < slice_index counts 0
  pub named : (p : ℕ) → occurs p free ≡ is_free counts p
  pub total : length free ≡ occurs 0 counts
  pub capacity : length counts ≤ room

-- a list of entries, each of which names a number below a limit
pub record Names : Type 0 where
  pub entries : List ℕ
  pub limit : ℕ

-- each number but 0 is counted as often as an entry names it
pub record AreCounted (entries : List ℕ) (counts : List ℕ) : Type 0 where
  pub first : 0 < slice_index counts 0
  pub counted : (p : ℕ) → 0 < p → slice_index counts p ≡ occurs p entries

-- an entry names no number but 0, or one that another entry names too
abbrev pub IsShared : List ℕ → ℕ → Type 0
IsShared entries at = slice_index entries at ≢ 0 → 2 ≤ occurs (slice_index entries at) entries

-- the counts after a number other than 0 lost an owner
abbrev pub one_less : List ℕ → ℕ → List ℕ
one_less counts zero = counts
one_less counts (suc p) = slice_set counts (suc p) (slice_index counts (suc p) - 1)

-- the counts after a number other than 0 got an owner
abbrev pub one_more : List ℕ → ℕ → List ℕ
one_more counts zero = counts
one_more counts (suc p) = slice_set counts (suc p) (slice_index counts (suc p) + 1)
