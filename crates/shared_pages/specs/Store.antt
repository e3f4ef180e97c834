-- What is seen of a store of pages.
use Rattle.am_base.specs.declared.limits.TheConstants.{MEMORY_BYTES, PAGE_BYTES}
use Rattle.shared_pages.specs.Size.{memory_pages}
use Rattle.std.specs.Prelude.{ℕ, max, ◌⊎◌, ◌+◌, ◌*◌, ◌/◌, ◌%◌, ◌<◌, ◌≤◌, ◌^◌, ◌≡◌, ◌≢◌, ◌==◌, ◌&&◌, List, [], ◌∷◌, ◌++◌, Bool, true, false, not, Option, Some}
use Rattle.std.specs.Prelude.{None, map}
use Rattle.std.specs.Prelude.{length, slice_index, slice_index_or, slice_set, nat_lt, nat_eq, if◌then◌else◌, is_some}
use Rattle.std.specs.List.{range_with_len, count_by, list_any}
use Rattle.shared_pages.specs.Counts.{Names, occurs, different, one_if}

-- the list of f 0, f 1, .., of n elements
unfoldable pub tabulate : {A : Type 0} → ℕ → (ℕ → A) → List A
tabulate n f = map f (range_with_len 0 n)

-- a memory: its bytes, and for each of its pages the number of the page; memories share a page that has the same number in both, and page 0 is the zero page
pub record Memory : Type 0 where
  pub bytes : List ℕ
  pub pages : List ℕ

-- a store: the memory of each number, where there is one, and the most pages that were used at once
pub record Store : Type 0 where
  pub memories : List (Option Memory)
  pub peak : ℕ

-- the memory of a number
abbrev pub memory : Store → ℕ → Option Memory
memory s m = slice_index_or s.memories m None

abbrev pub or_empty : Option Memory → Memory
or_empty None = record { bytes = []; pages = [] }
or_empty (Some m) = m

-- the memory of a number that has one
abbrev pub the_memory : Store → ℕ → Memory
the_memory s m = or_empty (memory s m)

abbrev pub IsIn : Store → ℕ → Type 0
IsIn s m = is_some (memory s m) ≡ true

-- the number of a page of a memory; 0 where there is no such page
abbrev pub page : Store → ℕ → ℕ → ℕ
page s m i = slice_index (the_memory s m).pages i

abbrev pub joined : List (Option Memory) → List ℕ
joined [] = []
joined (m ∷ ms) = (or_empty m).pages ++ joined ms

-- the pages of one memory after the other
abbrev pub all_pages : Store → List ℕ
all_pages s = joined s.memories

-- how many pages are the zero page or in a memory
abbrev pub used_pages : Store → ℕ
used_pages s = different (all_pages s) + 1

-- whether a page is a memory's own: it isn't the zero page, and among the pages of all memories it is there once
abbrev pub is_own : Store → ℕ → ℕ → Bool
is_own s m i = nat_lt 0 (page s m i) && (occurs (page s m i) (all_pages s) == 1)

-- the same by places: no other memory has the page, and it is in no other place of this one
pub record IsAlone (s : Store) (m i : ℕ) : Type 0 where
  pub other : page s m i ≢ 0
  pub alone : (k j : ℕ) → page s k j ≡ page s m i → (k ≡ m) × (j ≡ i)

-- whether the page of an address is the memory's own
abbrev pub owns : Store → ℕ → ℕ → Bool
owns s m at = is_own s m (at / PAGE_BYTES)

-- how many pages of a memory are its own
abbrev pub own_count : Store → ℕ → ℕ
own_count s m = count_by (λ b. b) (tabulate memory_pages (is_own s m))

-- how many pages of a memory have another number than before
abbrev pub changed_count : Store → Store → ℕ → ℕ
changed_count old new m = count_by (λ b. b) (tabulate memory_pages (λ i. not (nat_eq (page new m i) (page old m i))))

-- how many pages of these addresses aren't a memory's own
abbrev pub shared_count : Store → ℕ → List ℕ → ℕ
shared_count s m at = count_by (λ b. b) (tabulate memory_pages (λ i. list_any (λ a. nat_eq (a / PAGE_BYTES) i) at && not (is_own s m i)))

-- a page of a memory, and no other, has become its own, if it wasn't: then it has a number that no memory had
pub record IsMadeOwn (old new : Store) (m i : ℕ) : Type 0 where
  pub here : memory new m ≡ Some (record (the_memory old m) { pages = slice_set (the_memory old m).pages i (page new m i) })
  pub others : (k : ℕ) → k ≢ m → memory new k ≡ memory old k
  pub own : is_own new m i ≡ true
  pub grown : (k j : ℕ) → is_own old k j ≡ true → is_own new k j ≡ true
  pub still : (p : ℕ) → 0 < p → 0 < occurs p (all_pages old) → 0 < occurs p (all_pages new)
  pub kept : is_own old m i ≡ true → page new m i ≡ page old m i
  pub differs : is_own old m i ≡ false → page new m i ≢ page old m i
  pub fresh : is_own old m i ≡ false → occurs (page new m i) (all_pages old) ≡ 0
  pub used : used_pages new + one_if (is_own old m i) ≡ used_pages old + 1
  pub peak : new.peak ≡ max old.peak (used_pages new)

-- a page of one of these addresses, which wasn't a memory's own, has become its own, with a number that no memory had
pub record IsRenamed (old new : Store) (m : ℕ) (at : List ℕ) (i : ℕ) : Type 0 where
  pub named : (k : ℕ) × (k < length at) × (slice_index at k / PAGE_BYTES ≡ i)
  pub shared : is_own old m i ≡ false
  pub own : is_own new m i ≡ true
  pub fresh : occurs (page new m i) (all_pages old) ≡ 0

-- pages of these addresses became a memory's own; nothing else changed, and no own page and no page at all was lost
pub record IsReserved (old new : Store) (m : ℕ) (at : List ℕ) : Type 0 where
  pub alive : IsIn new m
  pub bytes : (the_memory new m).bytes ≡ (the_memory old m).bytes
  pub long : length (the_memory new m).pages ≡ length (the_memory old m).pages
  pub others : (k : ℕ) → k ≢ m → memory new k ≡ memory old k
  pub pages : (i : ℕ) → (page new m i ≡ page old m i) ⊎ IsRenamed old new m at i
  pub grown : (k i : ℕ) → is_own old k i ≡ true → is_own new k i ≡ true
  pub still : (p : ℕ) → 0 < p → 0 < occurs p (all_pages old) → 0 < occurs p (all_pages new)
  pub used : used_pages new ≡ used_pages old + changed_count old new m
  pub peak : new.peak ≡ max old.peak (used_pages new)

-- a store after a byte of a memory was written
abbrev pub written : Store → ℕ → ℕ → ℕ → Store
written s m at byte = record s { memories = slice_set s.memories m (Some (record (the_memory s m) { bytes = slice_set (the_memory s m).bytes at byte })) }

-- The fields.

abbrev pub byte_at : List ℕ → List ℕ → ℕ → ℕ → ℕ
byte_at entries bytes m at = slice_index bytes (slice_index entries (m * memory_pages + at / PAGE_BYTES) * PAGE_BYTES + at % PAGE_BYTES)

abbrev pub own_at : List ℕ → ℕ → Bool
own_at entries at = nat_lt 0 (slice_index entries at) && (occurs (slice_index entries at) entries == 1)

abbrev pub is_live : List ℕ → ℕ → Bool
is_live slots m = nat_lt 0 m && nat_lt 0 (slice_index slots m)

abbrev pub memory_seen : List ℕ → List ℕ → ℕ → Memory
memory_seen entries bytes m = record {
  bytes = tabulate MEMORY_BYTES (byte_at entries bytes m);
  pages = tabulate memory_pages (λ i. slice_index entries (m * memory_pages + i));
}

abbrev pub memory_at : List ℕ → List ℕ → List ℕ → ℕ → Option Memory
memory_at slots entries bytes m = if is_live slots m then Some (memory_seen entries bytes m) else None

abbrev pub seen : List ℕ → Names → List ℕ → ℕ → Store
seen slots names bytes peak = record {
  memories = tabulate (length slots) (memory_at slots names.entries bytes);
  peak = peak;
}

-- what holds of the fields
pub record IsStore (slots : List ℕ) (names : Names) (bytes : List ℕ) (peak : ℕ) : Type 0 where
  pub tables : memory_pages * length slots ≤ length names.entries
  pub few : length names.entries < 2 ^ 32
  pub pages : PAGE_BYTES * names.limit ≤ length bytes
  pub room : PAGE_BYTES ≤ length bytes
  pub zero : (o : ℕ) → o < PAGE_BYTES → slice_index bytes o ≡ 0
  pub dead : (k i : ℕ) → is_live slots k ≡ false → i < memory_pages → slice_index names.entries (k * memory_pages + i) ≡ 0
  pub once : (k : ℕ) → 0 < k → slice_index slots k ≤ 1
  pub apart : (k i j : ℕ) → i < memory_pages → j < memory_pages → slice_index names.entries (k * memory_pages + i) ≢ 0
      → slice_index names.entries (k * memory_pages + i) ≡ slice_index names.entries (k * memory_pages + j) → i ≡ j
  pub most : different names.entries + 1 ≤ peak
