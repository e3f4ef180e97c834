-- A memory that begins with some bytes.
use Rattle.am_base.specs.declared.limits.TheConstants.{MEMORY_BYTES, PAGE_BYTES}
use Rattle.shared_pages.specs.Counts.{one_if}
use Rattle.shared_pages.specs.Size.{memory_pages}
use Rattle.shared_pages.specs.Store.{Memory, Store, IsIn, memory, the_memory, page, is_own, used_pages, tabulate}
use Rattle.std.specs.Prelude.{ℕ, max, ◌+◌, ◌*◌, ◌<◌, ◌≤◌, ◌≡◌, ◌≢◌, ◌&&◌, List, Bool, true, false, Some, not, take, drop, length, slice_index, nat_eq, nat_lt}
use Rattle.std.specs.Prelude.{if◌then◌else◌}
use Rattle.std.specs.List.{list_all, count_by}

-- the bytes of a page of a memory
abbrev pub page_of : List ℕ → ℕ → List ℕ
page_of bytes i = take PAGE_BYTES (drop (i * PAGE_BYTES) bytes)

abbrev pub are_zero : List ℕ → Bool
are_zero bytes = list_all (nat_eq 0) bytes

-- a page has a byte that isn't 0
unfoldable pub is_full : List ℕ → ℕ → Bool
is_full bytes i = not (are_zero (page_of bytes i))

-- how many pages have a byte that isn't 0
abbrev pub full_count : List ℕ → ℕ
full_count bytes = count_by (λ b. b) (tabulate memory_pages (is_full bytes))

-- a memory has these bytes; its page is its own where a byte of it isn't 0, and is the zero page where all are
pub record IsBegun (s : Store) (m : ℕ) (opening : List ℕ) : Type 0 where
  pub alive : IsIn s m
  pub bytes : (the_memory s m).bytes ≡ opening
  pub long : length (the_memory s m).pages ≡ memory_pages
  pub zero : (i : ℕ) → i < memory_pages → is_full opening i ≡ false → page s m i ≡ 0
  pub own : (i : ℕ) → i < memory_pages → is_full opening i ≡ true → is_own s m i ≡ true

-- On the way there.

-- the first bytes of a list, and zeros
abbrev pub first_bytes : List ℕ → ℕ → List ℕ
first_bytes bytes end = tabulate MEMORY_BYTES (λ at. if nat_lt at end then slice_index bytes at else 0)

-- the memory of zeros
abbrev pub zero_memory : Memory
zero_memory = record { bytes = tabulate MEMORY_BYTES (λ _. 0); pages = tabulate memory_pages (λ _. 0) }

-- whether a page is one of the first ones and has a byte that isn't 0
abbrev pub is_opened : List ℕ → ℕ → ℕ → Bool
is_opened bytes end i = nat_lt i end && is_full bytes i

-- a memory was given the first pages of these bytes, and no other memory changed
pub record IsOpened (old new : Store) (m : ℕ) (opening : List ℕ) (end : ℕ) : Type 0 where
  pub alive : IsIn new m
  pub bytes : (the_memory new m).bytes ≡ first_bytes opening (end * PAGE_BYTES)
  pub long : length (the_memory new m).pages ≡ memory_pages
  pub zero : (i : ℕ) → i < memory_pages → is_opened opening end i ≡ false → page new m i ≡ 0
  pub own : (i : ℕ) → i < memory_pages → is_opened opening end i ≡ true → is_own new m i ≡ true
  pub others : (k : ℕ) → k ≢ m → memory new k ≡ memory old k
  pub used : used_pages new ≡ used_pages old + count_by (λ b. b) (tabulate memory_pages (is_opened opening end))
  pub peak : new.peak ≡ max old.peak (used_pages new)

-- a memory was given one page more of these bytes
pub record IsNext (old new : Store) (m : ℕ) (opening : List ℕ) (i : ℕ) : Type 0 where
  pub alive : IsIn new m
  pub bytes : (the_memory new m).bytes ≡ first_bytes opening ((i + 1) * PAGE_BYTES)
  pub long : length (the_memory new m).pages ≡ length (the_memory old m).pages
  pub zero : is_full opening i ≡ false → page new m i ≡ 0
  pub own : is_full opening i ≡ true → is_own new m i ≡ true
  pub same : (j : ℕ) → j ≢ i → page new m j ≡ page old m j
  pub grown : (k j : ℕ) → is_own old k j ≡ true → is_own new k j ≡ true
  pub others : (k : ℕ) → k ≢ m → memory new k ≡ memory old k
  pub used : used_pages new ≡ used_pages old + one_if (is_full opening i)
  pub peak : new.peak ≡ max old.peak (used_pages new)

-- a memory was given some pages, and no other memory changed
pub record IsLeft (old new : Store) (m : ℕ) (most : ℕ) : Type 0 where
  pub alive : IsIn new m
  pub others : (k : ℕ) → k ≢ m → memory new k ≡ memory old k
  pub few : used_pages new ≤ used_pages old + most
  pub peak : new.peak ≡ max old.peak (used_pages new)

-- the first bytes of a page of a memory were written, and nothing else
pub record IsPut (old new : Store) (m : ℕ) (bytes : List ℕ) (end : ℕ) : Type 0 where
  pub here : memory new m ≡ Some (record (the_memory old m) { bytes = first_bytes bytes end })
  pub others : (k : ℕ) → k ≢ m → memory new k ≡ memory old k
  pub peak : new.peak ≡ old.peak
