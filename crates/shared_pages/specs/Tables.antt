-- Tables of two levels, seen as one list of entries.
use Rattle.std.specs.Prelude.{ℕ, ◌+◌, ◌*◌, ◌/◌, ◌%◌, ◌<◌, ◌≤◌, ◌≡◌, ◌^◌, List, length, slice_index, slice_set}
use Rattle.shared_pages.specs.Counts.{Names, occurs}
use Rattle.shared_pages.specs.Rows.{IsExtended}
use Rattle.shared_pages.specs.Size.{table_entries}
use Rattle.shared_pages.specs.Store.{tabulate}

-- an entry that is seen: a root names the leaf that has it
abbrev pub leaf_entry : List ℕ → List ℕ → ℕ → ℕ
leaf_entry roots leaves i = slice_index leaves (slice_index roots (i / table_entries) * table_entries + i % table_entries)

-- the entries that are seen: those of the leaf that the first root names, of the leaf of the second root, and so on
abbrev pub flat : List ℕ → List ℕ → List ℕ
flat roots leaves = tabulate (length roots * table_entries) (leaf_entry roots leaves)

abbrev pub names_seen : Names → Names → Names
names_seen roots leaves = record { entries = flat roots.entries leaves.entries; limit = leaves.limit }

-- leaf 0 is all 0, and so is each leaf that no root names
pub record AreTables (roots leaves : Names) : Type 0 where
  pub rows : roots.limit * table_entries ≤ length leaves.entries
  pub few : length leaves.entries < 2 ^ 32
  pub short : length roots.entries * table_entries < 2 ^ 32
  pub zero : (j : ℕ) → j < table_entries → slice_index leaves.entries j ≡ 0
  pub dead : (l j : ℕ) → occurs l roots.entries ≡ 0 → j < table_entries → slice_index leaves.entries (l * table_entries + j) ≡ 0

-- root q alone names leaf l
pub record IsOwnLeaf (roots : Names) (q l : ℕ) : Type 0 where
  pub place : q < length roots.entries
  pub named : slice_index roots.entries q ≡ l
  pub other : 0 < l
  pub below : l < roots.limit
  pub once : occurs l roots.entries ≡ 1

-- nothing that is seen differs
pub record AreSame (old_roots old_leaves roots leaves : Names) : Type 0 where
  pub tables : AreTables roots leaves
  pub seen : names_seen roots leaves ≡ names_seen old_roots old_leaves

-- root `at` names leaf l, which is all 0 and which no root named
pub record IsFreshLeaf (old_roots old_leaves roots leaves : Names) (at l : ℕ) : Type 0 where
  pub entries : roots.entries ≡ slice_set old_roots.entries at l
  pub other : 0 < l
  pub unnamed : occurs l old_roots.entries ≡ 0
  pub below : l < roots.limit
  pub rows : roots.limit * table_entries ≤ length leaves.entries
  pub more : IsExtended old_leaves leaves
