-- One pass over the splits of an analysis, which tells when each mutant that leads a class parted from mutant 0.
--     lesser value entry           the value, or the entry where that is less
--     with_lesser, with_values     a table with the lesser one for a mutant, and for each of these
--     value_of table split         the number of the change by which the later parts of a split have parted from mutant 0: that of the split, where its
--                                  first part has mutant 0, else that of its first part
--     with_split                   the table with that for the later parts of a split
--     table_of mutants splits      the table behind all splits
--     leader_of classes numbers m  the least member of the class of a mutant
use Rattle.std.specs.Prelude.{ℕ, ◌+◌, ◌==◌, min, if◌then◌else◌, List, replicate, drop, Option, None, Some, slice_get, slice_index, slice_index_or, slice_set}
use Rattle.std.specs.List.{fold}
use Rattle.std.specs.Option.{option_map_or}
use Rattle.flat_analysis.specs.declared.ended.Ended.{Ended}

abbrev pub lesser : ℕ → Option ℕ → ℕ
lesser value None = value
lesser value (Some entry) = min entry value

abbrev pub with_lesser : ℕ → List (Option ℕ) → ℕ → List (Option ℕ)
with_lesser value table m = slice_set table m (Some (lesser value (slice_index_or table m None)))

abbrev pub with_values : Option ℕ → List (Option ℕ) → List ℕ → List (Option ℕ)
with_values None table mutants = table
with_values (Some value) table mutants = fold (with_lesser value) table mutants

abbrev pub value_of : List (Option ℕ) → ℕ × List ℕ → Option ℕ
value_of table split = if slice_index split.1 0 == 0 then Some (split.0 + 1) else slice_index_or table (slice_index split.1 0) None

unfoldable pub with_split : List (Option ℕ) → ℕ × List ℕ → List (Option ℕ)
with_split table split = with_values (value_of table split) table (drop 1 split.1)

unfoldable pub table_of : ℕ → List (ℕ × List ℕ) → List (Option ℕ)
table_of mutants splits = fold with_split (replicate mutants None) splits

unfoldable pub leader_of : List Ended → List ℕ → ℕ → ℕ
leader_of classes numbers m = option_map_or (λ class. slice_index class.members 0) (slice_get classes (slice_index numbers m)) 0
