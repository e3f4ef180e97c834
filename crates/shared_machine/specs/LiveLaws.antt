-- The numbers of the memories of a store are different, and have each memory's.
use Rattle.std.specs.Prelude.{◌≡◌, ℕ, zero, suc, List, [], ◌∷◌, Option, None, false, is_some, nat_eq, slice_index_or, map}
use Rattle.std.specs.List.{Contains, IsDistinct}
use Rattle.std.proofs.Common.{refl, ◌∙◌}
use Rattle.machine_parts.specs.TakenLaws.{taken_distinct, taken_has}
use Rattle.shared_pages.specs.Store.{Memory, Store, IsIn}
use Rattle.shared_machine.specs.Live.{marks, live}

mark_of : (ms : List (Option Memory)) (i : ℕ) → slice_index_or (map is_some ms) i false ≡ is_some (slice_index_or ms i None)
mark_of [] i = refl
mark_of (m ∷ ms) zero = refl
mark_of (m ∷ ms) (suc i) = mark_of ms i

-- whether a memory is in the store is told by its mark
pub mark_is : (s : Store) (n : ℕ) → slice_index_or (marks s) n false ≡ is_some (slice_index_or s.memories n None)
mark_is s n = mark_of s.memories n

pub live_has : (s : Store) (n : ℕ) → IsIn s n → Contains (live s) n
live_has s n h = taken_has (marks s) n (mark_is s n ∙ h)

pub live_distinct : (s : Store) → IsDistinct nat_eq (live s)
live_distinct s = taken_distinct (marks s)
