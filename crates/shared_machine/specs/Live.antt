-- The numbers of the memories of a store.
--     live s    the number of each memory that is in the store, rising
use Rattle.std.specs.Prelude.{ℕ, List, Bool, is_some, map}
use Rattle.machine_parts.specs.Taken.{taken}
use Rattle.shared_pages.specs.Store.{Store}

-- of each number up to the last memory's whether the memory is in the store
abbrev pub marks : Store → List Bool
marks s = map is_some s.memories

abbrev pub live : Store → List ℕ
live s = taken (marks s)
