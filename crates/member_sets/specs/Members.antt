-- Sets of mutants as rising lists, and their parts.
--     IsMemberList      the list isn't empty, has at most MAX_MUTANTS numbers, all below MAX_MUTANTS, and rises
--     class_at          the class of the variant that a mutant has at a place, where each variant number there has a class
--     same_class        whether two mutants have one class
--     is_class_leader   no lower member has the class of this one
--     parts_by          for each member that is the least of its class, rising, the members of that class
use Rattle.std.specs.Prelude.{ℕ, Bool, ◌<◌, ◌≤◌, ◌==◌, ◌&&◌, not, nat_lt, List, length, map, slice_index}
use Rattle.am_base.specs.declared.limits.TheConstants.{MAX_MUTANTS}
use Rattle.std.specs.List.{All, filter, list_any}
use Rattle.std.specs.List.Sorted.{IsStrictlyIncreasing}

pub record IsMemberList (members : List ℕ) : Type 0 where
  pub some : 0 < length members
  pub few : length members ≤ MAX_MUTANTS
  pub rising : IsStrictlyIncreasing members
  pub within : All (λ m. m < MAX_MUTANTS) members

abbrev pub class_at : (ℕ → ℕ → ℕ) → ℕ → List ℕ → ℕ → ℕ
class_at variant place classes m = slice_index classes (variant m place)

module _ (class : ℕ → ℕ) where
  abbrev pub same_class : ℕ → ℕ → Bool
  same_class m k = class m == class k

  abbrev pub is_class_leader : List ℕ → ℕ → Bool
  is_class_leader members m = not (list_any (λ k. nat_lt k m && same_class k m) members)

  abbrev pub parts_by : List ℕ → List (List ℕ)
  parts_by members = map (λ m. filter (same_class m) members) (filter (is_class_leader members) members)
