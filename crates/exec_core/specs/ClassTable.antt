-- A table by variant number: of marks while variants are gathered, and then of their classes.
--     HasClasses variants classes table    the table has an entry for each of these variants, and it is the class at the variant's index
--     with_number numbers n                these numbers, and n behind them where it isn't among them
--     firsts v members i                   the different numbers v of the first i members, in order of the least member that has each
--     IsAt v members touched i at          the members from the index at on that have a number v other than 0 are among the touched mutants
--                                          from the index i on, and the members before are lower than these
use Rattle.std.specs.Prelude.{◌≡◌, ℕ, ◌≤◌, ◌<◌, ◌==◌, if◌then◌else◌, List, [], ◌∷◌, ◌++◌, length, map, take, slice_index}
use Rattle.std.specs.List.{All, filter, list_any}
use Rattle.member_sets.specs.Members.{is_class_leader}

pub record HasClasses (variants classes table : List ℕ) : Type 0 where
  pub within : All (λ v. v < length table) variants
  pub class : (i : ℕ) → i < length variants → slice_index table (slice_index variants i) ≡ slice_index classes i

abbrev pub with_number : List ℕ → ℕ → List ℕ
with_number numbers n = if list_any (λ k. k == n) numbers then numbers else numbers ++ n ∷ []

abbrev pub firsts : (ℕ → ℕ) → List ℕ → ℕ → List ℕ
firsts v members i = map v (filter (is_class_leader v members) (take i members))

pub record IsAt (v : ℕ → ℕ) (members touched : List ℕ) (i at : ℕ) : Type 0 where
  pub within : at ≤ length members
  pub before : (k j : ℕ) → k < at → i ≤ j → j < length touched → slice_index members k < slice_index touched j
  pub after : (k : ℕ) → at ≤ k → k < length members → 0 < v (slice_index members k)
      → (j : ℕ) × (i ≤ j) × (j < length touched) × (slice_index touched j ≡ slice_index members k)
