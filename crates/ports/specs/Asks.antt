-- What the ports of a list answer and how often each was asked, by their places in the list.
use Rattle.std.specs.Prelude.{◌≡◌, ℕ, ◌+◌, ◌≤◌, List, Option, None, slice_index, slice_index_or}

abbrev pub no_answer : List ℕ → Option ℕ
no_answer args = None

-- the function of a place, and no answer past the last
abbrev pub answers_in : List (List ℕ → Option ℕ) → ℕ → List ℕ → Option ℕ
answers_in all p = slice_index_or all p no_answer

-- the count of a place, and 0 past the last
abbrev pub asked_in : List ℕ → ℕ → ℕ
asked_in all p = slice_index all p

-- from one moment to another each port was asked so often
abbrev pub AskedBy : List ℕ → List ℕ → (ℕ → ℕ) → Type 0
AskedBy old new times = (p : ℕ) → asked_in new p ≡ asked_in old p + times p

-- or less often
abbrev pub AskedAtMostBy : List ℕ → List ℕ → (ℕ → ℕ) → Type 0
AskedAtMostBy old new times = (p : ℕ) → (asked_in old p ≤ asked_in new p) × (asked_in new p ≤ asked_in old p + times p)
