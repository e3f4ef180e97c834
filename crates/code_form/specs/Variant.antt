-- The replacements of the mutants: which of them a mutant has at a place, and how they are numbered.
use Rattle.std.specs.Prelude.{◌≡◌, ◌≢◌, ℕ, zero, suc, ◌+◌, ◌<◌, ◌==◌, Bool, false, if◌then◌else◌, List, [], ◌∷◌, ◌++◌, length, map, Some, slice_get, slice_set}
use Rattle.std.specs.Prelude.{slice_index, unwrap_or}
use Rattle.std.specs.List.{list_any}
use Rattle.am_base.specs.declared.limits.TheConstants.{MAX_REPLACEMENTS}
use Rattle.code_form.specs.declared.instr.Instr.{Instr}
use Rattle.code_form.specs.declared.code.Code.{Code}
use Rattle.code_form.specs.Places.{instr_at}

-- what contracts see of a table of replacements
pub record Table : Type 0 where
  -- for each mutant from 0 its replacements, in the order in which they were added: the place of each, and the number that it has there
  pub chosen : List (List (ℕ × ℕ))
  -- for each place the replacements that differ from its instruction, in order of first mention: the first has number 1
  pub mentioned : List (List Instr)

abbrev pub mutants_of : Table → ℕ
mutants_of t = length t.chosen

abbrev pub chosen_by : Table → ℕ → List (ℕ × ℕ)
chosen_by t m = unwrap_or (slice_get t.chosen m) []

-- the places of these replacements
abbrev pub places_in : List (ℕ × ℕ) → List ℕ
places_in cs = map (λ (c : ℕ × ℕ). c.0) cs

-- the places of the replacements of a mutant
abbrev pub places_by : Table → ℕ → List ℕ
places_by t m = places_in (chosen_by t m)

-- whether a place is among these
abbrev pub has_place : List ℕ → ℕ → Bool
has_place places at = list_any (λ p. p == at) places

-- the number of the replacement at a place: 0 where there is none
abbrev pub number_at : List (ℕ × ℕ) → ℕ → ℕ
number_at [] at = 0
number_at (c ∷ more) at = if (c.0 == at) then c.1 else number_at more at

-- the number of the replacement that a mutant has at a place: 0 where it has none, and where it equals the original
abbrev pub variant_of : Table → ℕ → ℕ → ℕ
variant_of t m at = number_at (chosen_by t m) at

-- the replacements of a place, in order of first mention
abbrev pub replacements_at : Table → ℕ → List Instr
replacements_at t at = unwrap_or (slice_get t.mentioned at) []

-- the instruction that a number stands for at a place
abbrev pub instr_of : Code → Table → ℕ → ℕ → Instr
instr_of code t at zero = instr_at code at
instr_of code t at (suc k) = unwrap_or (slice_get (replacements_at t at) k) (instr_at code at)

-- the instruction that a mutant has at each place
abbrev pub program_of : Code → Table → ℕ → ℕ → Instr
program_of code t m at = instr_of code t at (variant_of t m at)

-- how a replacement is numbered at its place, and which replacements the place has then
pub data IsNumbered (original : Instr) (before : List Instr) (with : Instr) : ℕ → List Instr → Type 0 where
  same : with ≡ original → IsNumbered original before with 0 before
  known : (k : ℕ) → with ≢ original → slice_get before k ≡ Some with → IsNumbered original before with (k + 1) before
  fresh : with ≢ original → ((k : ℕ) → slice_get before k ≢ Some with) → IsNumbered original before with (length before + 1) (before ++ with ∷ [])

-- mutant m, which had none at a place and fewer than it may have, got a replacement there, and nothing else changed
pub record Adds (code : Code) (old new : Table) (m at : ℕ) (with : Instr) : Type 0 where
  pub defined : m < mutants_of old
  pub free : has_place (places_by old m) at ≡ false
  pub few : length (places_by old m) < MAX_REPLACEMENTS
  pub number : ℕ
  pub numbered : IsNumbered (instr_at code at) (replacements_at old at) with number (replacements_at new at)
  pub chosen : new.chosen ≡ slice_set old.chosen m (chosen_by old m ++ (at, number) ∷ [])
  pub others : (q : ℕ) → q ≢ at → replacements_at new q ≡ replacements_at old q

-- no instruction stands twice
abbrev pub AreDifferent : List Instr → Type 0
AreDifferent is = (j k : ℕ) (i : Instr) → slice_get is j ≡ Some i → slice_get is k ≡ Some i → j ≡ k

-- each number is less than those behind it
abbrev pub IsRising : List ℕ → Type 0
IsRising ns = (j k : ℕ) → j < k → k < length ns → slice_index ns j < slice_index ns k
