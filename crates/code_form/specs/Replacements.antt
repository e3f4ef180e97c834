-- How a table of replacements is kept: for each place its replacements and the mutants that have one.
use Rattle.std.specs.Prelude.{◌≡◌, ◌≢◌, ◌⊎◌, ◌↔◌, ℕ, ◌<◌, ◌≤◌, List, [], ◌∷◌, length, map, slice_get, slice_index_or, unwrap_or, Contains}
use Rattle.am_base.specs.declared.limits.TheConstants.{MAX_MUTANTS}
use Rattle.code_form.specs.declared.instr.Instr.{Instr}
use Rattle.code_form.specs.declared.replacements.Replacements.{Replacements}
use Rattle.code_form.specs.Variant.{Table, chosen_by, variant_of, IsNumbered, AreDifferent, IsRising}

-- a list of lists without the empty ones at its end
abbrev pub put_before : List Instr → List (List Instr) → List (List Instr)
put_before [] [] = []
put_before [] (l ∷ more) = [] ∷ l ∷ more
put_before (i ∷ is) more = (i ∷ is) ∷ more

abbrev pub trimmed : List (List Instr) → List (List Instr)
trimmed [] = []
trimmed (l ∷ more) = put_before l (trimmed more)

-- the replacements of each place up to the last one that has some
abbrev pub mentioned_in : List Replacements → List (List Instr)
mentioned_in places = trimmed (map (λ (s : Replacements). s.instrs.keys) places)

-- the replacements and the mutants of a place: a place past the last of the list has none
abbrev pub replacements_in : List Replacements → ℕ → List Instr
replacements_in places at = unwrap_or (slice_get (mentioned_in places) at) []

abbrev pub mutants_in : List Replacements → ℕ → List ℕ
mutants_in places at = slice_index_or (map (λ (s : Replacements). s.mutants.items) places) at []

-- what contracts see of the choices of the mutants and the places
abbrev pub table_of : List (List (ℕ × ℕ)) → List Replacements → Table
table_of choices places = record { chosen = choices; mentioned = mentioned_in places }

-- the places hold what the choices of the mutants say
pub record IsFiled (choices : List (List (ℕ × ℕ))) (places : List Replacements) : Type 0 where
  pub some : 1 ≤ length choices
  pub few : length choices ≤ MAX_MUTANTS
  pub unchanged : chosen_by (table_of choices places) 0 ≡ []
  pub numbered : (at m : ℕ) → variant_of (table_of choices places) m at ≤ length (replacements_in places at)
  pub different : (at : ℕ) → AreDifferent (replacements_in places at)
  pub mentioned_by_one : (at : ℕ) → length (replacements_in places at) ≤ length (mutants_in places at)
  pub rising : (at : ℕ) → IsRising (mutants_in places at)
  pub exact : (at m : ℕ) → Contains (mutants_in places at) m ↔ (0 < variant_of (table_of choices places) m at)

-- a mutant got a replacement at a place, and nothing else changed
pub record IsAdded (original : Instr) (old new : List Replacements) (at m : ℕ) (with : Instr) (number : ℕ) : Type 0 where
  pub numbered : IsNumbered original (replacements_in old at) with number (replacements_in new at)
  pub given : number ≤ length (replacements_in new at)
  pub mutants : (n : ℕ) → Contains (mutants_in new at) n ↔ (((n ≡ m) × (0 < number)) ⊎ Contains (mutants_in old at) n)
  pub different : AreDifferent (replacements_in new at)
  pub mentioned_by_one : length (replacements_in new at) ≤ length (mutants_in new at)
  pub rising : IsRising (mutants_in new at)
  pub other_replacements : (q : ℕ) → q ≢ at → replacements_in new q ≡ replacements_in old q
  pub other_mutants : (q : ℕ) → q ≢ at → mutants_in new q ≡ mutants_in old q

-- the places have the same replacements and mutants, whatever empty ones stand at their end
pub record AreSame (old new : List Replacements) : Type 0 where
  pub mentioned : mentioned_in new ≡ mentioned_in old
  pub mutants : (at : ℕ) → mutants_in new at ≡ mutants_in old at
