-- The table of the replacements of a list, and its rows.
use Rattle.std.specs.Prelude.{◌≡◌, ◌⊎◌, ℕ, ◌+◌, List, [], ◌∷◌, ◌++◌, Result, Ok, Err}
use Rattle.code_form.specs.Fit.{FitsPlace}
use Rattle.code_form.specs.Variant.{Table, Adds, mutants_of, chosen_by, replacements_at, variant_of}
use Rattle.code_form.specs.declared.code.Code.{Code}
use Rattle.list_records.specs.Records.{Fields}
use Rattle.mutant_records.specs.Lists.{ListGives, Reading, last_mutant}
use Rattle.mutant_records.specs.declared.error.MutantError.{MutantError}
use Rattle.mutant_records.specs.declared.error.MutantError.TheVariants as error
use Rattle.mutant_records.specs.declared.list.Made.{Made}
use Rattle.mutant_records.specs.declared.list.MutantList.{MutantList}
use Rattle.mutant_records.specs.declared.list.MutantRow.{MutantRow}

-- a table of mutants without a replacement
pub record IsEmptyTable (mutants : ℕ) (table : Table) : Type 0 where
  pub mutants_are : mutants_of table ≡ mutants
  pub nothing_chosen : (m : ℕ) → chosen_by table m ≡ []
  pub nothing_mentioned : (at : ℕ) → replacements_at table at ≡ []

abbrev pub row_of : Table → Made → MutantRow
row_of table made =
    record { mutant = made.mutant; function = made.function; place = made.place; variant = variant_of table made.mutant made.place.0 }

-- the replacements go into the table one by one, each as one of its mutant: it gets number 0 where it equals the original, the number of an equal one of
-- its place where there is one, and else the next number. Each has a row.
abbrev pub ListFrom : Code → Table → List MutantRow → List Made → Table → List MutantRow → Type 0
ListFrom code table rows [] last all = (last ≡ table) × (all ≡ rows)
ListFrom code table rows (made ∷ more) last all =
    (next : Table) × Adds code table next made.mutant made.place.0 made.with × ListFrom code next (rows ++ row_of next made ∷ []) more last all

-- each replacement fits its place
abbrev pub AllFit : Code → List Made → Type 0
AllFit code [] = Unit {0}
AllFit code (made ∷ all) = FitsPlace code made.place.0 made.with × AllFit code all

-- the list of these replacements
pub record IsListOf (code : Code) (all : List Made) (list : MutantList) : Type 0 where
  pub start : Table
  pub empty : IsEmptyTable (last_mutant all + 1) start
  pub added : ListFrom code start [] all list.variants list.rows

-- what reading a list answers. Want of memory is the only other answer.
abbrev pub Answers : Code → Reading → List Fields → Result MutantList MutantError → Type 0
Answers code Reads records (Ok list) = (all : List Made) × ListGives code Reads records (Ok all) × IsListOf code all list
Answers code Reads records (Err e) = ListGives code Reads records (Err e) ⊎ (e ≡ error.OutOfMemory)
