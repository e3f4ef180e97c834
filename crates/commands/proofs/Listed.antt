-- A list of mutants has one more mutant than the number of the last one that it names, and each test of a suite fits its code.
use Rattle.std.proofs.Common.{◌≡◌, ℕ, zero, suc, ◌+◌, List, [], ◌∷◌, length, Option, Some, None, slice_get, All, refl, sym, ap, subst, ◌∙◌, arith, length-set}
use Rattle.std.proofs.lemmas.Option.{slice_get_within, get_or_from_slice_get}
use Rattle.std.proofs.lemmas.List.Elements.{All-contains}
use Rattle.code_form.specs.declared.code.Code.{Code}
use Rattle.code_form.specs.Variant.{Table, mutants_of}
use Rattle.code_form.proofs.Added.{mutants-adds}
use Rattle.mutant_records.specs.Lists.{last_mutant}
use Rattle.mutant_records.specs.Tables.{IsListOf, ListFrom}
use Rattle.mutant_records.specs.declared.list.Made.{Made}
use Rattle.mutant_records.specs.declared.list.MutantList.{MutantList}
use Rattle.mutant_records.specs.declared.list.MutantRow.{MutantRow}
use Rattle.test_suite.specs.declared.suite.Test.{Test}
use Rattle.commands.specs.Alone.{test_numbered}

from_mutants : (code : Code) (table : Table) (rows : List MutantRow) (all : List Made) (last : Table) (lines : List MutantRow)
    → ListFrom code table rows all last lines → mutants_of last ≡ mutants_of table
from_mutants code table rows [] last lines h = ap mutants_of h.0
from_mutants code table rows (made ∷ more) last lines h =
    let next = h.0 in
    let later = from_mutants code next _ more last lines h.2 in
    later ∙ mutants-adds code table next made.mutant made.place.0 made.with h.1

pub list_mutants : (code : Code) (all : List Made) (list : MutantList) → IsListOf code all list → mutants_of list.variants ≡ last_mutant all + 1
list_mutants code all list h = from_mutants code h.start [] all list.variants list.rows h.added ∙ h.empty.mutants_are

pub numbered_get : (P : Test → Type 0) (tests : List Test) (n : ℕ) (t : Test) → All P tests → test_numbered tests n ≡ Some t → P t
numbered_get P tests zero t all e = absurd (cc e)
numbered_get P tests (suc n) t all e = All-contains P tests t all (n, slice_get_within tests n t e, get_or_from_slice_get tests n t t e)
