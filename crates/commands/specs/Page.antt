-- The page over the three files of a command.
use Rattle.std.specs.Prelude.{◌≡◌, ℕ, ◌+◌, List, [], ◌∷◌, slice_get, unwrap_or}
use Rattle.am_base.specs.Files.{Files}
use Rattle.code_form.specs.declared.code.Code.{Code}
use Rattle.code_form.specs.Variant.{Table, mutants_of}
use Rattle.code_form.specs.declared.sign.PortSign.{PortSign}
use Rattle.machine_form.specs.Calls.{Answers}
use Rattle.ir_tokens.specs.Bytes.{Text}
use Rattle.html_page.specs.Page.{page_text}
use Rattle.html_page.specs.declared.listed.Listed.{Listed}
use Rattle.instruction_list.specs.Lines.{lines_of}
use Rattle.instruction_list.specs.declared.line.Line.{Line}
use Rattle.kill_matrix.specs.Score.{Letters}
use Rattle.mutant_records.specs.Tables.{IsListOf}
use Rattle.mutant_records.specs.declared.list.MutantList.{MutantList}
use Rattle.mutant_records.specs.declared.list.MutantRow.{MutantRow}
use Rattle.suite_analysis.specs.Runs.{AreLetters, works_of}
use Rattle.test_suite.specs.declared.suite.Suite.{Suite}
use Rattle.command_plan.specs.declared.status.Input.TheVariants as input
use Rattle.command_plan.specs.Plan.{Plan, Read, Reads, Write}
use Rattle.command_files.specs.FullLists.{FullList, IsFullList}
use Rattle.command_files.specs.declared.full.Listing.{Listing}
use Rattle.command_files.specs.declared.module.Loaded.{Loaded}
use Rattle.command_files.specs.Modules as module_file
use Rattle.command_files.specs.Mutants as mutants_file
use Rattle.command_files.specs.Tests as tests_file
use Rattle.commands.specs.Plans.{tests_plan}
use Rattle.commands.specs.Run.{IsReportRise}

-- ---- replacements with their texts

abbrev pub listed_at : MutantRow → List Text → ℕ → Listed
listed_at row texts k = record { mutant = row.mutant; place = row.place.0; text = unwrap_or (slice_get texts k) [] }

-- the rows of a list with the texts from a number on
abbrev pub listed_from : List MutantRow → List Text → ℕ → List Listed
listed_from [] texts k = []
listed_from (row ∷ rows) texts k = listed_at row texts k ∷ listed_from rows texts (k + 1)

-- ---- the page

-- the text is the page with the letters of these mutants on these tests and with their work: what a report over the same shows
pub record IsPage (code : Code) (table : Table) (answers : Answers) (suite : Suite) (lines : List Line) (all : List Listed) (text : Text) : Type 0 where
  pub grid : Letters
  pub mutants : grid.mutants ≡ mutants_of table
  pub letters : AreLetters code table answers suite.tests grid.tests
  pub is_text : text ≡ page_text suite grid (works_of code table answers suite.tests) lines all

-- the text is the page of a module, where the mutants from 1 on have the replacements of a list
abbrev pub IsPageText : Loaded → FullList → Answers → Suite → Text → Type 0
IsPageText m full answers suite text =
    (list : MutantList) × IsListOf m.code full.all list
    × IsPage m.code list.variants answers suite (lines_of m.module.items) (listed_from list.rows full.texts 0) text

-- ---- the plan

abbrev pub page_end : Answers → Loaded → FullList → Suite → Plan
page_end answers m full suite = Write (IsPageText m full answers suite) (IsReportRise m.code full.all answers suite)

-- the list of mutants of the first name, the test suite of the second one, and then what follows
abbrev pub list_plan : List PortSign → ℕ → Loaded → Text → Text → (FullList → Suite → Plan) → Plan
list_plan signs budget m mutants tests next =
    Read mutants input.Mutants (mutants_file.AreRefused signs m) FullList (IsFullList signs m) (λ full. tests_plan budget m tests (next full))

-- and the module of the first name before both
abbrev pub full_plan : List PortSign → ℕ → Text → Text → Text → (Loaded → FullList → Suite → Plan) → Plan
full_plan signs budget name mutants tests next =
    Read name input.Module (module_file.IsRefused signs) Loaded (module_file.IsAccepted signs)
    (λ m. list_plan signs budget m mutants tests (next m))

-- with nothing behind them: no text is due
abbrev pub unread_plan : List PortSign → ℕ → Text → Text → Text → Plan
unread_plan signs budget name mutants tests = full_plan signs budget name mutants tests (λ m full suite. Write (λ text. ⊥) (λ counts. ⊥))

-- `page`
abbrev pub page_plan : List PortSign → Answers → ℕ → Text → Text → Text → Plan
page_plan signs answers budget name mutants tests = full_plan signs budget name mutants tests (page_end answers)

-- the files of these names are this module, a list of its mutants with their texts and tests of it
pub record ArePageFiles (files : Files) (signs : List PortSign) (budget : ℕ) (name mutants tests : Text) (m : Loaded) (listing : Listing) (suite : Suite)
    : Type 0 where
  pub module_is : Reads files name (λ file. module_file.IsAccepted signs file m)
  pub full : FullList
  pub mutants_are : Reads files mutants (λ file. IsFullList signs m file full)
  pub list_is : IsListOf m.code full.all listing.list
  pub texts_are : listing.texts ≡ full.texts
  pub tests_are : Reads files tests (λ file. tests_file.AreTests m.code budget file suite)
