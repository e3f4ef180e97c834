-- What was found of a plan over three files, from what was found of each file and of what follows.
use Rattle.std.proofs.Common.{◌≡◌, ◌⊎◌, ℕ, ◌+◌, ◌≤◌, ◌<◌, ◌-◌, ◌^◌, List, Result, Ok, Err, inl, inr, arith}
use Rattle.am_base.specs.Cause.{Rose}
use Rattle.am_base.specs.Files.{Files}
use Rattle.code_form.specs.declared.sign.PortSign.{PortSign}
use Rattle.ir_tokens.specs.Bytes.{Text}
use Rattle.mutant_records.specs.declared.list.Made.{Made}
use Rattle.mutant_records.specs.declared.list.MutantList.{MutantList}
use Rattle.test_suite.specs.declared.suite.Suite.{Suite}
use Rattle.command_plan.specs.declared.status.Input.TheVariants as input
use Rattle.command_plan.specs.declared.stop.Stop.{Stop}
use Rattle.command_plan.specs.Answer.{Found, Fails}
use Rattle.command_plan.specs.Ends.{End, Ends, Comes, Accepted, Text as Whole, Refused, Long, Fault, Many}
use Rattle.command_plan.specs.Plan.{Counts, Plan, Write, Reads}
use Rattle.command_plan.proofs.Founds.{stay, found_by, ends_later, fails_found, next_found}
use Rattle.command_files.specs.declared.module.Loaded.{Loaded}
use Rattle.command_files.specs.Modules as module_file
use Rattle.command_files.specs.Mutants as mutants_file
use Rattle.command_files.specs.Tests as tests_file
use Rattle.commands.specs.Files.{AreRead}
use Rattle.commands.specs.Plans.{tests_plan, mutants_plan, files_plan, unread_plan}

-- a count that rose in the later part of a call rose in the call
pub rose_later : (old mid new : List ℕ → ℕ) → ((name : List ℕ) → old name ≤ mid name) → (name : List ℕ) → Rose (mid name) (new name)
    → Rose (old name) (new name)
rose_later old mid new h name r =
    let le = h name in
    elim r as (λ _. Rose (old name) (new name)) [ inl lt ↦ inl (omega (arith, le, lt)) | inr top ↦ inr top ]

pub no_end : (end : End) → Comes (λ text. ⊥) (λ counts. ⊥) end → ⊥
no_end (Accepted counts) h = h
no_end (Whole text counts) h = h.0
no_end (Refused input line) h = h
no_end Long h = h
no_end Fault h = h
no_end Many h = h

-- nothing follows
abbrev nothing : Loaded → List Made → Suite → Plan
nothing m all suite = Write (λ text. ⊥) (λ counts. ⊥)

module _ (files : Files) (Faulty : List ℕ → Type 0) (signs : List PortSign) (budget : ℕ) (name mutants tests : Text)
    (next : Loaded → List Made → Suite → Plan) where
  tests_end : (m : Loaded) (all : List Made) (end : End) → Ends files Faulty (tests_plan budget m tests (nothing m all)) end
      → Ends files Faulty (tests_plan budget m tests (next m all)) end
  tests_end m all end (inl h) = inl h
  tests_end m all end (inr h) = absurd (no_end end h.2)

  mutants_end : (m : Loaded) (end : End) → Ends files Faulty (mutants_plan signs budget m mutants tests (nothing m)) end
      → Ends files Faulty (mutants_plan signs budget m mutants tests (next m)) end
  mutants_end m end (inl h) = inl h
  mutants_end m end (inr h) = inr (h.0, h.1, tests_end m h.0 end h.2)

  files_end : (end : End) → Ends files Faulty (unread_plan signs budget name mutants tests) end
      → Ends files Faulty (files_plan signs budget name mutants tests next) end
  files_end end (inl h) = inl h
  files_end end (inr h) = inr (h.0, h.1, mutants_end h.0 end h.2)

  module _ (old new : Counts) where
    -- a file wasn't taken: what follows doesn't matter
    pub unread_found : (r : Result (List ℕ) Stop) → Found files Faulty (unread_plan signs budget name mutants tests) old new r
        → Found files Faulty (files_plan signs budget name mutants tests next) old new r
    unread_found r h =
        found_by files files Faulty Faulty (files_plan signs budget name mutants tests next) (unread_plan signs budget name mutants tests) old new files_end r h

    -- all files were taken, and the rest was found
    pub read_found : (m : Loaded) (list : MutantList) (suite : Suite) (read : AreRead files signs budget name mutants tests m list suite)
        (r : Result (List ℕ) Stop) → Found files (λ name. ⊥) (next m read.all suite) old new r
        → Found files Faulty (files_plan signs budget name mutants tests next) old new r
    read_found m list suite read r h =
        let rest = next m read.all suite in
        found_by files files Faulty (λ name. ⊥) (files_plan signs budget name mutants tests next) rest old new
        (λ end ends. inr (
          m,
          read.module_is,
          inr (
            read.all,
            read.mutants_are,
            inr (suite, read.tests_are, ends_later files Faulty (λ name. ⊥) (λ name none. absurd none) rest end ends),
          ),
        )) r h

-- ---- the file that wasn't taken

module _ (signs : List PortSign) (budget : ℕ) (name mutants tests : Text) (counts : Counts) where
  abbrev unread : Plan
  unread = unread_plan signs budget name mutants tests

  abbrev Raised : (List ℕ → ℕ) → (List ℕ → ℕ) → List ℕ → Type 0
  Raised old new name = Rose (old name) (new name)

  pub no_module : (files : Files) (old new : List ℕ → ℕ) (s : Stop)
      → Fails files name (Rose (old name) (new name)) input.Module (module_file.IsRefused signs) s
      → Found files (λ name. Rose (old name) (new name)) unread counts counts (Err s)
  no_module files old new s h =
      fails_found files (Raised old new) name input.Module (module_file.IsRefused signs) Loaded (module_file.IsAccepted signs)
      (λ m. mutants_plan signs budget m mutants tests (nothing m)) counts counts s (stay counts) h

  pub no_mutants : (files mid : Files) (old later new : List ℕ → ℕ) (m : Loaded) (s : Stop) → mid ≡ files
      → ((name : List ℕ) → old name ≤ later name) → Reads files name (λ file. module_file.IsAccepted signs file m)
      → Fails mid mutants (Rose (later mutants) (new mutants)) input.Mutants (mutants_file.AreRefused signs m) s
      → Found files (λ name. Rose (old name) (new name)) unread counts counts (Err s)
  no_mutants files mid old later new m s same le reads h =
      next_found files mid (Raised old new) (Raised later new) name input.Module (module_file.IsRefused signs) Loaded (module_file.IsAccepted signs)
      (λ m. mutants_plan signs budget m mutants tests (nothing m)) counts counts m (Err s) same (rose_later old later new le) reads
      (fails_found mid (Raised later new) mutants input.Mutants (mutants_file.AreRefused signs m) (List Made) (mutants_file.AreMutants signs m)
      (λ all. tests_plan budget m tests (nothing m all)) counts counts s (stay counts) h)

  pub no_tests : (files mid more : Files) (old later last new : List ℕ → ℕ) (m : Loaded) (all : List Made) (s : Stop) → mid ≡ files → more ≡ mid
      → ((name : List ℕ) → old name ≤ later name) → ((name : List ℕ) → later name ≤ last name)
      → Reads files name (λ file. module_file.IsAccepted signs file m) → Reads mid mutants (λ file. mutants_file.AreMutants signs m file all)
      → Fails more tests (Rose (last tests) (new tests)) input.Tests (tests_file.AreRefused m.code budget) s
      → Found files (λ name. Rose (old name) (new name)) unread counts counts (Err s)
  no_tests files mid more old later last new m all s same still le lt reads gives h =
      next_found files mid (Raised old new) (Raised later new) name input.Module (module_file.IsRefused signs) Loaded (module_file.IsAccepted signs)
      (λ m. mutants_plan signs budget m mutants tests (nothing m)) counts counts m (Err s) same (rose_later old later new le) reads
      (next_found mid more (Raised later new) (Raised last new) mutants input.Mutants (mutants_file.AreRefused signs m) (List Made)
      (mutants_file.AreMutants signs m) (λ all. tests_plan budget m tests (nothing m all)) counts counts all (Err s) still
      (rose_later later last new lt) gives
      (fails_found more (Raised last new) tests input.Tests (tests_file.AreRefused m.code budget) Suite (tests_file.AreTests m.code budget)
      (nothing m all) counts counts s (stay counts) h))
