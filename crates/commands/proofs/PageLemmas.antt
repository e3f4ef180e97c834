-- What was found of `page`, from what was found of each file and of what follows.
use Rattle.std.proofs.Common.{◌≡◌, ℕ, ◌+◌, ◌<◌, ◌≤◌, List, [], ◌∷◌, ◌++◌, length, drop, get_or, Result, Ok, Err, refl, sym, ap, ◌∙◌, inl, inr, append_assoc, append-nil}
use Rattle.std.proofs.lemmas.List.{drop_more, drop_all}
use Rattle.am_base.specs.Cause.{Rose}
use Rattle.am_base.specs.Files.{Files}
use Rattle.code_form.specs.declared.code.Code.{Code}
use Rattle.code_form.specs.Variant.{Table}
use Rattle.code_form.specs.declared.sign.PortSign.{PortSign}
use Rattle.ir_tokens.specs.Bytes.{Text}
use Rattle.traces.specs.Counts.{IsBetween}
use Rattle.machine_form.specs.Calls.{Answers}
use Rattle.ports.specs.Asks.{asked_in, AskedBy, AskedAtMostBy}
use Rattle.exec_core.specs.declared.result.Work.{Work}
use Rattle.html_page.specs.Page.{page_text}
use Rattle.html_page.specs.declared.listed.Listed.{Listed}
use Rattle.instruction_list.specs.Lines.{lines_of}
use Rattle.instruction_list.specs.declared.line.Line.{Line}
use Rattle.mutant_records.specs.Tables.{IsListOf}
use Rattle.mutant_records.specs.declared.list.MutantList.{MutantList}
use Rattle.mutant_records.specs.declared.list.MutantRow.{MutantRow}
use Rattle.suite_analysis.specs.Parts.{AreDone}
use Rattle.suite_analysis.specs.Runs.{suite_steps, suite_asks, works_of}
use Rattle.suite_analysis.specs.declared.done.Done.{Done}
use Rattle.test_suite.specs.declared.suite.Suite.{Suite}
use Rattle.command_plan.specs.declared.status.Input.TheVariants as input
use Rattle.command_plan.specs.declared.stop.Stop.{Stop}
use Rattle.command_plan.specs.declared.stop.Stop.TheVariants as stop
use Rattle.command_plan.specs.Answer.{Found, Fails, RunsOut}
use Rattle.command_plan.specs.Ends.{End, Ends}
use Rattle.command_plan.specs.Plan.{Counts, Plan, Write, Reads}
use Rattle.command_plan.proofs.Founds.{stay, found_by, ends_later, fails_found, next_found}
use Rattle.command_files.specs.FullLists.{FullList, IsFullList}
use Rattle.command_files.specs.declared.full.Listing.{Listing}
use Rattle.command_files.specs.declared.module.Loaded.{Loaded}
use Rattle.command_files.specs.Modules as module_file
use Rattle.command_files.specs.Mutants as mutants_file
use Rattle.command_files.specs.Tests as tests_file
use Rattle.commands.specs.Alone.{counts_of}
use Rattle.commands.specs.Plans.{tests_plan}
use Rattle.commands.specs.Page.{ArePageFiles, IsPage, full_plan, list_plan, listed_at, listed_from, page_end, unread_plan}
use Rattle.commands.proofs.FilesLemmas.{no_end, rose_later}
use Rattle.commands.proofs.RunLemmas.{rises_by, rises_within}

-- nothing follows
abbrev nothing : Loaded → FullList → Suite → Plan
nothing m full suite = Write (λ text. ⊥) (λ counts. ⊥)

module _ (files : Files) (Faulty : List ℕ → Type 0) (signs : List PortSign) (budget : ℕ) (name mutants tests : Text)
    (next : Loaded → FullList → Suite → Plan) where
  tests_end : (m : Loaded) (full : FullList) (end : End) → Ends files Faulty (tests_plan budget m tests (nothing m full)) end
      → Ends files Faulty (tests_plan budget m tests (next m full)) end
  tests_end m full end (inl h) = inl h
  tests_end m full end (inr h) = absurd (no_end end h.2)

  list_end : (m : Loaded) (end : End) → Ends files Faulty (list_plan signs budget m mutants tests (nothing m)) end
      → Ends files Faulty (list_plan signs budget m mutants tests (next m)) end
  list_end m end (inl h) = inl h
  list_end m end (inr h) = inr (h.0, h.1, tests_end m h.0 end h.2)

  files_end : (end : End) → Ends files Faulty (unread_plan signs budget name mutants tests) end
      → Ends files Faulty (full_plan signs budget name mutants tests next) end
  files_end end (inl h) = inl h
  files_end end (inr h) = inr (h.0, h.1, list_end h.0 end h.2)

  module _ (old new : Counts) where
    -- a file wasn't taken: what follows doesn't matter
    pub unread_page : (r : Result (List ℕ) Stop) → Found files Faulty (unread_plan signs budget name mutants tests) old new r
        → Found files Faulty (full_plan signs budget name mutants tests next) old new r
    unread_page r h =
        found_by files files Faulty Faulty (full_plan signs budget name mutants tests next) (unread_plan signs budget name mutants tests) old new files_end r h

    -- all files were taken, and the rest was found
    pub read_page : (m : Loaded) (listing : Listing) (suite : Suite) (read : ArePageFiles files signs budget name mutants tests m listing suite)
        (r : Result (List ℕ) Stop) → Found files (λ name. ⊥) (next m read.full suite) old new r
        → Found files Faulty (full_plan signs budget name mutants tests next) old new r
    read_page m listing suite read r h =
        let rest = next m read.full suite in
        found_by files files Faulty (λ name. ⊥) (full_plan signs budget name mutants tests next) rest old new
        (λ end ends. inr (
          m,
          read.module_is,
          inr (
            read.full,
            read.mutants_are,
            inr (suite, read.tests_are, ends_later files Faulty (λ name. ⊥) (λ name none. absurd none) rest end ends),
          ),
        )) r h

-- ---- the file that wasn't taken

module _ (signs : List PortSign) (budget : ℕ) (name mutants tests : Text) (counts : Counts) where
  abbrev unread : Plan
  unread = unread_plan signs budget name mutants tests

  abbrev Raised : (List ℕ → ℕ) → (List ℕ → ℕ) → List ℕ → Type 0
  Raised old new name = Rose (old name) (new name)

  pub no_module_page : (files : Files) (old new : List ℕ → ℕ) (s : Stop)
      → Fails files name (Rose (old name) (new name)) input.Module (module_file.IsRefused signs) s
      → Found files (λ name. Rose (old name) (new name)) unread counts counts (Err s)
  no_module_page files old new s h =
      fails_found files (Raised old new) name input.Module (module_file.IsRefused signs) Loaded (module_file.IsAccepted signs)
      (λ m. list_plan signs budget m mutants tests (nothing m)) counts counts s (stay counts) h

  pub no_list_page : (files mid : Files) (old later new : List ℕ → ℕ) (m : Loaded) (s : Stop) → mid ≡ files
      → ((name : List ℕ) → old name ≤ later name) → Reads files name (λ file. module_file.IsAccepted signs file m)
      → Fails mid mutants (Rose (later mutants) (new mutants)) input.Mutants (mutants_file.AreRefused signs m) s
      → Found files (λ name. Rose (old name) (new name)) unread counts counts (Err s)
  no_list_page files mid old later new m s same le reads h =
      next_found files mid (Raised old new) (Raised later new) name input.Module (module_file.IsRefused signs) Loaded (module_file.IsAccepted signs)
      (λ m. list_plan signs budget m mutants tests (nothing m)) counts counts m (Err s) same (rose_later old later new le) reads
      (fails_found mid (Raised later new) mutants input.Mutants (mutants_file.AreRefused signs m) FullList (IsFullList signs m)
      (λ full. tests_plan budget m tests (nothing m full)) counts counts s (stay counts) h)

  pub no_tests_page : (files mid more : Files) (old later last new : List ℕ → ℕ) (m : Loaded) (full : FullList) (s : Stop) → mid ≡ files → more ≡ mid
      → ((name : List ℕ) → old name ≤ later name) → ((name : List ℕ) → later name ≤ last name)
      → Reads files name (λ file. module_file.IsAccepted signs file m) → Reads mid mutants (λ file. IsFullList signs m file full)
      → Fails more tests (Rose (last tests) (new tests)) input.Tests (tests_file.AreRefused m.code budget) s
      → Found files (λ name. Rose (old name) (new name)) unread counts counts (Err s)
  no_tests_page files mid more old later last new m full s same still le lt reads gives h =
      next_found files mid (Raised old new) (Raised later new) name input.Module (module_file.IsRefused signs) Loaded (module_file.IsAccepted signs)
      (λ m. list_plan signs budget m mutants tests (nothing m)) counts counts m (Err s) same (rose_later old later new le) reads
      (next_found mid more (Raised later new) (Raised last new) mutants input.Mutants (mutants_file.AreRefused signs m) FullList
      (IsFullList signs m) (λ full. tests_plan budget m tests (nothing m full)) counts counts full (Err s) still
      (rose_later later last new lt) gives
      (fails_found more (Raised last new) tests input.Tests (tests_file.AreRefused m.code budget) Suite (tests_file.AreTests m.code budget)
      (nothing m full) counts counts s (stay counts) h))

-- ---- replacements with their texts

module _ (texts : List Text) (rows : List MutantRow) (all start : List Listed) (k : ℕ) where
  pub listed_turn : (more : List Listed) (x : Listed) (d : MutantRow) → k < length rows → all ++ listed_from (drop k rows) texts k ≡ start
      → more ≡ all ++ x ∷ [] → x ≡ listed_at (get_or rows k d) texts k → more ++ listed_from (drop (k + 1) rows) texts (k + 1) ≡ start
  listed_turn more x d h so_far is at =
      let rest = listed_from (drop (k + 1) rows) texts (k + 1) in
      ap (λ t. t ++ rest) is ∙ append_assoc all (x ∷ []) rest ∙ ap (λ y. all ++ y ∷ rest) at
      ∙ ap (λ rs. all ++ listed_from rs texts k) (sym (drop_more rows k d h)) ∙ so_far

  pub all_listed : length rows ≤ k → all ++ listed_from (drop k rows) texts k ≡ start → all ≡ start
  all_listed h so_far = sym (append-nil all) ∙ ap (λ rs. all ++ listed_from rs texts k) (sym (drop_all k rows h)) ∙ so_far

-- ---- behind the files

-- the page of what was found
pub is_page : (code : Code) (table : Table) (answers : Answers) (suite : Suite) (lines : List Line) (rows : List MutantRow) (texts others : List Text)
    (done : Done) (text : Text) → AreDone code table answers suite.tests done → texts ≡ others
    → text ≡ page_text suite done.matrix done.works.items lines (listed_from rows texts 0)
    → IsPage code table answers suite lines (listed_from rows others 0) text
is_page code table answers suite lines rows texts others done text d same is = record {
  grid = done.matrix;
  mutants = d.mutants;
  letters = d.letters;
  is_text = is ∙ ap (λ (works : List Work). page_text suite done.matrix works lines (listed_from rows texts 0)) d.works
      ∙ ap (λ (ts : List Text). page_text suite done.matrix (works_of code table answers suite.tests) lines (listed_from rows ts 0)) same;
}

module _ (files : Files) (answers : Answers) (m : Loaded) (full : FullList) (suite : Suite) (list : MutantList)
    (is_list : IsListOf m.code full.all list) (old new : ℕ) (before after : List ℕ) where
  abbrev steps : ℕ
  steps = suite_steps m.code list.variants answers suite.tests

  abbrev asks : ℕ → ℕ
  asks = suite_asks m.code list.variants answers suite.tests

  pub page_is_found : (text : List ℕ)
      → IsPage m.code list.variants answers suite (lines_of m.module.items) (listed_from list.rows full.texts 0) text
      → new ≡ old + steps → AskedBy before after asks
      → Found files (λ name. ⊥) (page_end answers m full suite) (counts_of old (asked_in before)) (counts_of new (asked_in after)) (Ok text)
  page_is_found text is e h =
      (counts_of steps asks, ((list, is_list, is), (list, is_list, refl)), rises_by old new before after steps asks e h)

  pub no_page : IsBetween old new (old + steps) → AskedAtMostBy before after asks
      → Found files (λ name. ⊥) (page_end answers m full suite) (counts_of old (asked_in before)) (counts_of new (asked_in after))
      (Err stop.OutOfMemory)
  no_page b h = RunsOut.behind (counts_of steps asks) (list, is_list, refl) (rises_within old new before after steps asks b h)
