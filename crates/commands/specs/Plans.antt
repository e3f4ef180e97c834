-- The plan of each command.
use Rattle.std.specs.Prelude.{◌≡◌, ℕ, Bool, List, [], codes, length, nat_le}
use Rattle.am_base.specs.declared.limits.TheConstants.{DEFAULT_BUDGET, MAX_LISTED_MUTANTS}
use Rattle.code_form.specs.declared.sign.PortSign.{PortSign}
use Rattle.ports.specs.Asks.{answers_in}
use Rattle.machine_form.specs.Calls.{Answers}
use Rattle.ir_tokens.specs.Bytes.{Text}
use Rattle.mutant_records.specs.declared.list.Made.{Made}
use Rattle.test_suite.specs.declared.suite.Suite.{Suite}
use Rattle.test_suite.specs.declared.suite.Test.{Test}
use Rattle.refused_lines.specs.Refusals.{no_mutant_line, no_test_line}
use Rattle.suite_analysis.specs.declared.show.Show.{Show}
use Rattle.suite_analysis.specs.declared.show.Show.TheVariants.{Summary}
use Rattle.command_texts.specs.Accepted.{accepted_text}
use Rattle.command_plan.specs.declared.status.Input.TheVariants as input
use Rattle.command_plan.specs.Plan.{Counts, no_counts, Plan, Read, Want, Bound, Over, Write}
use Rattle.command_files.specs.declared.module.Loaded.{Loaded}
use Rattle.command_files.specs.Modules as module_file
use Rattle.command_files.specs.Mutants as mutants_file
use Rattle.command_files.specs.Tests as tests_file
use Rattle.commands.specs.declared.wanted.Point.{Point}
use Rattle.commands.specs.declared.wanted.Wanted.{Wanted}
use Rattle.commands.specs.Alone.{IsRunText, IsRunRise, mutant_numbered, test_numbered}
use Rattle.commands.specs.Groups.{AreGroups, IsGroupsRise}
use Rattle.commands.specs.Run.{IsReportText, IsReportRise}
use Rattle.mutant_maker.specs.Lists.{made, list_text}
use Rattle.workload.specs.Workload.{workload_file}

-- `check`: the module, and what it has
abbrev pub check_plan : List PortSign → Text → Plan
check_plan signs name =
    Read name input.Module (module_file.IsRefused signs) Loaded (module_file.IsAccepted signs)
    (λ m. Write (λ text. text ≡ accepted_text m.module.items) (λ counts. counts ≡ no_counts))

-- `make`: the module, and the list of the mutants that the makers make of it, unless they are too many
-- at most as many mutants are made as a list may have
abbrev pub is_listable : Loaded → Bool
is_listable m = nat_le (length (made m.module m.code)) MAX_LISTED_MUTANTS

-- the list of the made mutants is due
abbrev pub list_plan : Loaded → Plan
list_plan m = Write (λ text. text ≡ list_text (made m.module m.code)) (λ counts. counts ≡ no_counts)

abbrev pub make_end : Loaded → Plan
make_end m = Bound (is_listable m) (list_plan m)

abbrev pub make_plan : List PortSign → Text → Plan
make_plan signs name = Read name input.Module (module_file.IsRefused signs) Loaded (module_file.IsAccepted signs) make_end

-- ---- three files in their order

-- the test suite of this name, and then what follows
abbrev pub tests_plan : ℕ → Loaded → Text → (Suite → Plan) → Plan
tests_plan budget m tests next = Read tests input.Tests (tests_file.AreRefused m.code budget) Suite (tests_file.AreTests m.code budget) next

-- the list of mutants of the first name before it
abbrev pub mutants_plan : List PortSign → ℕ → Loaded → Text → Text → (List Made → Suite → Plan) → Plan
mutants_plan signs budget m mutants tests next =
    Read mutants input.Mutants (mutants_file.AreRefused signs m) (List Made) (mutants_file.AreMutants signs m) (λ all. tests_plan budget m tests (next all))

-- and the module of the first name before both
abbrev pub files_plan : List PortSign → ℕ → Text → Text → Text → (Loaded → List Made → Suite → Plan) → Plan
files_plan signs budget name mutants tests next =
    Read name input.Module (module_file.IsRefused signs) Loaded (module_file.IsAccepted signs)
    (λ m. mutants_plan signs budget m mutants tests (next m))

-- with nothing behind them: no text is due
abbrev pub unread_plan : List PortSign → ℕ → Text → Text → Text → Plan
unread_plan signs budget name mutants tests =
    files_plan signs budget name mutants tests (λ m all suite. Write (λ text. ⊥) (λ counts. ⊥))

-- ---- what follows

-- what is shown of the report
abbrev pub run_end : Answers → Show → Loaded → List Made → Suite → Plan
run_end answers show m all suite = Write (IsReportText m.code all answers show suite) (IsReportRise m.code all answers suite)

-- the wanted mutant, the wanted test, and the run of the one on the other
abbrev pub alone_end : Answers → Wanted → Loaded → List Made → Suite → Plan
alone_end answers w m all suite =
    Want input.Mutants (no_mutant_line w.mutant) ℕ (mutant_numbered all w.mutant)
    (λ mutant. Want input.Tests (no_test_line w.test) Test (test_numbered suite.tests w.test)
    (λ t. Write (IsRunText m.code all answers mutant t) (IsRunRise m.code all answers mutant t)))

-- the wanted test, and the groups at a step of it
abbrev pub groups_end : Answers → Point → Loaded → List Made → Suite → Plan
groups_end answers p m all suite =
    Want input.Tests (no_test_line p.test) Test (test_numbered suite.tests p.test)
    (λ t. Write (AreGroups m.code all answers p.step t) (IsGroupsRise m.code all answers p.step t))

-- ---- the commands over three files

-- `run`
abbrev pub run_plan : List PortSign → Answers → ℕ → Text → Text → Text → Show → Plan
run_plan signs answers budget name mutants tests show = files_plan signs budget name mutants tests (run_end answers show)

-- `alone`
abbrev pub alone_plan : List PortSign → Answers → ℕ → Text → Text → Text → Wanted → Plan
alone_plan signs answers budget name mutants tests wanted = files_plan signs budget name mutants tests (alone_end answers wanted)

-- `groups`
abbrev pub groups_plan : List PortSign → Answers → ℕ → Text → Text → Text → Point → Plan
groups_plan signs answers budget name mutants tests point = files_plan signs budget name mutants tests (groups_end answers point)

-- `load`: the summary of a run without ports over the files of the workload of this number, and over these alone
abbrev pub load_plan : ℕ → Plan
load_plan number =
    Over (workload_file number) (run_plan [] (answers_in []) DEFAULT_BUDGET (codes "module") (codes "mutants") (codes "tests") (Summary number))
