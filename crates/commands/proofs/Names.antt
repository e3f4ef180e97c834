-- Each command reads the files of its names alone.
use Rattle.std.proofs.Common.{ℕ, Bool, true, false, List, [], ◌∷◌, Option, Some, None}
use Rattle.std.specs.List.{Contains}
use Rattle.code_form.specs.declared.sign.PortSign.{PortSign}
use Rattle.traces.proofs.Lists.{contains_here, contains_there}
use Rattle.machine_form.specs.Calls.{Answers}
use Rattle.ir_tokens.specs.Bytes.{Text}
use Rattle.mutant_records.specs.declared.list.Made.{Made}
use Rattle.test_suite.specs.declared.suite.Suite.{Suite}
use Rattle.test_suite.specs.declared.suite.Test.{Test}
use Rattle.refused_lines.specs.Refusals.{no_mutant_line, no_test_line}
use Rattle.suite_analysis.specs.declared.show.Show.{Show}
use Rattle.command_plan.specs.declared.status.Input.{Input}
use Rattle.command_plan.specs.declared.status.Input.TheVariants as input
use Rattle.command_plan.specs.Plan.{Plan, Want, Bound, Write}
use Rattle.command_plan.specs.Sharp.{AreNames}
use Rattle.command_files.specs.declared.module.Loaded.{Loaded}
use Rattle.commands.specs.declared.wanted.Point.{Point}
use Rattle.commands.specs.declared.wanted.Wanted.{Wanted}
use Rattle.commands.specs.Alone.{IsRunText, IsRunRise, mutant_numbered, test_numbered}
use Rattle.commands.specs.Groups.{AreGroups, IsGroupsRise}
use Rattle.commands.specs.Plans.{check_plan, make_plan, is_listable, list_plan, files_plan, run_plan, run_end, alone_plan, alone_end, groups_plan, groups_end, load_plan}

pub check_named : (signs : List PortSign) (name : Text) → AreNames (name ∷ []) (check_plan signs name)
check_named signs name = (contains_here name [], λ m. tt)

bound_named : (names : List Text) (within : Bool) (next : Plan) → AreNames names next → AreNames names (Bound within next)
bound_named names false next h = tt
bound_named names true next h = h

pub make_named : (signs : List PortSign) (name : Text) → AreNames (name ∷ []) (make_plan signs name)
make_named signs name = (contains_here name [], λ m. bound_named (name ∷ []) (is_listable m) (list_plan m) (tt {0}))

abbrev names_of : Text → Text → Text → List Text
names_of name mutants tests = name ∷ mutants ∷ tests ∷ []

-- a plan over three files reads these alone where what follows does
files_named : (signs : List PortSign) (budget : ℕ) (name mutants tests : Text) (next : Loaded → List Made → Suite → Plan)
    → ((m : Loaded) (all : List Made) (suite : Suite) → AreNames (names_of name mutants tests) (next m all suite))
    → AreNames (names_of name mutants tests) (files_plan signs budget name mutants tests next)
files_named signs budget name mutants tests next h =
    let second : Contains (names_of name mutants tests) mutants = contains_there name mutants (mutants ∷ tests ∷ []) (contains_here mutants (tests ∷ [])) in
    let third : Contains (names_of name mutants tests) tests =
    contains_there name tests (mutants ∷ tests ∷ []) (contains_there mutants tests (tests ∷ []) (contains_here tests [])) in
    (contains_here name (mutants ∷ tests ∷ []), λ m. (second, λ all. (third, λ suite. h m all suite)))

wanted_named : (names : List Text) (input : Input) (line : Text) (A : Type 0) (o : Option A) (next : A → Plan) → ((x : A) → AreNames names (next x))
    → AreNames names (Want input line A o next)
wanted_named names input line A None next h = tt
wanted_named names input line A (Some x) next h = h x

alone_end_named : (names : List Text) (answers : Answers) (w : Wanted) (m : Loaded) (all : List Made) (suite : Suite)
    → AreNames names (alone_end answers w m all suite)
alone_end_named names answers w m all suite =
    let end : ℕ → Test → Plan = λ mutant t. Write (IsRunText m.code all answers mutant t) (IsRunRise m.code all answers mutant t) in
    let tests : ℕ → Plan = λ mutant. Want input.Tests (no_test_line w.test) Test (test_numbered suite.tests w.test) (end mutant) in
    wanted_named names input.Mutants (no_mutant_line w.mutant) ℕ (mutant_numbered all w.mutant) tests
    (λ mutant. wanted_named names input.Tests (no_test_line w.test) Test (test_numbered suite.tests w.test) (end mutant) (λ t. tt))

groups_end_named : (names : List Text) (answers : Answers) (p : Point) (m : Loaded) (all : List Made) (suite : Suite)
    → AreNames names (groups_end answers p m all suite)
groups_end_named names answers p m all suite =
    wanted_named names input.Tests (no_test_line p.test) Test (test_numbered suite.tests p.test)
    (λ t. Write (AreGroups m.code all answers p.step t) (IsGroupsRise m.code all answers p.step t)) (λ t. tt)

pub run_named : (signs : List PortSign) (answers : Answers) (budget : ℕ) (name mutants tests : Text) (show : Show)
    → AreNames (name ∷ mutants ∷ tests ∷ []) (run_plan signs answers budget name mutants tests show)
run_named signs answers budget name mutants tests show =
    files_named signs budget name mutants tests (run_end answers show) (λ m all suite. tt)

pub alone_named : (signs : List PortSign) (answers : Answers) (budget : ℕ) (name mutants tests : Text) (w : Wanted)
    → AreNames (name ∷ mutants ∷ tests ∷ []) (alone_plan signs answers budget name mutants tests w)
alone_named signs answers budget name mutants tests w =
    files_named signs budget name mutants tests (alone_end answers w) (alone_end_named (name ∷ mutants ∷ tests ∷ []) answers w)

pub groups_named : (signs : List PortSign) (answers : Answers) (budget : ℕ) (name mutants tests : Text) (p : Point)
    → AreNames (name ∷ mutants ∷ tests ∷ []) (groups_plan signs answers budget name mutants tests p)
groups_named signs answers budget name mutants tests p =
    files_named signs budget name mutants tests (groups_end answers p) (groups_end_named (name ∷ mutants ∷ tests ∷ []) answers p)

pub load_named : (number : ℕ) → AreNames [] (load_plan number)
load_named number = tt
