-- Over the same files each command ends in one way.
use Rattle.std.proofs.Common.{ℕ, Bool, true, false, List, [], codes, Option, Some, None}
use Rattle.am_base.specs.declared.limits.TheConstants.{DEFAULT_BUDGET}
use Rattle.code_form.specs.declared.sign.PortSign.{PortSign}
use Rattle.ports.specs.Asks.{answers_in}
use Rattle.machine_form.specs.Calls.{Answers}
use Rattle.ir_tokens.specs.Bytes.{Text}
use Rattle.mutant_records.specs.declared.list.Made.{Made}
use Rattle.test_suite.specs.declared.suite.Suite.{Suite}
use Rattle.test_suite.specs.declared.suite.Test.{Test}
use Rattle.refused_lines.specs.Refusals.{no_mutant_line, no_test_line}
use Rattle.suite_analysis.specs.declared.show.Show.{Show}
use Rattle.suite_analysis.specs.declared.show.Show.TheVariants.{Summary}
use Rattle.command_plan.specs.declared.status.Input.{Input}
use Rattle.command_plan.specs.declared.status.Input.TheVariants as input
use Rattle.command_plan.specs.Plan.{Plan, Want, Bound, Write}
use Rattle.command_plan.specs.Sharp.{IsSharp}
use Rattle.command_files.specs.declared.module.Loaded.{Loaded}
use Rattle.command_files.proofs.OneModule.{refused-one, refused-accepted, accepted-one}
use Rattle.command_files.proofs.OneList.{mutants-refused-one, mutants-refused-read, mutants-one}
use Rattle.command_files.proofs.OneSuite.{tests-refused-one, tests-refused-read, tests-one}
use Rattle.commands.specs.declared.wanted.Point.{Point}
use Rattle.commands.specs.declared.wanted.Wanted.{Wanted}
use Rattle.commands.specs.Alone.{IsRunText, IsRunRise, mutant_numbered, test_numbered}
use Rattle.commands.specs.Groups.{AreGroups, IsGroupsRise}
use Rattle.commands.specs.Plans.{check_plan, make_plan, is_listable, list_plan, files_plan, run_plan, run_end, alone_plan, alone_end, groups_plan, groups_end, load_plan}

pub check_sharp : (signs : List PortSign) (name : Text) → IsSharp (check_plan signs name)
check_sharp signs name = (refused-one signs, refused-accepted signs, accepted-one signs, λ file m h. tt)

bound_sharp : (within : Bool) (next : Plan) → IsSharp next → IsSharp (Bound within next)
bound_sharp false next h = tt
bound_sharp true next h = h

pub make_sharp : (signs : List PortSign) (name : Text) → IsSharp (make_plan signs name)
make_sharp signs name = (refused-one signs, refused-accepted signs, accepted-one signs, λ file m h. bound_sharp (is_listable m) (list_plan m) (tt {0}))

-- a plan over three files is sharp where what follows is
files_sharp : (signs : List PortSign) (budget : ℕ) (name mutants tests : Text) (next : Loaded → List Made → Suite → Plan)
    → ((m : Loaded) (all : List Made) (suite : Suite) → IsSharp (next m all suite)) → IsSharp (files_plan signs budget name mutants tests next)
files_sharp signs budget name mutants tests next h = (
  refused-one signs,
  refused-accepted signs,
  accepted-one signs,
  λ file m accepted. (
    mutants-refused-one signs m,
    mutants-refused-read signs m,
    mutants-one signs m,
    λ file all are. (tests-refused-one m.code budget, tests-refused-read m.code budget, tests-one m.code budget, λ file suite read. h m all suite),
  ),
)

wanted_sharp : (input : Input) (line : Text) (A : Type 0) (o : Option A) (next : A → Plan) → ((x : A) → IsSharp (next x))
    → IsSharp (Want input line A o next)
wanted_sharp input line A None next h = tt
wanted_sharp input line A (Some x) next h = h x

alone_end_sharp : (answers : Answers) (w : Wanted) (m : Loaded) (all : List Made) (suite : Suite) → IsSharp (alone_end answers w m all suite)
alone_end_sharp answers w m all suite =
    let end : ℕ → Test → Plan = λ mutant t. Write (IsRunText m.code all answers mutant t) (IsRunRise m.code all answers mutant t) in
    let tests : ℕ → Plan = λ mutant. Want input.Tests (no_test_line w.test) Test (test_numbered suite.tests w.test) (end mutant) in
    wanted_sharp input.Mutants (no_mutant_line w.mutant) ℕ (mutant_numbered all w.mutant) tests
    (λ mutant. wanted_sharp input.Tests (no_test_line w.test) Test (test_numbered suite.tests w.test) (end mutant) (λ t. tt))

groups_end_sharp : (answers : Answers) (p : Point) (m : Loaded) (all : List Made) (suite : Suite) → IsSharp (groups_end answers p m all suite)
groups_end_sharp answers p m all suite =
    wanted_sharp input.Tests (no_test_line p.test) Test (test_numbered suite.tests p.test)
    (λ t. Write (AreGroups m.code all answers p.step t) (IsGroupsRise m.code all answers p.step t)) (λ t. tt)

pub run_sharp : (signs : List PortSign) (answers : Answers) (budget : ℕ) (name mutants tests : Text) (show : Show)
    → IsSharp (run_plan signs answers budget name mutants tests show)
run_sharp signs answers budget name mutants tests show =
    files_sharp signs budget name mutants tests (run_end answers show) (λ m all suite. tt)

pub alone_sharp : (signs : List PortSign) (answers : Answers) (budget : ℕ) (name mutants tests : Text) (w : Wanted)
    → IsSharp (alone_plan signs answers budget name mutants tests w)
alone_sharp signs answers budget name mutants tests w =
    files_sharp signs budget name mutants tests (alone_end answers w) (alone_end_sharp answers w)

pub groups_sharp : (signs : List PortSign) (answers : Answers) (budget : ℕ) (name mutants tests : Text) (p : Point)
    → IsSharp (groups_plan signs answers budget name mutants tests p)
groups_sharp signs answers budget name mutants tests p =
    files_sharp signs budget name mutants tests (groups_end answers p) (groups_end_sharp answers p)

pub load_sharp : (number : ℕ) → IsSharp (load_plan number)
load_sharp number = run_sharp [] (answers_in []) DEFAULT_BUDGET (codes "module") (codes "mutants") (codes "tests") (Summary number)
