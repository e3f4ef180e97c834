-- What the words of a command line ask for.
--     is_among names name       one of the names is this one
--     asked_for names words     the command that the words are, where the picker that it wants is among those with these names. None is a wrong use.
--     steps_of budget           the budget of a test that states none
--     plan_of signs answers c   the plan of a command, with ports of these signs that answer so
--     names_of c                the names of the files that a command reads, in their order
--     names_asked o             the same, and none where no command is asked for
use Rattle.std.specs.Prelude.{ℕ, List, [], ◌∷◌, Bool, true, false, ◌||◌, if◌then◌else◌, Option, Some, None, unwrap_or}
use Rattle.std.specs.Str.{bytes_eq}
use Rattle.am_base.specs.declared.limits.TheConstants.{DEFAULT_BUDGET}
use Rattle.code_form.specs.declared.sign.PortSign.{PortSign}
use Rattle.ports.specs.Asks.{answers_in}
use Rattle.command_words.specs.Words.{Text, command_of, wanted}
use Rattle.command_words.specs.declared.command.Command.{Command}
use Rattle.command_words.specs.declared.command.Command.TheVariants.{Run, Check, Make, Alone, Groups, Reduce, Load}
use Rattle.command_words.specs.declared.command.Files.{Files}
use Rattle.command_plan.specs.Plan.{Plan}
use Rattle.suite_analysis.specs.declared.show.Show.TheVariants.{Report, Reduced}
use Rattle.commands.specs.Plans.{check_plan, make_plan, alone_plan, run_plan, groups_plan, load_plan}

abbrev pub is_among : List Text → Text → Bool
is_among [] name = false
is_among (first ∷ names) name = bytes_eq first name || is_among names name

-- the picker that a command wants is among those with these names, or it wants none
abbrev pub has_picker : List Text → Option Text → Bool
has_picker names None = true
has_picker names (Some name) = is_among names name

abbrev pub with_picker : List Text → Option (Command Text) → Option (Command Text)
with_picker names None = None
with_picker names (Some c) = if has_picker names (wanted c) then Some c else None

abbrev pub asked_for : List Text → List Text → Option (Command Text)
asked_for names words = with_picker names (command_of words)

abbrev pub steps_of : Option ℕ → ℕ
steps_of budget = unwrap_or budget DEFAULT_BUDGET

abbrev pub plan_of : List PortSign → List (List ℕ → Option ℕ) → Command Text → Plan
plan_of signs answers (Check name) = check_plan signs name
plan_of signs answers (Make name) = make_plan signs name
plan_of signs answers (Run files budget order splits) =
    run_plan signs (answers_in answers) (steps_of budget) files.module files.mutants files.tests (Report splits)
plan_of signs answers (Alone files mutant test budget) =
    alone_plan signs (answers_in answers) (steps_of budget) files.module files.mutants files.tests
    (record { mutant = mutant; test = test })
plan_of signs answers (Groups files test step budget order) =
    groups_plan signs (answers_in answers) (steps_of budget) files.module files.mutants files.tests
    (record { test = test; step = step })
plan_of signs answers (Reduce files budget order) =
    run_plan signs (answers_in answers) (steps_of budget) files.module files.mutants files.tests Reduced
plan_of signs answers (Load number) = load_plan number

abbrev pub names_in : Files Text → List Text
names_in files = files.module ∷ files.mutants ∷ files.tests ∷ []

abbrev pub names_of : Command Text → List Text
names_of (Check name) = name ∷ []
names_of (Make name) = name ∷ []
names_of (Run files budget order splits) = names_in files
names_of (Alone files mutant test budget) = names_in files
names_of (Groups files test step budget order) = names_in files
names_of (Reduce files budget order) = names_in files
names_of (Load number) = []

abbrev pub names_asked : Option (Command Text) → List Text
names_asked None = []
names_asked (Some c) = names_of c
