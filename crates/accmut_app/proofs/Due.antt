-- The status of a command is the one that the bytes of its files ask for.
use Rattle.std.proofs.Common.{◌≡◌, ◌⊎◌, ℕ, List, Option, Some, None, subst}
use Rattle.std.specs.List.{Contains}
use Rattle.am_base.specs.Files.{Files}
use Rattle.am_base.specs.Text.{Written}
use Rattle.code_form.specs.declared.sign.PortSign.{PortSign}
use Rattle.ports.specs.Asks.{answers_in}
use Rattle.suite_analysis.specs.declared.show.Show.TheVariants.{Report, Reduced}
use Rattle.command_words.specs.Words.{Text}
use Rattle.command_words.specs.declared.command.Command.{Command}
use Rattle.command_words.specs.declared.command.Command.TheVariants.{Run, Check, Make, Alone, Groups, Reduce, Load}
use Rattle.command_plan.specs.declared.status.Status.{Status}
use Rattle.command_plan.specs.declared.status.Status.TheVariants as status
use Rattle.command_plan.specs.Plan.{Counts}
use Rattle.command_plan.specs.Ends.{End, status_of}
use Rattle.command_plan.specs.Answer.{IsAnswer}
use Rattle.command_plan.specs.Sharp.{IsSharp, AreNames, IsDueEnd}
use Rattle.command_plan.proofs.Due.{due}
use Rattle.commands.proofs.Sharp.{check_sharp, make_sharp, run_sharp, alone_sharp, groups_sharp, load_sharp}
use Rattle.commands.proofs.Names.{check_named, make_named, run_named, alone_named, groups_named, load_named}
use Rattle.accmut_app.specs.Commands.{plan_of, names_of, steps_of}

module _ (signs : List PortSign) (answers : List (List ℕ → Option ℕ)) where
  pub plan_sharp : (c : Command Text) → IsSharp (plan_of signs answers c)
  plan_sharp (Check name) = check_sharp signs name
  plan_sharp (Make name) = make_sharp signs name
  plan_sharp (Run files budget order splits) =
      run_sharp signs (answers_in answers) (steps_of budget) files.module files.mutants files.tests (Report splits)
  plan_sharp (Alone files mutant test budget) =
      alone_sharp signs (answers_in answers) (steps_of budget) files.module files.mutants files.tests (record { mutant = mutant; test = test })
  plan_sharp (Groups files test step budget order) =
      groups_sharp signs (answers_in answers) (steps_of budget) files.module files.mutants files.tests (record { test = test; step = step })
  plan_sharp (Reduce files budget order) =
      run_sharp signs (answers_in answers) (steps_of budget) files.module files.mutants files.tests Reduced
  plan_sharp (Load number) = load_sharp number

  pub plan_named : (c : Command Text) → AreNames (names_of c) (plan_of signs answers c)
  plan_named (Check name) = check_named signs name
  plan_named (Make name) = make_named signs name
  plan_named (Run files budget order splits) =
      run_named signs (answers_in answers) (steps_of budget) files.module files.mutants files.tests (Report splits)
  plan_named (Alone files mutant test budget) =
      alone_named signs (answers_in answers) (steps_of budget) files.module files.mutants files.tests (record { mutant = mutant; test = test })
  plan_named (Groups files test step budget order) =
      groups_named signs (answers_in answers) (steps_of budget) files.module files.mutants files.tests (record { test = test; step = step })
  plan_named (Reduce files budget order) =
      run_named signs (answers_in answers) (steps_of budget) files.module files.mutants files.tests Reduced
  plan_named (Load number) = load_named number

  pub status_due : (c : Command Text) (held : List ℕ → Option (List ℕ)) (files : Files) (Faulty : List ℕ → Type 0) (old new : Counts)
      (before after : Written) (SinkRose : Type 0) (end : End) (s : Status) → files ≡ Some held
      → ((name : List ℕ) → Contains (names_of c) name → Faulty name → held name ≡ None) → (SinkRose → ⊥) → IsDueEnd held (plan_of signs answers c) end
      → IsAnswer files Faulty (plan_of signs answers c) old new before after SinkRose s → (s ≡ status_of end) ⊎ (s ≡ status.OutOfMemory)
  status_due c held files Faulty old new before after SinkRose end s told quiet still is_due answer =
      due held Faulty (names_of c) (plan_of signs answers c) old new before after SinkRose (plan_sharp c) (plan_named c) quiet still end is_due s
      (subst (λ files. IsAnswer files Faulty (plan_of signs answers c) old new before after SinkRose s) told answer)
