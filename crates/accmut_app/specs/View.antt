-- What a call says that asks for something to look at.
--     view_plan_of signs answers c   the plan of what is asked for, with ports of these signs that answer so
--     view_names_of o                the names of the files that it reads, in their order
--     IsViewCall                     what a call says
use Rattle.std.specs.Prelude.{◌≡◌, ◌↔◌, ℕ, ◌≤◌, List, [], ◌∷◌, Option, Some, None}
use Rattle.am_base.specs.declared.limits.TheConstants.{DEFAULT_BUDGET}
use Rattle.code_form.specs.declared.sign.PortSign.{PortSign}
use Rattle.ports.specs.Asks.{answers_in}
use Rattle.command_words.specs.Words.{Text}
use Rattle.command_plan.specs.Answer.{IsAnswer}
use Rattle.command_plan.specs.Plan.{Plan}
use Rattle.command_plan.specs.declared.status.Status.{Status}
use Rattle.command_plan.specs.declared.status.Status.TheVariants as status
use Rattle.commands.specs.Number.{number_plan}
use Rattle.commands.specs.Page.{page_plan}
use Rattle.accmut_app.specs.Call.{Devices, counts_in, FileRose, SinkRose, IsIdle}
use Rattle.accmut_app.specs.Commands.{names_in}
use Rattle.accmut_app.specs.declared.view_words.ViewCommand.{ViewCommand}
use Rattle.accmut_app.specs.declared.view_words.ViewCommand.TheVariants.{Number, Page}

abbrev pub view_plan_of : List PortSign → List (List ℕ → Option ℕ) → ViewCommand Text → Plan
view_plan_of signs answers (Number name) = number_plan signs name
view_plan_of signs answers (Page files) = page_plan signs (answers_in answers) DEFAULT_BUDGET files.module files.mutants files.tests

abbrev pub view_names_of : Option (ViewCommand Text) → List Text
view_names_of None = []
view_names_of (Some (Number name)) = name ∷ []
view_names_of (Some (Page files)) = names_in files

abbrev pub IsViewAnswer : ViewCommand Text → Devices → Devices → Status → Type 0
IsViewAnswer c before after s =
    IsAnswer before.files (FileRose before after) (view_plan_of before.ports.signs before.ports.answers c)
    (counts_in before) (counts_in after) before.written after.written (SinkRose before after) s

pub record IsViewCall (asked : Option (ViewCommand Text)) (before after : Devices) (s : Status) : Type 0 where
  -- wrong use is answered where nothing is asked for, and then alone; nothing happens
  pub usage : (s ≡ status.Usage) ↔ (asked ≡ None)
  pub idle : asked ≡ None → IsIdle before after
  -- what each other status says
  pub answer : (c : ViewCommand Text) → asked ≡ Some c → IsViewAnswer c before after s
  -- whatever is answered: the ports are as they were but for their asks, the files stay, and no count of faults falls
  pub signs : after.ports.signs ≡ before.ports.signs
  pub answers : after.ports.answers ≡ before.ports.answers
  pub kept : after.files ≡ before.files
  pub counts : (name : List ℕ) → before.faults name ≤ after.faults name
  pub sink_counts : before.sink_faults ≤ after.sink_faults
