-- What contracts see of a call, and what it says.
--     Devices      what is seen of the shelf, the sink, the ports and the meter at one moment
--     counts_in    the steps on the meter and the asks of each port
--     FileRose     the count of faults of a name rose in the call, and SinkRose that of the sink
--     IsIdle       nothing was written or counted
--     IsAnswerTo   what each status says of a command, by the table of answers over its plan
--     IsCall       what a call says that asks for a command, or for none
use Rattle.std.specs.Prelude.{◌≡◌, ◌↔◌, ℕ, ◌≤◌, List, Option, Some, None}
use Rattle.am_base.specs.Cause.{Rose}
use Rattle.am_base.specs.Files.{Files}
use Rattle.am_base.specs.Text.{Written}
use Rattle.ports.specs.Asks.{asked_in}
use Rattle.flat_machine.specs.Shown.{Outside}
use Rattle.command_words.specs.Words.{Text}
use Rattle.command_words.specs.declared.command.Command.{Command}
use Rattle.command_words.specs.declared.command.Command.TheVariants.{Load}
use Rattle.command_plan.specs.declared.status.Status.{Status}
use Rattle.command_plan.specs.declared.status.Status.TheVariants as status
use Rattle.command_plan.specs.Answer.{IsAnswer, Stay}
use Rattle.command_plan.specs.Plan.{Counts}
use Rattle.commands.specs.Alone.{counts_of}
use Rattle.accmut_app.specs.Commands.{plan_of}

pub record Devices : Type 0 where
  -- the bytes of each file and what was written, where they are told
  pub files : Files
  pub written : Written
  -- the counts of faults of each name and of the sink
  pub faults : List ℕ → ℕ
  pub sink_faults : ℕ
  pub ports : Outside
  pub steps : ℕ

abbrev pub counts_in : Devices → Counts
counts_in d = counts_of d.steps (asked_in d.ports.asked)

abbrev pub FileRose : Devices → Devices → List ℕ → Type 0
FileRose before after name = Rose (before.faults name) (after.faults name)

abbrev pub SinkRose : Devices → Devices → Type 0
SinkRose before after = Rose before.sink_faults after.sink_faults

pub record IsIdle (before after : Devices) : Type 0 where
  pub written : after.written ≡ before.written
  pub counts : Stay (counts_in before) (counts_in after)
  pub faults : (name : List ℕ) → after.faults name ≡ before.faults name
  pub sink_faults : after.sink_faults ≡ before.sink_faults

abbrev pub IsAnswerTo : Command Text → Devices → Devices → Status → Type 0
IsAnswerTo c before after s =
    IsAnswer before.files (FileRose before after) (plan_of before.ports.signs before.ports.answers c)
    (counts_in before) (counts_in after) before.written after.written (SinkRose before after) s

pub record IsCall (asked : Option (Command Text)) (before after : Devices) (s : Status) : Type 0 where
  -- wrong use is answered where no command is asked for, and then alone; nothing happens
  pub usage : (s ≡ status.Usage) ↔ (asked ≡ None)
  pub idle : asked ≡ None → IsIdle before after
  -- what each other status says
  pub answer : (c : Command Text) → asked ≡ Some c → IsAnswerTo c before after s
  -- `load` asks no port
  pub unasked : (number : ℕ) → asked ≡ Some (Load number) → (port : ℕ) → asked_in after.ports.asked port ≡ asked_in before.ports.asked port
  -- whatever is answered: the ports are as they were but for their asks, the files stay, and no count of faults falls
  pub signs : after.ports.signs ≡ before.ports.signs
  pub answers : after.ports.answers ≡ before.ports.answers
  pub kept : after.files ≡ before.files
  pub counts : (name : List ℕ) → before.faults name ≤ after.faults name
  pub sink_counts : before.sink_faults ≤ after.sink_faults
