-- From what was found with copies of the signs, and how it was written, to the table of answers.
use Rattle.std.proofs.Common.{◌≡◌, ℕ, List, Option, Result, subst, sym}
use Rattle.am_base.specs.Files.{Files}
use Rattle.am_base.specs.Text.{Written}
use Rattle.code_form.specs.declared.sign.PortSign.{PortSign}
use Rattle.command_words.specs.Words.{Text}
use Rattle.command_words.specs.declared.command.Command.{Command}
use Rattle.command_plan.specs.declared.status.Status.{Status}
use Rattle.command_plan.specs.declared.stop.Stop.{Stop}
use Rattle.command_plan.specs.Plan.{Counts, Plan}
use Rattle.command_plan.specs.Answer.{Found, IsAnswer, WritesFound}
use Rattle.command_plan.proofs.Answers.{answer}
use Rattle.accmut_app.specs.Commands.{plan_of}

pub answered : (files : Files) (Faulty : List ℕ → Type 0) (plan : List PortSign → Plan) (copies signs : List PortSign) (old new : Counts)
    (before after : Written) (SinkRose : Type 0) (r : Result (List ℕ) Stop) (s : Status) → copies ≡ signs → Found files Faulty (plan copies) old new r
    → WritesFound r before after SinkRose s → IsAnswer files Faulty (plan signs) old new before after SinkRose s
answered files Faulty plan copies signs old new before after SinkRose r s e found writes =
    subst (λ signs. IsAnswer files Faulty (plan signs) old new before after SinkRose s) e
    (answer files Faulty (plan copies) old new before after SinkRose r s found writes)

-- the same for two names of one command
pub of_command : (files : Files) (Faulty : List ℕ → Type 0) (signs : List PortSign) (answers : List (List ℕ → Option ℕ)) (old new : Counts)
    (before after : Written) (SinkRose : Type 0) (s : Status) (k m : Command Text) → k ≡ m
    → IsAnswer files Faulty (plan_of signs answers m) old new before after SinkRose s
    → IsAnswer files Faulty (plan_of signs answers k) old new before after SinkRose s
of_command files Faulty signs answers old new before after SinkRose s k m e h =
    subst (λ k. IsAnswer files Faulty (plan_of signs answers k) old new before after SinkRose s) (sym e) h
