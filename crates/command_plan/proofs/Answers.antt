-- From what was found and how it was written to the table of answers.
use Rattle.std.proofs.Common.{ℕ, List, Result, Ok, Err, subst, sym}
use Rattle.am_base.specs.Files.{Files}
use Rattle.am_base.specs.Text.{Written}
use Rattle.command_plan.specs.declared.status.Input.{Input}
use Rattle.command_plan.specs.declared.status.Input.TheVariants as input
use Rattle.command_plan.specs.declared.status.Status.{Status}
use Rattle.command_plan.specs.declared.status.Status.TheVariants as status
use Rattle.command_plan.specs.declared.stop.Stop.{Stop}
use Rattle.command_plan.specs.declared.stop.Stop.TheVariants as stop
use Rattle.command_plan.specs.Status.{refused}
use Rattle.command_plan.specs.Plan.{Counts, Plan}
use Rattle.command_plan.specs.Ends.{Ends, Text, Refused}
use Rattle.command_plan.specs.Answer.{Found, Stay, RiseBy, IsAnswer, IsCutOff, WritesText, WritesFound}

module _ (files : Files) (Faulty : List ℕ → Type 0) (plan : Plan) (old new : Counts) (before after : Written) (SinkRose : Type 0) where
  text_answer : (text : List ℕ) (counts : Counts) (s : Status) → Ends files Faulty plan (Text text counts) → RiseBy old new counts
      → WritesText text before after SinkRose status.Done s → IsAnswer files Faulty plan old new before after SinkRose s
  text_answer text counts _ ends rise (WritesText.whole e) = record { text = text; counts = counts; ends = ends; rise = rise; written = e }
  text_answer text counts _ ends rise (WritesText.part rose prefix) = (rose, IsCutOff.in_text text counts ends rise prefix)

  line_answer : (i : Input) (line : List ℕ) (s : Status) → Ends files Faulty plan (Refused i line) → Stay old new
      → WritesText line before after SinkRose (refused i) s → IsAnswer files Faulty plan old new before after SinkRose s
  line_answer input.Module line _ ends stays (WritesText.whole e) = record { line = line; ends = ends; counts = stays; written = e }
  line_answer input.Mutants line _ ends stays (WritesText.whole e) = record { line = line; ends = ends; counts = stays; written = e }
  line_answer input.Tests line _ ends stays (WritesText.whole e) = record { line = line; ends = ends; counts = stays; written = e }
  line_answer i line _ ends stays (WritesText.part rose prefix) = (rose, IsCutOff.in_line i line ends stays prefix)

  pub answer : (r : Result (List ℕ) Stop) (s : Status) → Found files Faulty plan old new r → WritesFound r before after SinkRose s
      → IsAnswer files Faulty plan old new before after SinkRose s
  answer (Ok text) s h w = text_answer text h.0 s h.1 h.2 w
  answer (Err (stop.Refused i line)) s h w = line_answer i line s h.0 h.1 w
  answer (Err stop.Fault) s h w = subst (IsAnswer files Faulty plan old new before after SinkRose) (sym w.0) (h.0, h.1, w.1)
  answer (Err stop.TooLong) s h w = subst (IsAnswer files Faulty plan old new before after SinkRose) (sym w.0) (h.0, h.1, w.1)
  answer (Err stop.TooMany) s h w = subst (IsAnswer files Faulty plan old new before after SinkRose) (sym w.0) (h.0, h.1, w.1)
  answer (Err stop.OutOfMemory) s h w = subst (IsAnswer files Faulty plan old new before after SinkRose) (sym w.0) (h, w.1)
