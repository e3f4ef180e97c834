-- Calls of commands that are alike but for their order.
use Rattle.std.proofs.Common.{◌≡◌, ℕ, List, Option, Some, sym, ap, subst, ◌∙◌}
use Rattle.std.specs.List.{Contains}
use Rattle.am_base.specs.Files.{Files}
use Rattle.am_base.specs.Text.{appended}
use Rattle.code_form.specs.declared.sign.PortSign.{PortSign}
use Rattle.command_words.specs.Words.{Text}
use Rattle.command_words.specs.declared.command.Command.{Command}
use Rattle.command_words.specs.declared.command.Command.TheVariants.{Run, Check, Make, Alone, Groups, Reduce, Load}
use Rattle.command_plan.specs.declared.status.Status.TheVariants.{Done}
use Rattle.command_plan.specs.Answer.{RiseBy}
use Rattle.command_plan.specs.Ends.{End, Ends, Text as Whole}
use Rattle.command_plan.specs.Plan.{Counts}
use Rattle.accmut_app.specs.Call.{Devices, FileRose, IsAnswerTo, counts_in}
use Rattle.accmut_app.specs.Commands.{names_of, plan_of}
use Rattle.accmut_laws.specs.Orders.{without_order}
use Rattle.accmut_laws.proofs.Commands.{one_done}

module _ (files : Files) (Faulty : List ℕ → Type 0) (signs : List PortSign) (answers : List (List ℕ → Option ℕ)) (end : End) where
  -- the order is no part of a plan
  bare : (c : Command Text) → Ends files Faulty (plan_of signs answers c) end → Ends files Faulty (plan_of signs answers (without_order c)) end
  bare (Check name) h = h
  bare (Make name) h = h
  bare (Run files budget order splits) h = h
  bare (Alone files mutant test budget) h = h
  bare (Groups files test step budget order) h = h
  bare (Reduce files budget order) h = h
  bare (Load number) h = h

  ordered : (c : Command Text) → Ends files Faulty (plan_of signs answers (without_order c)) end → Ends files Faulty (plan_of signs answers c) end
  ordered (Check name) h = h
  ordered (Make name) h = h
  ordered (Run files budget order splits) h = h
  ordered (Alone files mutant test budget) h = h
  ordered (Groups files test step budget order) h = h
  ordered (Reduce files budget order) h = h
  ordered (Load number) h = h

  in_other_order : (c d : Command Text) → without_order c ≡ without_order d → Ends files Faulty (plan_of signs answers d) end
      → Ends files Faulty (plan_of signs answers c) end
  in_other_order c d alike h = ordered c (subst (λ k. Ends files Faulty (plan_of signs answers k) end) (sym alike) (bare d h))

module _ (c d : Command Text) (before after again later : Devices) (held other : List ℕ → Option (List ℕ)) (alike : without_order c ≡ without_order d)
    (told : before.files ≡ Some held) (also_told : again.files ≡ Some other) (agreed : (name : List ℕ) → Contains (names_of c) name → held name ≡ other name)
    (signs : again.ports.signs ≡ before.ports.signs) (answers : again.ports.answers ≡ before.ports.answers)
    (first : IsAnswerTo c before after Done) (second : IsAnswerTo d again later Done) where
  pub one_call : (first.text ≡ second.text) × (first.counts ≡ second.counts)
  one_call =
      let Here : List ℕ → Type 0 = FileRose before after in
      let There : List ℕ → Type 0 = FileRose again later in
      let ends = subst (λ files. Ends files Here (plan_of before.ports.signs before.ports.answers c) (Whole first.text first.counts)) told first.ends in
      let over = subst (λ files. Ends files There (plan_of again.ports.signs again.ports.answers d) (Whole second.text second.counts)) also_told second.ends in
      let signed = subst (λ signs. Ends (Some other) There (plan_of signs again.ports.answers d) (Whole second.text second.counts)) signs over in
      let same = subst (λ answers. Ends (Some other) There (plan_of before.ports.signs answers d) (Whole second.text second.counts)) answers signed in
      one_done before.ports.signs before.ports.answers c held other agreed Here There first.text second.text first.counts second.counts ends
      (in_other_order (Some other) There before.ports.signs before.ports.answers (Whole second.text second.counts) c d alike same)

  pub same_text : (text : List ℕ) × (after.written ≡ appended before.written text) × (later.written ≡ appended again.written text)
  same_text = (first.text, first.written, second.written ∙ ap (appended again.written) (sym one_call.0))

  pub same_rise : (counts : Counts) × RiseBy (counts_in before) (counts_in after) counts × RiseBy (counts_in again) (counts_in later) counts
  same_rise = (first.counts, first.rise, subst (RiseBy (counts_in again) (counts_in later)) (sym one_call.1) second.rise)
