use Rattle.std.proofs.Common.{◌≡◌, Some, subst, sym}
use Rattle.command_plan.specs.declared.status.Input.TheVariants as input
use Rattle.command_plan.specs.Answer.{Says}
use Rattle.command_files.specs.Modules.{IsRefused}
use Rattle.refused_lines.specs.Refusals.{unread_line}
use Rattle.command_files.proofs.Refused.{says_line}
use Rattle.command_files.proofs.module.reading_refusal.Goals as goal

pub returns : goal.returns
returns c signs =
    let text = c.args.text.now in
    let tokens = c.args.tokens.now in
    subst (Says input.Module (IsRefused signs text)) (sym c.refusal.ensures)
    (says_line input.Module (IsRefused signs text) (λ l. unread_line text tokens c.args.error ≡ Some l) c.unread_line.result
    (λ l e. IsRefused.unread tokens c.args.error c.requires.tokens c.requires.unread e) c.unread_line.ensures)
