use Rattle.std.proofs.Common.{◌≡◌, Some, subst, sym}
use Rattle.command_plan.specs.declared.status.Input.TheVariants as input
use Rattle.command_plan.specs.Answer.{Says}
use Rattle.command_files.specs.Modules.{IsRefused}
use Rattle.refused_lines.specs.Refusals.{unlexed_line}
use Rattle.command_files.proofs.Refused.{says_line}
use Rattle.command_files.proofs.module.lexical_refusal.Goals as goal

pub returns : goal.returns
returns c signs =
    let text = c.args.text.now in
    subst (Says input.Module (IsRefused signs text)) (sym c.refusal.ensures)
    (says_line input.Module (IsRefused signs text) (λ l. unlexed_line text c.args.error ≡ Some l) c.unlexed_line.result
    (λ l e. IsRefused.unlexed c.args.error c.requires e) c.unlexed_line.ensures)
