use Rattle.std.proofs.Common.{◌≡◌, subst, sym}
use Rattle.command_plan.specs.declared.status.Input.TheVariants as input
use Rattle.command_plan.specs.Answer.{Says}
use Rattle.command_files.specs.Modules.{IsRefused}
use Rattle.refused_lines.specs.Refusals.{broken_line}
use Rattle.command_files.proofs.Refused.{says_line}
use Rattle.command_files.proofs.module.rule_refusal.Goals as goal

pub returns : goal.returns
returns c =
    let text = c.args.text.now in
    let tokens = c.args.tokens.now in
    let signs = c.args.signs.now in
    let reading = c.args.reading.now in
    subst (Says input.Module (IsRefused signs text)) (sym c.refusal.ensures)
    (says_line input.Module (IsRefused signs text) (λ l. l ≡ broken_line text tokens c.as_slice.result.now c.args.found) c.broken_line.result
    (λ l e. IsRefused.broken tokens reading.module.items reading.starts c.args.found c.requires.items c.requires.broken
    (subst (λ starts. l ≡ broken_line text tokens starts c.args.found) c.as_slice.ensures e)) c.broken_line.ensures)
