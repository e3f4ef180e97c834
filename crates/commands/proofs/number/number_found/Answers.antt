use Rattle.std.proofs.Common.{◌≡◌, ℕ, List, Ok, refl, subst, ◌∙◌, ap}
use Rattle.am_base.specs.Cause.{Rose}
use Rattle.command_plan.specs.declared.status.Input.TheVariants as input
use Rattle.command_plan.specs.Plan.{no_counts, Write}
use Rattle.command_plan.specs.Answer.{Found}
use Rattle.command_plan.proofs.Founds.{next_found, rise_by_none, stay}
use Rattle.commands.specs.Number.{numbered_text}
use Rattle.command_files.specs.declared.module.Loaded.{Loaded}
use Rattle.command_files.specs.Modules.{IsAccepted, IsRefused}
use Rattle.commands.proofs.number.number_found.Goals as goal

pub returns-in-Ok-numbered_text-clause-found : goal.returns-in-Ok-numbered_text-clause-found
returns-in-Ok-numbered_text-clause-found g c counts =
    let files = g.F.Shelf.files c.args.shelf.now in
    let signs = c.args.signs.now in
    let m = c.in-Ok-load_module.m in
    let text = c.in-Ok-numbered_text.text in
    let is : text ≡ numbered_text m.module.items = c.in-Ok-numbered_text.ensures ∙ ap numbered_text c.as_slice.ensures in
    let faulty = λ (name : List ℕ). Rose (g.F.Shelf.faults c.args.shelf.now name) (g.F.Shelf.faults c.load_module.new.shelf name) in
    let end : Found files faulty (Write (λ text. text ≡ numbered_text m.module.items) (λ counts. counts ≡ no_counts)) counts counts (Ok text) =
    (no_counts, (is, refl), rise_by_none counts counts (stay counts)) in
    next_found files files faulty faulty c.args.name.now input.Module (IsRefused signs) Loaded (IsAccepted signs)
    (λ m. Write (λ text. text ≡ numbered_text m.module.items) (λ counts. counts ≡ no_counts)) counts counts m (Ok text) refl (λ name h. h)
    c.in-Ok-load_module.ensures.ok end
