use Rattle.std.proofs.Common.{◌≡◌, IfOk, Option, sym, ap, ◌∙◌, subst}
use Rattle.code_form.specs.declared.instr.Instr.{Instr}
use Rattle.ir_tree.specs.declared.item.Item.{Item}
use Rattle.ir_rules.specs.Replacements.{replacement_by}
use Rattle.ir_replacements.specs.Prepared.{replaced}
use Rattle.ir_replacements.proofs.Replacing.{no-place, some-frame, has-few, replaced-is}
use Rattle.ir_replacements.proofs.replace.replacement_in.Goals as goal

pub returns-in_default-get-clause-found : goal.returns-in_default-get-clause-found
returns-in_default-get-clause-found c =
    let k = c.args.known.now in
    sym (no-place c.args.types.now.defs k c.requires c.args.place.0 c.in-Instr.field-0 c.in-Instr.op (sym c.in_default-get.ensures))
    ∙ ap (λ (x : Item). replacement_by k.items.now k.ports c.args.place.0 x) (sym c.in-Instr.is)

pub returns-in_default-get-2-clause-found : goal.returns-in_default-get-2-clause-found
returns-in_default-get-2-clause-found c =
    absurd (some-frame c.args.types.now.defs c.args.known.now c.requires c.args.place.0 c.in-Some.spot.now (sym c.in-Some.ensures) (sym c.in_default-get-2.ensures))

pub replaced_at-requires-clause-few : goal.replaced_at-requires-clause-few
replaced_at-requires-clause-few c =
    has-few c.args.types.now.defs c.args.known.now c.requires c.args.place.0 c.in-Some.spot.now c.in-Some-get.frame.now (sym c.in-Some.ensures) (sym c.in-Some-get.ensures)

pub returns-clause-found : goal.returns-clause-found
returns-clause-found c =
    let k = c.args.known.now in
    let defs = c.args.types.now.defs in
    let s = c.in-Some.spot.now in
    let f = c.in-Some-get.frame.now in
    let same =
    (λ i. replaced defs k f s (c.in-Instr.is i) (c.get-3.ensures i))
    ∙ replaced-is defs k c.requires c.args.place.0 s f c.in-Instr.field-0 c.in-Instr.op (sym c.in-Some.ensures) (sym c.in-Some-get.ensures)
    ∙ ap (λ (x : Item). replacement_by k.items.now k.ports c.args.place.0 x) (sym c.in-Instr.is) in
    subst (λ (r : Option Instr). IfOk c.replaced_at.result (λ found. found ≡ r)) same c.replaced_at.ensures.found
