use Rattle.std.proofs.Common.{List, Option, sym, ap, subst, ◌∙◌}
use Rattle.ir_tree.specs.declared.name.Name.{Name}
use Rattle.ir_tree.specs.declared.type_text.TyText.{TyText}
use Rattle.ir_tree.specs.declared.item.Item.{Item}
use Rattle.ir_module.specs.Parts.{with_function, with_code, CanCode}
use Rattle.ir_module.proofs.Items.{on-ok, nothing-more}
use Rattle.ir_module.proofs.parts.add_item.Goals as goal

pub add_function-requires : goal.add_function-requires
add_function-requires c =
    let can = subst (CanCode c.args.types.now.defs c.args.parts.now c.args.frame.now) c.in-Head.is c.requires.can in
    record { room = can.room; registers = can.registers; within = can.within }

pub returns-in-Head-clause-parts : goal.returns-in-Head-clause-parts
returns-in-Head-clause-parts c =
    let ds = c.args.types.now.defs in
    let p = c.args.parts.now in
    let f = c.args.frame.now in
    on-ok c.add_function.result
    (λ h. h ds c.requires.kinds
    ∙ ap (λ (ps : List (TyText × Option Name)). with_function ds p f.function c.in-Head.name c.in-Head.ty ps) c.as_slice-list.ensures
    ∙ ap (λ (x : Item). with_code ds c.args.tables.now p f x) (sym c.in-Head.is))
    c.add_function.ensures

pub returns-in_default-clause-parts : goal.returns-in_default-clause-parts
returns-in_default-clause-parts c =
    nothing-more c.args.types.now.defs c.args.tables.now c.args.parts.now c.args.frame.now c.args.item.now c.in_default.not-Head c.in_default.not-Instr
