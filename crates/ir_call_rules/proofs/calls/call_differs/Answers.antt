use Rattle.std.proofs.Common.{[], map, sym, ap, ◌∙◌}
use Rattle.ir_tree.specs.declared.item.Item.TheVariants.{Instr}
use Rattle.ir_names.specs.Names.{defined}
use Rattle.ir_rules.specs.Calls.{call_differs, has_other_signature}
use Rattle.ir_rules.specs.Entities.{signature_of}
use Rattle.ir_rules.specs.Parts.{Typed}
use Rattle.ir_scopes.specs.Kinds.{kind_in}
use Rattle.ir_call_rules.specs.Alone.{calls_alone}
use Rattle.ir_call_rules.proofs.calls.call_differs.Goals as goal

pub returns-in_ok-call-in-Call : goal.returns-in_ok-call-in-Call
returns-in_ok-call-in-Call c =
    let kind = kind_in c.args.kinds.now.names in
    let entity = defined c.args.entities.now c.in-Call.name in
    let s = calls_alone kind c.args.entities.now [] in
    c.has_other_signature.ensures
    ∙ ap (λ call. has_other_signature call entity) c.in_ok-call-in-Call.ensures
    ∙ ap (λ args. has_other_signature (signature_of kind c.in-Call.ty (map (λ (x : Typed). x.0) args)) entity) c.as_slice.ensures
    ∙ ap (λ o. call_differs s (Instr c.in-Instr.field-0 o)) (sym c.in-Call.is ∙ c.get.ensures)
    ∙ ap (call_differs s) (sym c.in-Instr.is)
