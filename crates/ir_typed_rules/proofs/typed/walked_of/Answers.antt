use Rattle.std.proofs.Common.{ap, ◌∙◌}
use Rattle.ir_rules.specs.Types.{TypeDefs}
use Rattle.ir_rules.specs.Initialisers.{init_differs}
use Rattle.ir_scopes.specs.Kinds.{kind_in}
use Rattle.ir_type_rules.specs.Alone.{types_alone}
use Rattle.ir_typed_rules.proofs.Told.{names-told, range-told, differs-told, path-told, init-told}
use Rattle.ir_typed_rules.proofs.typed.walked_of.Goals as goal

pub returns : goal.returns
returns c =
    let x = c.args.item.now in
    let defs = c.args.types.now.defs in
    let kind = kind_in c.args.known.now.kinds.now.names in
    let es = c.args.known.now.entities.now in
    let locals = c.args.locals.now in
    record {
      defs = c.in_ok-init.ensures.defs ∙ c.in_ok-path.ensures.defs;
      walks = λ s told. record {
        get_path = c.in_ok-path.ensures.broken ∙ path-told s defs kind es locals told x;
        init_differs =
            c.in_ok-init.ensures.broken ∙ ap (λ (ds : TypeDefs). init_differs (types_alone ds) x) c.in_ok-path.ensures.defs
            ∙ init-told s defs kind es locals told x;
        unknown_name = λ h. c.in_ok-name.ensures ∙ names-told s defs kind es locals told x;
        type_differs = λ h. c.in_ok-differs.ensures ∙ differs-told s defs kind es locals told x h;
        literal_range = λ h. c.in_ok-range.ensures ∙ range-told s defs kind es locals told x;
      };
    }
