use Rattle.function_names.proofs.Numbered.{numbered_next}
use Rattle.function_names.proofs.names.FunctionNames.new.Goals as goal

pub each-preserved : goal.each-preserved
each-preserved c =
    numbered_next c.args.code.now.funcs _ c.each.number c.f-item.result c.each.map.entries c.add_name.new.map.entries c.as_slice-f-items.ensures c.each-test.true
    c.f-item.is c.each.invariant
    c.in_ok-add_name.ensures
