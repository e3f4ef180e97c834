use Rattle.std.proofs.Common.{rules, ◌≡◌, ◌<◌, ◌+◌, ◌*◌, ◌++◌, suc, OnOk, map, ap, sym, subst, ◌∙◌, arith}
use Rattle.ir_tree.specs.declared.operand.Init.TheVariants as initial
use Rattle.ir_type_rules.proofs.Inits.{lists, all_lists, lists-Array, lists-Struct, lists-element, types-One, types-Text, types-Array, types-Struct}
use Rattle.ir_type_rules.proofs.init_parts.+types.Goals as goal

pub add_elements_types-add_init_types-requires : goal.add_elements_types-add_init_types-requires
add_elements_types-add_init_types-requires t c =
    let small = lists-element c.args.elements.now c.each.element-index c.element-item.result c.each-test.true c.element-item.is in
    let smaller : 2 * lists c.element-item.result.1 < 2 * all_lists c.args.elements.now + 1 = omega arith in
    search rules

pub add_init_types-add_elements_types-requires : goal.add_init_types-add_elements_types-requires
add_init_types-add_elements_types-requires t c =
    let e : lists c.args.init.now ≡ suc (all_lists c.in-Array.elements) = ap lists c.in-Array.is ∙ lists-Array c.in-Array.elements in
    let f = ap all_lists c.as_slice.ensures in
    let smaller : 2 * all_lists c.as_slice.result.now + 1 < 2 * lists c.args.init.now = omega arith in
    search rules

pub add_init_types-add_elements_types-requires-in-Struct : goal.add_init_types-add_elements_types-requires-in-Struct
add_init_types-add_elements_types-requires-in-Struct t c =
    let e : lists c.args.init.now ≡ suc (all_lists c.in-Struct.fields) = ap lists c.in-Struct.is ∙ lists-Struct c.in-Struct.fields in
    let f = ap all_lists c.as_slice-in-Struct.ensures in
    let smaller : 2 * all_lists c.as_slice-in-Struct.result.now + 1 < 2 * lists c.args.init.now = omega arith in
    search rules

pub add_init_types-returns-in-Array : goal.add_init_types-returns-in-Array
add_init_types-returns-in-Array t c =
    subst (λ l. OnOk c.add_elements_types.result (map (λ t. t.now) c.add_elements_types.new.list ≡ map (λ t. t.now) c.args.list.now ++ l))
    (types-Array c.args.init.now c.as_slice.result.now (c.in-Array.is ∙ ap initial.Array (sym c.as_slice.ensures)))
    c.add_elements_types.ensures

pub add_init_types-returns-in-Struct : goal.add_init_types-returns-in-Struct
add_init_types-returns-in-Struct t c =
    subst (λ l. OnOk c.add_elements_types-in-Struct.result (map (λ t. t.now) c.add_elements_types-in-Struct.new.list ≡ map (λ t. t.now) c.args.list.now ++ l))
    (types-Struct c.args.init.now c.as_slice-in-Struct.result.now (c.in-Struct.is ∙ ap initial.Struct (sym c.as_slice-in-Struct.ensures)))
    c.add_elements_types-in-Struct.ensures

pub add_init_types-returns-in-One : goal.add_init_types-returns-in-One
add_init_types-returns-in-One t c = types-One c.args.init.now c.in-One.field-0 (map (λ t. t.now) c.args.list.now) c.in-One.is

pub add_init_types-returns-in-Text : goal.add_init_types-returns-in-Text
add_init_types-returns-in-Text t c = types-Text c.args.init.now c.in-Text.field-0 (map (λ t. t.now) c.args.list.now) c.in-Text.is
