use Rattle.std.proofs.Common.{rules, ◌≡◌, ◌<◌, ◌+◌, ◌*◌, ◌++◌, suc, OnOk, map, ap, sym, subst, ◌∙◌, arith}
use Rattle.ir_tree.specs.declared.operand.Init.TheVariants as initial
use Rattle.ir_rules.specs.Parts.{Typed}
use Rattle.ir_type_rules.proofs.Inits.{lists, all_lists, lists-Array, lists-Struct, lists-element, operands-One, operands-Text, operands-Array, operands-Struct}
use Rattle.ir_type_rules.proofs.init_parts.+operands.Goals as goal

pub add_elements_operands-add_init_operands-requires : goal.add_elements_operands-add_init_operands-requires
add_elements_operands-add_init_operands-requires t c =
    let small = lists-element c.args.elements.now c.each.element-index c.element-item.result c.each-test.true c.element-item.is in
    let smaller : 2 * lists c.element-item.result.1 < 2 * all_lists c.args.elements.now + 1 = omega arith in
    search rules

pub add_init_operands-add_elements_operands-requires : goal.add_init_operands-add_elements_operands-requires
add_init_operands-add_elements_operands-requires t c =
    let e : lists c.args.init.now ≡ suc (all_lists c.in-Array.elements) = ap lists c.in-Array.is ∙ lists-Array c.in-Array.elements in
    let f = ap all_lists c.as_slice.ensures in
    let smaller : 2 * all_lists c.as_slice.result.now + 1 < 2 * lists c.args.init.now = omega arith in
    search rules

pub add_init_operands-add_elements_operands-requires-in-Struct : goal.add_init_operands-add_elements_operands-requires-in-Struct
add_init_operands-add_elements_operands-requires-in-Struct t c =
    let e : lists c.args.init.now ≡ suc (all_lists c.in-Struct.fields) = ap lists c.in-Struct.is ∙ lists-Struct c.in-Struct.fields in
    let f = ap all_lists c.as_slice-in-Struct.ensures in
    let smaller : 2 * all_lists c.as_slice-in-Struct.result.now + 1 < 2 * lists c.args.init.now = omega arith in
    search rules

pub add_init_operands-returns-in-Array : goal.add_init_operands-returns-in-Array
add_init_operands-returns-in-Array t c =
    subst (λ l. OnOk c.add_elements_operands.result (map {B = Typed} (λ v. (v.0.now, v.1.now)) c.add_elements_operands.new.list ≡ map {B = Typed} (λ v. (v.0.now, v.1.now)) c.args.list.now ++ l))
    (operands-Array c.args.ty.now c.args.init.now c.as_slice.result.now (c.in-Array.is ∙ ap initial.Array (sym c.as_slice.ensures)))
    c.add_elements_operands.ensures

pub add_init_operands-returns-in-Struct : goal.add_init_operands-returns-in-Struct
add_init_operands-returns-in-Struct t c =
    subst (λ l. OnOk c.add_elements_operands-in-Struct.result (map {B = Typed} (λ v. (v.0.now, v.1.now)) c.add_elements_operands-in-Struct.new.list ≡ map {B = Typed} (λ v. (v.0.now, v.1.now)) c.args.list.now ++ l))
    (operands-Struct c.args.ty.now c.args.init.now c.as_slice-in-Struct.result.now (c.in-Struct.is ∙ ap initial.Struct (sym c.as_slice-in-Struct.ensures)))
    c.add_elements_operands-in-Struct.ensures

pub add_init_operands-returns-in-One : goal.add_init_operands-returns-in-One
add_init_operands-returns-in-One t c =
    subst (λ l. OnOk c.add_operand.result (map {B = Typed} (λ v. (v.0.now, v.1.now)) c.add_operand.new.list
    ≡ map {B = Typed} (λ v. (v.0.now, v.1.now)) c.args.list.now ++ l))
    (operands-One c.args.ty.now c.args.init.now c.in-One.a c.in-One.is) c.add_operand.ensures

pub add_init_operands-returns-in-Text : goal.add_init_operands-returns-in-Text
add_init_operands-returns-in-Text t c =
    operands-Text c.args.ty.now c.args.init.now c.in-Text.field-0 (map {B = Typed} (λ v. (v.0.now, v.1.now)) c.args.list.now) c.in-Text.is
