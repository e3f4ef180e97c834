use Rattle.std.proofs.Common.{rules, ◌≡◌, ◌<◌, ◌+◌, ◌*◌, suc, ap, ◌∙◌, arith}
use Rattle.ir_text.specs.Parts as parts
use Rattle.ir_text.proofs.Steps.{step, part, last, commas_turn}
use Rattle.ir_text.proofs.InitSteps.{of_one, of_text, of_array, of_struct, lists, all_lists, lists-Array, lists-Struct, lists-element}
use Rattle.ir_text.proofs.inits.+put_init.Goals as goal

pub put_elements-put_init-requires : goal.put_elements-put_init-requires
put_elements-put_init-requires t c =
    let small = lists-element c.args.elements.now c.each.i c.index-elements-i.result c.each-test.true c.index-elements-i.is in
    let smaller : 2 * lists c.index-elements-i.result.1 < 2 * all_lists c.args.elements.now + 1 = omega arith in
    search rules

pub put_elements-each-preserved : goal.put_elements-each-preserved
put_elements-each-preserved t c = commas_turn parts.init_element c.args.elements.now c.each.i c.index-elements-i.result _ _ _ _ c.each-test.true
    c.index-elements-i.is c.each.invariant c.in_ok-put_comma.ensures
    (part _ _ _ _ _ c.in_ok-put_type.ensures c.in_ok-put_init.ensures)

pub put_init-put_elements-requires : goal.put_init-put_elements-requires
put_init-put_elements-requires t c =
    let e : lists c.args.init.now ≡ suc (all_lists c.in-Array.elements) = ap lists c.in-Array.is ∙ lists-Array c.in-Array.elements in
    let f = ap all_lists c.as_slice-in-Array.ensures in
    let smaller : 2 * all_lists c.as_slice-in-Array.result.now + 1 < 2 * lists c.args.init.now = omega arith in
    search rules

pub put_init-put_elements-requires-in-Struct : goal.put_init-put_elements-requires-in-Struct
put_init-put_elements-requires-in-Struct t c =
    let e : lists c.args.init.now ≡ suc (all_lists c.in-Struct.fields) = ap lists c.in-Struct.is ∙ lists-Struct c.in-Struct.fields in
    let f = ap all_lists c.as_slice-in-Struct.ensures in
    let smaller : 2 * all_lists c.as_slice-in-Struct.result.now + 1 < 2 * lists c.args.init.now = omega arith in
    search rules

pub put_init-returns-in_ok-put_operand-in-One : goal.put_init-returns-in_ok-put_operand-in-One
put_init-returns-in_ok-put_operand-in-One t c = of_one _ _ _ _ c.in-One.is c.in_ok-put_operand-in-One.ensures

pub put_init-returns-in_ok-cstring-in-Text : goal.put_init-returns-in_ok-cstring-in-Text
put_init-returns-in_ok-cstring-in-Text t c = of_text _ _ _ _ _ c.in-Text.is c.as_slice.ensures (last _ _ _ c.in_ok-cstring-in-Text.ensures)

pub put_init-returns-in_ok-sign-in-Array-2 : goal.put_init-returns-in_ok-sign-in-Array-2
put_init-returns-in_ok-sign-in-Array-2 t c = of_array _ _ _ _ _ c.in-Array.is c.as_slice-in-Array.ensures
    (step _ _ _ _ _ c.in_ok-sign-in-Array.ensures (part _ _ _ _ _ c.in_ok-put_elements-in-Array.ensures (last _ _ _ c.in_ok-sign-in-Array-2.ensures)))

pub put_init-returns-in_ok-sign-in-Struct-2 : goal.put_init-returns-in_ok-sign-in-Struct-2
put_init-returns-in_ok-sign-in-Struct-2 t c = of_struct _ _ _ _ _ c.in-Struct.is c.as_slice-in-Struct.ensures
    (step _ _ _ _ _ c.in_ok-sign-in-Struct.ensures (part _ _ _ _ _ c.in_ok-put_elements-in-Struct.ensures (last _ _ _ c.in_ok-sign-in-Struct-2.ensures)))
