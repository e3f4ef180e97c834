use Rattle.ir_text.specs.Parts as parts
use Rattle.ir_text.proofs.Steps.{step, part, last, commas_turn}
use Rattle.ir_text.proofs.TypeSteps.{of_int, of_array, of_struct, of_named}
use Rattle.ir_text.proofs.types.+put_type.Goals as goal

pub put_type-returns-in_ok-width-in-Int : goal.put_type-returns-in_ok-width-in-Int
put_type-returns-in_ok-width-in-Int t c = of_int _ _ _ _ c.in-Int.is (last _ _ _ c.in_ok-width-in-Int.ensures)

pub put_type-returns-in_ok-sign-in-Array-2 : goal.put_type-returns-in_ok-sign-in-Array-2
put_type-returns-in_ok-sign-in-Array-2 t c = of_array _ _ _ _ _ _ c.in-Array.is c.get.ensures
    (step _ _ _ _ _ c.in_ok-sign-in-Array.ensures (step _ _ _ _ _ c.in_ok-array_length-in-Array.ensures (step _ _ _ _ _ c.in_ok-word-in-Array.ensures
    (part _ _ _ _ _ c.in_ok-put_type-in-Array.ensures (last _ _ _ c.in_ok-sign-in-Array-2.ensures)))))

pub put_type-returns-in_ok-sign-in-Struct-2 : goal.put_type-returns-in_ok-sign-in-Struct-2
put_type-returns-in_ok-sign-in-Struct-2 t c = of_struct _ _ _ _ _ c.in-Struct.is c.as_slice.ensures
    (step _ _ _ _ _ c.in_ok-sign-in-Struct.ensures (part _ _ _ _ _ c.in_ok-put_types-in-Struct.ensures (last _ _ _ c.in_ok-sign-in-Struct-2.ensures)))

pub put_type-returns-in_ok-local-in-Named : goal.put_type-returns-in_ok-local-in-Named
put_type-returns-in_ok-local-in-Named t c = of_named _ _ _ _ c.in-Named.is (last _ _ _ c.in_ok-local-in-Named.ensures)

pub put_types-each-preserved : goal.put_types-each-preserved
put_types-each-preserved t c = commas_turn parts.type_lexemes c.args.types.now c.each.i c.index-types-i.result _ _ _ _ c.each-test.true c.index-types-i.is
    c.each.invariant c.in_ok-put_comma.ensures c.in_ok-put_type.ensures
