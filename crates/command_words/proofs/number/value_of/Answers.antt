use Rattle.std.proofs.Common.{arith}
use Rattle.ir_tokens.proofs.Digits.{digits_value-next, digits_value-front}
use Rattle.command_words.proofs.Numbers.{few_digits}
use Rattle.command_words.proofs.number.value_of.Goals as goal

pub overflow_mul-value : goal.overflow_mul-value
overflow_mul-value c =
    let ds = c.args.digits.now in
    let small = few_digits ds c.requires.digits c.requires.few in
    let front = digits_value-front ds c.each.digit-index in
    omega arith

pub overflow_add-value : goal.overflow_add-value
overflow_add-value c =
    let ds = c.args.digits.now in
    let small = few_digits ds c.requires.digits c.requires.few in
    let front = digits_value-front ds c.each.digit-index in
    omega arith

pub each-preserved : goal.each-preserved
each-preserved c =
    let next = digits_value-next c.args.digits.now c.each.digit-index c.each.value c.requires.digits c.each-test.true c.each.invariant in omega arith
