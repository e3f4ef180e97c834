use Rattle.std.proofs.Common.{◌+◌, arith}
use Rattle.ir_tokens.proofs.Digits.{digits_value-next, digits_value-front}
use Rattle.list_records.proofs.decimal.digits_below.Goals as goal

pub returns-then-value-from : goal.returns-then-value-from
returns-then-value-from c = λ small.
    let ds = c.args.digits.now in
    let i = c.each.digit-index in
    let next = digits_value-next ds i c.each.value c.requires c.each-test.true c.each.invariant.so_far in
    let front = digits_value-front ds (i + 1) in
    omega arith

pub each-preserved : goal.each-preserved
each-preserved c = record {
  so_far = let next = digits_value-next c.args.digits.now c.each.digit-index c.each.value c.requires c.each-test.true c.each.invariant.so_far in omega arith;
  small = omega arith;
}
