use Rattle.html_page.proofs.Thousands.{digit_turn, all_digits}
use Rattle.html_page.proofs.numbers.put_grouped.Goals as goal

pub each-preserved : goal.each-preserved
each-preserved c =
    digit_turn c.args.digits.now c.each.out c.put_digit.new.out c.args.out.now c.each.k c.each-test.true c.each.invariant c.in_ok-put_digit.ensures

pub returns : goal.returns
returns c = all_digits c.args.digits.now c.each.out c.args.out.now c.each.k c.each-test.false c.each.invariant
