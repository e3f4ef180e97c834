use Rattle.html_page.proofs.More.{row-parts}
use Rattle.html_page.proofs.tests_part.put_test.Goals as goal

pub returns : goal.returns
returns c =
    row-parts c.args.suite.now c.args.matrix.now c.args.works.now c.args.t c.args.out.now c.put_start.new.out c.put_work.new.out c.put_kills.new.out
    c.push.new.self c.in_ok-put_start.ensures c.in_ok-put_work.ensures c.in_ok-put_kills.ensures c.in_ok-push.ensures.ok
