use Rattle.std.proofs.Common.{[], Ok, Err, sym, ◌∙◌}
use Rattle.test_suite.proofs.Reading.{no_header, other_header, suite_is}
use Rattle.test_suite.proofs.read.read_suite.Goals as goal

pub returns-then-not-branch : goal.returns-then-not-branch
returns-then-not-branch c =
    no_header c.args.code.now c.args.default_budget c.args.text.now (c.in_ok-next_record.ensures.all c.if-not-branch.true c.args.text.now [] c.reader_of-reader.ensures)

pub returns-then-not-is_header : goal.returns-then-not-is_header
returns-then-not-is_header c =
    other_header c.args.code.now c.args.default_budget c.args.text.now _ _ (c.in_ok-next_record.ensures.more c.if-not-branch.false c.args.text.now [] c.reader_of-reader.ensures)
    (sym c.is_header.ensures ∙ c.if-not-is_header.true)

pub returns-in-Ok : goal.returns-in-Ok
returns-in-Ok c =
    let gave = c.in_ok-next_record.ensures.more c.if-not-branch.false c.args.text.now [] c.reader_of-reader.ensures in
    suite_is c.args.code.now c.args.default_budget c.args.text.now _ _ (Ok c.in-Ok.tests) gave (sym c.is_header.ensures ∙ c.if-not-is_header.false)
    (λ records rows. sym c.in-Ok.is ∙ c.in_ok-tests.ensures c.args.text.now _ records gave rows)

pub returns : goal.returns
returns c =
    let gave = c.in_ok-next_record.ensures.more c.if-not-branch.false c.args.text.now [] c.reader_of-reader.ensures in
    suite_is c.args.code.now c.args.default_budget c.args.text.now _ _ (Err c.in-Err.fault) gave (sym c.is_header.ensures ∙ c.if-not-is_header.false)
    (λ records rows. sym c.in-Err.is ∙ c.in_ok-tests.ensures c.args.text.now _ records gave rows)
