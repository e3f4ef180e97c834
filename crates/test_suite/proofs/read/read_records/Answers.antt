use Rattle.std.proofs.Common.{◌∷◌, sym, ◌∙◌}
use Rattle.test_suite.proofs.Reading.{read_all, read_fault, next_state}
use Rattle.test_suite.proofs.read.read_records.Goals as goal

pub returns-then-not-branch : goal.returns-then-not-branch
returns-then-not-branch c = λ text header records gave rows.
    let s = c.each.invariant.sofar text header records gave rows in
    read_all c.args.code.now c.args.default_budget c.each.reader c.each.tests text header records rows s
    (c.in_ok-next_record.ensures.all c.if-not-branch.true text (header ∷ s.read) s.gave)

pub returns-in-Err : goal.returns-in-Err
returns-in-Err c = λ text header records gave rows.
    let s = c.each.invariant.sofar text header records gave rows in
    read_fault c.args.code.now c.args.default_budget c.each.reader c.next_record.new.reader c.each.names.keys c.each.tests c.each.number text header _ records c.in-Err.fault
    c.each.invariant.names_are c.each.invariant.count rows s (c.in_ok-next_record.ensures.more c.if-not-branch.false text (header ∷ s.read) s.gave)
    (sym c.in-Err.is ∙ c.in_ok-fault.ensures.test)

pub each-preserved : goal.each-preserved
each-preserved c =
    next_state c.args.code.now c.args.default_budget c.args.reader.now c.each.reader c.next_record.new.reader c.each.names.keys c.read_record.new.names.keys c.each.tests
    c.push.new.self c.each.number _ c.in-Ok.test c.each.invariant (c.in_ok-next_record.ensures.more c.if-not-branch.false) (sym c.in-Ok.is ∙ c.in_ok-fault.ensures.test)
    (rw c.in-Ok.is at c.in_ok-fault.ensures.names) c.in_ok-push-in-Ok.ensures.ok (rw c.in-Ok.is at c.in_ok-fault.ensures.limit)
