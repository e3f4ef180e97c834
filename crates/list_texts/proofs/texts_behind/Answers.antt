use Rattle.std.proofs.Common.{[], ◌∷◌, ◌++◌, ap, ◌∙◌, arith}
use Rattle.csv.specs.Records.{fields_of}
use Rattle.list_texts.proofs.Reading.{none, more, all, too-many}
use Rattle.list_texts.proofs.texts_behind.Goals as goal

pub each-init : goal.each-init
each-init c text header gave = none c.args.width text header c.args.reader.now c.new-texts.result c.new-texts.ensures gave

pub each-preserved : goal.each-preserved
each-preserved c text header gave =
    more c.args.width text header c.each.reader c.next_record.new.reader c.each.k c.each.texts c.push.new.self (fields_of c.next_record.new.row)
    (c.in_ok-next_record.ensures.more c.if-not-branch.false)
    (c.in_ok-push.ensures.ok ∙ ap (λ t. c.each.texts ++ t ∷ []) c.in_ok-last_field.ensures) (c.each.invariant text header gave)

pub returns-then-not-branch : goal.returns-then-not-branch
returns-then-not-branch c text header records short gave rows =
    all c.args.width text header records rows c.each.reader c.each.k c.each.texts (c.in_ok-next_record.ensures.all c.if-not-branch.true)
    (c.each.invariant text header gave)

pub returns : goal.returns
returns c text header records short gave rows =
    absurd (too-many c.args.width text header records rows c.each.reader c.each.k c.each.texts short (omega (arith, c.each-test.false))
    (c.each.invariant text header gave))
