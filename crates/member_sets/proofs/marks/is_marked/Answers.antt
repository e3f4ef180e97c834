use Rattle.std.proofs.Common.{sym, ◌∙◌}
use Rattle.std.proofs.lemmas.Bool.{le-ltb}
use Rattle.member_sets.proofs.Marked.{past_marks, past_numbers, at_mark}
use Rattle.member_sets.proofs.marks.is_marked.Goals as goal

pub returns-then-at-marks : goal.returns-then-at-marks
returns-then-at-marks c = sym (past_marks c.args.numbers.now c.args.marks.now c.requires c.args.number c.if-at-marks.true)

pub returns-then-mark-numbers : goal.returns-then-mark-numbers
returns-then-mark-numbers c = at_mark c.args.numbers.now c.args.marks.now c.requires c.args.number c.if-mark-numbers.true

pub returns-else-mark-numbers : goal.returns-else-mark-numbers
returns-else-mark-numbers c = le-ltb _ _ c.if-mark-numbers.false ∙ sym
    (past_numbers c.args.numbers.now c.args.marks.now c.requires c.args.number c.if-mark-numbers.false)
