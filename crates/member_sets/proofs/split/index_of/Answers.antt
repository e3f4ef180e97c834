use Rattle.std.proofs.Common.{◌≡◌, true, rules, sym, ◌∙◌}
use Rattle.member_sets.proofs.Lists.{marked_at}
use Rattle.member_sets.proofs.split.index_of.Goals as goal

pub bounds-marks-class : goal.bounds-marks-class
bounds-marks-class c =
    let h : c.is_marked.result ≡ true = search rules in
    (marked_at c.args.classes.now c.args.marks.now c.requires c.args.class (sym c.is_marked.ensures ∙ h)).0

pub returns-clause-within : goal.returns-clause-within
returns-clause-within c =
    let h : c.is_marked.result ≡ true = search rules in
    (marked_at c.args.classes.now c.args.marks.now c.requires c.args.class (sym c.is_marked.ensures ∙ h)).1

pub returns-clause-there : goal.returns-clause-there
returns-clause-there c =
    let h : c.is_marked.result ≡ true = search rules in
    (marked_at c.args.classes.now c.args.marks.now c.requires c.args.class (sym c.is_marked.ensures ∙ h)).2
