use Rattle.std.proofs.Common.{ℕ, ◌+◌, ◌<◌, ◌==◌, List, [], ◌∷◌, ◌++◌, length, slice_index, sym, ap, ◌∙◌, subst}
use Rattle.std.specs.Prelude.{Result, Ok, Err, OnOk}
use Rattle.std.specs.List.{list_any}
use Rattle.member_sets.specs.Filed.{AreFiled}
use Rattle.member_sets.proofs.Lists.{begun, joined}
use Rattle.member_sets.proofs.split.file.Goals as goal

on_ok : {A E P Q : Type 0} (r : Result A E) → (P → Q) → OnOk r P → OnOk r Q
on_ok (Ok a) f h = f h
on_ok (Err e) f h = h

pub returns-in-Some-clause-filed : goal.returns-in-Some-clause-filed
returns-in-Some-clause-filed c = on_ok c.push_at.result (λ e class_of members i is l here of p.
    subst (AreFiled class_of members (i + 1) c.args.classes.now.items) (sym e)
    (joined class_of members is i l c.args.m c.args.class here of c.args.classes.now.items c.args.marks.now.items c.args.lists.now.items c.requires.marked p
    c.in-Some.at
    (subst (λ (xs : List ℕ). c.in-Some.at < length xs) c.deref-2.ensures.value c.in-Some.ensures.within)
    (ap (λ (xs : List ℕ). slice_index xs c.in-Some.at) (sym c.deref-2.ensures.value) ∙ c.in-Some.ensures.there))) c.push_at.ensures

pub returns-in_ok-mark-in-None-clause-filed : goal.returns-in_ok-mark-in-None-clause-filed
returns-in_ok-mark-in-None-clause-filed c = on_ok c.push_list.result (λ e class_of members i is l here of p.
    subst (λ xs. AreFiled class_of members (i + 1) xs c.push_list.new.lists.items) (sym c.in_ok-mark-in-None.ensures.pushed)
    (subst (AreFiled class_of members (i + 1) (c.args.classes.now.items ++ c.args.class ∷ [])) (sym e)
    (begun class_of members is i l c.args.m c.args.class here of c.args.classes.now.items c.args.marks.now.items c.args.lists.now.items c.requires.marked p
    (ap (list_any (λ k. k == c.args.class)) (sym c.deref-2.ensures.value) ∙ c.in-None.ensures.none)))) c.push_list.ensures
