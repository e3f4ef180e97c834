use Rattle.std.proofs.Common.{◌≡◌, [], ◌∷◌, ◌++◌, map, reverse, arith, rules, sym, ap, ◌∙◌, subst, append_assoc, append-nil}
use Rattle.std.proofs.lemmas.List.{map-append, reverse-append}
use Rattle.std.proofs.lemmas.List.Sorted.{IsPermutation-sym, IsPermutation-reverse}
use Rattle.std.specs.List.Sorted.{IsPermutation}
use Rattle.exec_core.specs.Analysed.{class_from}
use Rattle.exec_core.specs.declared.result.Class.{Class}
use Rattle.exec_core.proofs.finish.move_classes.Goals as goal

pub loop-l-preserved : goal.loop-l-preserved
loop-l-preserved g c =
    let i = c.loop-l.invariant in let l = c.in-Some.l in
    let q : Class g.row.S.Denot = record { state = l.state; members = l.members; length = l.step } in
    record {
      moved = ap (λ xs. map class_from c.pop.new.self.items ++ reverse xs) c.put.ensures.items
          ∙ ap (λ xs. map class_from c.pop.new.self.items ++ xs) (reverse-append c.loop-l.classes.items (q ∷ []))
          ∙ sym (append_assoc (map class_from c.pop.new.self.items) (q ∷ []) (reverse c.loop-l.classes.items))
          ∙ ap (λ xs. xs ++ reverse c.loop-l.classes.items) (sym (map-append class_from c.pop.new.self.items (l ∷ [])))
          ∙ ap (λ xs. map class_from xs ++ reverse c.loop-l.classes.items) (sym c.in-Some.ensures.items) ∙ i.moved;
      room = omega (arith, i.room, c.in-Some.ensures.cases, c.put.ensures.len, c.put.ensures.capacity);
    }

pub loop-l-init : goal.loop-l-init
loop-l-init g c = record {
  moved = ap (λ xs. map class_from c.args.ended.now.items ++ reverse xs) c.requires.empty ∙ append-nil _;
  room = (let n = ap Rattle.std.proofs.Common.length c.requires.empty in omega (arith, n, c.requires.room, c.args.classes.now.ok.0));
}

pub returns-clause-moved : goal.returns-clause-moved
returns-clause-moved g c =
    let none : c.loop-l.ended.items ≡ [] = search rules in
    subst (λ xs. IsPermutation xs c.loop-l.classes.items) (ap (λ xs. map class_from xs ++ reverse c.loop-l.classes.items) (sym none) ∙ c.loop-l.invariant.moved)
    (IsPermutation-sym _ _ (IsPermutation-reverse c.loop-l.classes.items))
