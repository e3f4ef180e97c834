use Rattle.std.proofs.Common.{◌≡◌, [], ◌∷◌, ◌++◌, arith, ◌∙◌, refl, subst, sym, ap, append_assoc, append-nil}
use Rattle.std.proofs.lemmas.List.Sums.{sum_by_push}
use Rattle.exec_core.specs.Children.{weights_of}
use Rattle.exec_core.specs.Executions.{AreApplying}
use Rattle.exec_core.specs.declared.divide.Child.{Child}
use Rattle.exec_core.specs.declared.execution.Execution.{Execution as Concrete}
use Rattle.exec_core.proofs.ExecutionLemmas.{Applies, applying_all, applying_more}
use Rattle.exec_core.proofs.execution.apply_all.Goals as goal

pub loop-child-init : goal.loop-child-init
loop-child-init g c = let V = g.M.Machine.view in record {
  made = [];
  added = sym (append-nil c.args.lives.now.items);
  children = applying_all _ g.met.M.Machine.lawful _ _ _ c.requires.readied c.requires.distinct;
  room = c.requires.room;
  applied = refl;
  weighed = refl;
  meter = refl;
  tried = refl;
  readied = refl;
  asks = λ p. refl;
}

pub loop-child-preserved : goal.loop-child-preserved
loop-child-preserved g c =
    let V = g.M.Machine.view in let i = c.loop-child.invariant in let e = c.apply.ensures in
    let p = c.in-Some.child in
    let q : Concrete g.row.M-State.Denot = record { step = c.args.step; members = p.members; state = c.apply.new.s } in
    let t : Applies V g.met.M.Machine.lawful c.loop-child.machine c.apply.new.self c.args.step p q = record {
      number = e.number;
      members = refl;
      stepped = refl;
      out = e.out;
      after = e.after;
      out_numbers = e.out_numbers;
      keeps = e.keeps;
      keeps_ready = e.keeps_ready;
    } in
    let b : AreApplying V c.args.machine.now c.loop-child.machine c.args.step c.args.children.now.items (c.pop.new.self.items ++ p ∷ []) i.made =
    subst (λ xs. AreApplying V c.args.machine.now c.loop-child.machine c.args.step c.args.children.now.items xs i.made) c.in-Some.ensures.items i.children in
    record {
      made = i.made ++ q ∷ [];
      added = c.put.ensures.items ∙ ap (λ xs. xs ++ q ∷ []) i.added ∙ append_assoc c.args.lives.now.items i.made (q ∷ []);
      children = applying_more _ g.met.M.Machine.lawful _ _ _ _ _ _ i.made p q b t;
      room = omega (arith, c.in-Some.ensures.cases, c.put.ensures.len, c.put.ensures.capacity);
      applied = omega (arith, c.in-Some.ensures.cases, e.counts.applied, i.applied);
      weighed =
          (let A = V.meanings c.args.machine.now in
          let s = ap (weights_of A) c.in-Some.ensures.items ∙ sum_by_push
          (λ (x : Child g.row.M-State.Denot g.row.M-Change.Denot). A.weight x.change) c.pop.new.self.items p in
          let w : (V.meanings c.loop-child.machine).weight p.change ≡ A.weight p.change = ap (λ B. B.weight p.change) i.children.keeps.meanings in
          omega (arith, e.counts.weighed, i.weighed, s, w));
      meter = omega (arith, c.in-Some.ensures.cases, c.raise.ensures, i.meter);
      tried = omega (arith, e.counts.tried, i.tried);
      readied = omega (arith, e.counts.readied, i.readied);
      asks = λ k. omega (arith, e.counts.asks k, i.asks k);
    }
