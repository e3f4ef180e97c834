use Rattle.std.proofs.Common.{◌≡◌, [], ◌∷◌, ◌++◌, arith, ◌∙◌, refl, subst, sym, ap}
use Rattle.std.proofs.lemmas.List.Sums.{sum_by_push}
use Rattle.exec_core.specs.Children.{AreReadying, weights_of}
use Rattle.exec_core.specs.declared.divide.Child.{Child}
use Rattle.exec_core.proofs.ChildLemmas.{Touches, readying_all, readying_more, readying_back}
use Rattle.exec_core.proofs.divide.ready_all.Goals as goal

pub loop-child-init : goal.loop-child-init
loop-child-init g c = let V = g.M.Machine.view in record {
  children = readying_all _ g.met.M.Machine.lawful _ _ _ c.requires.planned c.requires.distinct c.requires.empty;
  room = c.requires.room;
  readied = refl;
  at_least = omega arith;
  tried = refl;
  applied = refl;
  weighed = refl;
  asks = λ p. refl;
}

pub loop-child-preserved : goal.loop-child-preserved
loop-child-preserved g c =
    let V = g.M.Machine.view in let i = c.loop-child.invariant in let e = c.in-Ok.ensures in
    let p = c.in-Some.child in
    let q : Child g.row.M-State.Denot g.row.M-Change.Denot = record { state = c.ready.new.s; members = p.members; change = p.change } in
    let t : Touches V g.met.M.Machine.lawful c.loop-child.machine c.ready.new.self p q = record {
      number = e.number;
      members = refl;
      change = refl;
      out = e.out;
      stands = e.state;
      keeps = e.keeps;
      keeps_ready = e.keeps_ready;
    } in
    let b : AreReadying V c.args.machine.now c.loop-child.machine c.args.children.now.items (c.pop.new.self.items ++ p ∷ []) c.loop-child.readied.items =
    subst (λ xs. AreReadying V c.args.machine.now c.loop-child.machine c.args.children.now.items xs c.loop-child.readied.items) c.in-Some.ensures.items
    i.children in
    record {
      children = subst (λ xs. AreReadying V c.args.machine.now c.ready.new.self c.args.children.now.items c.pop.new.self.items xs) (sym c.put.ensures.items)
          (readying_more _ g.met.M.Machine.lawful _ _ _ _ _ _ p q b t e.out_numbers e.ready);
      room = omega (arith, c.in-Some.ensures.cases, c.put.ensures.len, c.put.ensures.capacity);
      readied =
          (let A = V.meanings c.args.machine.now in
          let s = ap (weights_of A) c.in-Some.ensures.items ∙ sum_by_push
          (λ (x : Child g.row.M-State.Denot g.row.M-Change.Denot). A.weight x.change) c.pop.new.self.items p in
          let w : (V.meanings c.loop-child.machine).weight p.change ≡ A.weight p.change = ap (λ B. B.weight p.change) i.children.keeps.meanings in
          omega (arith, e.counts.readied, i.readied, s, w));
      at_least = omega (arith, e.counts.readied, i.at_least);
      tried = omega (arith, e.counts.tried, i.tried);
      applied = omega (arith, e.counts.applied, i.applied);
      weighed = omega (arith, e.counts.weighed, i.weighed);
      asks = λ k. omega (arith, e.counts.asks k, i.asks k);
    }

pub returns-in-Err-clause-children : goal.returns-in-Err-clause-children
returns-in-Err-clause-children g c =
    let V = g.M.Machine.view in let i = c.loop-child.invariant in let e = c.in-Err.ensures in
    let p = c.in-Some.child in
    let q : Child g.row.M-State.Denot g.row.M-Change.Denot = record { state = c.ready.new.s; members = p.members; change = p.change } in
    let t : Touches V g.met.M.Machine.lawful c.loop-child.machine c.ready.new.self p q = record {
      number = e.number;
      members = refl;
      change = refl;
      out = e.out;
      stands = e.state;
      keeps = e.keeps;
      keeps_ready = e.keeps_ready;
    } in
    let b : AreReadying V c.args.machine.now c.loop-child.machine c.args.children.now.items (c.pop.new.self.items ++ p ∷ []) c.loop-child.readied.items =
    subst (λ xs. AreReadying V c.args.machine.now c.loop-child.machine c.args.children.now.items xs c.loop-child.readied.items) c.in-Some.ensures.items
    i.children in
    subst (λ xs. AreReadying V c.args.machine.now c.ready.new.self c.args.children.now.items xs c.loop-child.readied.items) (sym c.put-in-Err.ensures.items)
    (readying_back _ g.met.M.Machine.lawful _ _ _ _ _ _ p q b t e.out_numbers)

pub returns-in-Err-clause-count_at_least : goal.returns-in-Err-clause-count_at_least
returns-in-Err-clause-count_at_least g c = omega (arith, c.ready.ensures.counts_within.readied.least, c.loop-child.invariant.at_least)

pub returns-in-Err-clause-count_at_most : goal.returns-in-Err-clause-count_at_most
returns-in-Err-clause-count_at_most g c =
    let V = g.M.Machine.view in let i = c.loop-child.invariant in let A = V.meanings c.args.machine.now in let p = c.in-Some.child in
    let s = ap (weights_of A) c.in-Some.ensures.items ∙ sum_by_push (λ (x : Child g.row.M-State.Denot g.row.M-Change.Denot). A.weight x.change)
    c.pop.new.self.items p in
    let w : (V.meanings c.loop-child.machine).weight p.change ≡ A.weight p.change = ap (λ B. B.weight p.change) i.children.keeps.meanings in
    omega (arith, c.ready.ensures.counts_within.readied.most, i.readied, s, w)

pub returns-in-Err-clause-tried : goal.returns-in-Err-clause-tried
returns-in-Err-clause-tried g c = let w = c.ready.ensures.counts_within.tried in omega (arith, w.least, w.most, c.loop-child.invariant.tried)

pub returns-in-Err-clause-applied : goal.returns-in-Err-clause-applied
returns-in-Err-clause-applied g c = let w = c.ready.ensures.counts_within.applied in omega (arith, w.least, w.most, c.loop-child.invariant.applied)

pub returns-in-Err-clause-weighed : goal.returns-in-Err-clause-weighed
returns-in-Err-clause-weighed g c = let w = c.ready.ensures.counts_within.weighed in omega (arith, w.least, w.most, c.loop-child.invariant.weighed)

pub returns-in-Err-clause-asks : goal.returns-in-Err-clause-asks
returns-in-Err-clause-asks g c p = let w = c.ready.ensures.counts_within.asks p in omega (arith, w.least, w.most, c.loop-child.invariant.asks p)
