use Rattle.std.proofs.Common.{[], ◌∷◌, ◌++◌, arith, ◌∙◌, refl, sym, ap, subst, map, reverse, List, ℕ, append_assoc}
use Rattle.std.proofs.lemmas.List.{map-append, reverse-append}
use Rattle.exec_core.specs.Held.{AreForksOf}
use Rattle.exec_core.specs.Plans.{planned_of, states_of}
use Rattle.exec_core.specs.declared.divide.Child.{Child}
use Rattle.exec_core.specs.declared.plan.Plan.{Plan}
use Rattle.exec_core.proofs.Holding.{forks_none, forks_more, keeps_none, keeps_more, same_counts, same_counts_more, nowhere}
use Rattle.exec_core.proofs.plan.fork_plans.Goals as goal

pub loop-plan-init : goal.loop-plan-init
loop-plan-init g c = let V = g.M.Machine.view in record {
  out = c.requires.out;
  same = refl;
  room = c.requires.room;
  plans = rw c.requires.empty refl;
  forks = subst (λ xs. AreForksOf V c.args.machine.now c.args.s.now c.args.machine.now (states_of xs)) (sym c.requires.empty)
      (forks_none V g.met.M.Machine.lawful c.args.machine.now c.args.s.now);
  counts = same_counts _;
  keeps = keeps_none V g.met.M.Machine.lawful _ [];
  len = omega arith;
  capacity = omega arith;
}

pub loop-plan-preserved : goal.loop-plan-preserved
loop-plan-preserved g c =
    let V = g.M.Machine.view in let i = c.loop-plan.invariant in let e = c.in_ok-state.ensures in
    let p = c.in-Some.plan in
    let f : Plan g.row.M-Change.Denot → List ℕ × g.row.M-Change.Denot = λ x. (x.members, x.change) in
    let q : Child g.row.M-State.Denot g.row.M-Change.Denot = record { state = c.in_ok-state.state; members = p.members; change = p.change } in
    record {
      out = e.keeps.out _ i.out (nowhere _);
      same = e.keeps.stands _ i.out (nowhere _) ∙ i.same;
      room = omega (arith, c.in-Some.ensures.cases, c.put.ensures.len, c.put.ensures.capacity);
      plans = ap (λ xs. map planned_of xs ++ reverse (map f c.pop.new.self.items)) c.put.ensures.items
          ∙ ap (λ xs. xs ++ reverse (map f c.pop.new.self.items)) (map-append
          (planned_of {S = g.row.M-State.Denot} {C = g.row.M-Change.Denot}) c.loop-plan.children.items (q ∷ []))
          ∙ append_assoc (map planned_of c.loop-plan.children.items) (planned_of q ∷ []) (reverse (map f c.pop.new.self.items))
          ∙ ap (λ xs. map planned_of c.loop-plan.children.items ++ xs) (sym (reverse-append (map f c.pop.new.self.items) (f p ∷ [])))
          ∙ ap (λ xs. map planned_of c.loop-plan.children.items ++ reverse xs) (sym (map-append f c.pop.new.self.items (p ∷ [])))
          ∙ ap (λ xs. map planned_of c.loop-plan.children.items ++ reverse (map f xs)) (sym c.in-Some.ensures.items) ∙ i.plans;
      forks = subst (AreForksOf V c.args.machine.now c.args.s.now c.fork.new.self)
          (sym (ap states_of c.put.ensures.items ∙ map-append (λ (x : Child g.row.M-State.Denot g.row.M-Change.Denot). x.state) c.loop-plan.children.items (q
          ∷ []))) (forks_more V g.met.M.Machine.lawful c.args.machine.now c.loop-plan.machine c.fork.new.self c.args.s.now c.in_ok-state.state
          (states_of c.loop-plan.children.items) i.same i.forks i.keeps e.out e.state e.out_numbers e.keeps);
      counts = same_counts_more _ _ _ i.counts e.counts;
      keeps = keeps_more V g.met.M.Machine.lawful _ _ _ [] [] [] (λ k h. h) (λ k h. h) i.keeps e.keeps;
      len = omega (arith, c.in-Some.ensures.cases, c.put.ensures.len, i.len);
      capacity = omega (arith, c.put.ensures.capacity);
    }
