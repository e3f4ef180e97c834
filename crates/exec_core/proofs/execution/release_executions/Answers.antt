use Rattle.std.proofs.Common.{rules, ◌≡◌, [], ◌∷◌, ◌∙◌, ap, map, subst, sym, ◌++◌}
use Rattle.std.specs.List.{All, Contains, IsDistinct}
use Rattle.std.proofs.lemmas.List.{map-append}
use Rattle.std.proofs.lemmas.Simd.{map-map}
use Rattle.std.proofs.lemmas.List.Elements.{All-contains, Contains-push, All-map}
use Rattle.exec_core.proofs.ChildLemmas.{contains_map}
use Rattle.exec_core.proofs.Holding.{left_all, left_less, none_left, same_counts, same_counts_more}
use Rattle.exec_core.specs.Held.{AreLeftOf}
use Rattle.exec_core.specs.Executions.{state_numbers}
use Rattle.exec_core.specs.declared.execution.Execution.{Execution as Concrete}
use Rattle.exec_core.proofs.execution.release_executions.Goals as goal

pub loop-l-init : goal.loop-l-init
loop-l-init g c =
    let V = g.M.Machine.view in
    let f : Concrete g.row.M-State.Denot → g.row.M-State.Denot = λ x. x.state in
    let e = map-map V.number f c.args.lives.items in record {
      left = subst (λ ns. AreLeftOf V c.args.machine.now ns c.args.machine.now (map f c.args.lives.items)) e
          (left_all _ g.met.M.Machine.lawful _ (map f c.args.lives.items) (All-map (V.is_out c.args.machine.now) f c.args.lives.items c.requires.out)
          (subst (IsDistinct Rattle.std.specs.Prelude.nat_eq) (sym e) c.requires.distinct));
      counts = same_counts _;
    }

pub loop-l-preserved : goal.loop-l-preserved
loop-l-preserved g c =
    let V = g.M.Machine.view in
    let f : Concrete g.row.M-State.Denot → g.row.M-State.Denot = λ x. x.state in record {
      left = left_less _ g.met.M.Machine.lawful _ _ _ (state_numbers V c.args.lives.items)
          (map f c.loop-l.rest.items) (map f c.pop.new.self.items) _ c.loop-l.invariant.left
          (ap (map f) c.in-Some.ensures.items ∙ map-append f c.pop.new.self.items (c.in-Some.l ∷ [])) c.release.ensures.out_numbers c.release.ensures.keeps;
      counts = same_counts_more _ _ _ c.loop-l.invariant.counts c.release.ensures.counts;
    }

pub release-requires : goal.release-requires
release-requires g c =
    let V = g.M.Machine.view in
    let f : Concrete g.row.M-State.Denot → g.row.M-State.Denot = λ x. x.state in
    All-contains (V.is_out c.loop-l.machine) (map f c.loop-l.rest.items) c.in-Some.l.state c.loop-l.invariant.left.out
    (subst (λ xs. Contains (map f xs) c.in-Some.l.state) (sym c.in-Some.ensures.items)
    (contains_map f (c.pop.new.self.items ++ c.in-Some.l ∷ []) _ (Contains-push c.pop.new.self.items c.in-Some.l)))

pub returns-clause-out_numbers : goal.returns-clause-out_numbers
returns-clause-out_numbers g c =
    let none : c.loop-l.rest.items ≡ [] = search rules in
    none_left _ g.met.M.Machine.lawful _ _ (state_numbers g.M.Machine.view c.args.lives.items)
    (map (λ (x : Concrete g.row.M-State.Denot). x.state) c.loop-l.rest.items)
    c.loop-l.invariant.left (ap (map (λ (x : Concrete g.row.M-State.Denot). x.state)) none)
