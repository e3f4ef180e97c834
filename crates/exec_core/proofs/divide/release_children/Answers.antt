use Rattle.std.proofs.Common.{[], ◌∷◌, ◌∙◌, ap, map, subst, sym, ◌++◌}
use Rattle.std.specs.List.{Contains}
use Rattle.std.proofs.lemmas.List.Elements.{All-contains, Contains-push}
use Rattle.exec_core.proofs.ChildLemmas.{contains_map}
use Rattle.std.proofs.lemmas.List.{map-append}
use Rattle.exec_core.specs.Plans.{states_of}
use Rattle.exec_core.specs.declared.divide.Child.{Child}
use Rattle.exec_core.proofs.Holding.{left_all, left_less, same_counts, same_counts_more}
use Rattle.exec_core.proofs.divide.release_children.Goals as goal

pub release-requires : goal.release-requires
release-requires g c =
    All-contains (g.M.Machine.view.is_out c.loop-child.machine) (states_of c.loop-child.children.items) c.in-Some.child.state c.loop-child.invariant.left.out
    (subst (λ xs. Contains (states_of xs) c.in-Some.child.state) (sym c.in-Some.ensures.items)
    (contains_map (λ (p : Child g.row.M-State.Denot g.row.M-Change.Denot). p.state) (c.pop.new.self.items ++ c.in-Some.child ∷ []) c.in-Some.child
    (Contains-push c.pop.new.self.items c.in-Some.child)))

pub loop-child-init : goal.loop-child-init
loop-child-init g c =
    record {
      left = left_all g.M.Machine.view g.met.M.Machine.lawful c.args.machine.now (states_of c.args.children.now.items) c.requires.out c.requires.distinct;
      counts = same_counts _;
    }

pub loop-child-preserved : goal.loop-child-preserved
loop-child-preserved g c =
    let V = g.M.Machine.view in let i = c.loop-child.invariant in let e = c.release.ensures in record {
      left = left_less V g.met.M.Machine.lawful c.args.machine.now c.loop-child.machine c.release.new.self (map V.number (states_of c.args.children.now.items))
          (states_of c.loop-child.children.items) (states_of c.pop.new.self.items) c.in-Some.child.state i.left
          (ap states_of c.in-Some.ensures.items ∙ map-append (λ (p : Child g.row.M-State.Denot g.row.M-Change.Denot). p.state) c.pop.new.self.items
          (c.in-Some.child ∷ [])) e.out_numbers e.keeps;
      counts = same_counts_more _ _ _ i.counts e.counts;
    }
