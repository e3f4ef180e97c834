use Rattle.std.proofs.Common.{rules, ◌≡◌, [], ◌∷◌, ◌∙◌, ap, map, nat_eq, subst, sym, ◌++◌}
use Rattle.std.specs.List.{Contains, IsDistinct}
use Rattle.std.proofs.lemmas.List.{map-append}
use Rattle.std.proofs.lemmas.Simd.{map-map}
use Rattle.std.proofs.lemmas.List.Elements.{All-contains, Contains-push, All-map}
use Rattle.exec_core.specs.Analysed.{class_numbers}
use Rattle.exec_core.specs.Held.{AreLeftOf}
use Rattle.exec_core.specs.declared.result.Class.{Class}
use Rattle.exec_core.proofs.Holding.{left_all, left_less, none_left, same_counts, same_counts_more}
use Rattle.exec_core.proofs.ChildLemmas.{contains_map}
use Rattle.shared_analysis.proofs.release.release_all.Goals as goal

pub loop-class-init : goal.loop-class-init
loop-class-init g c =
    let V = g.M.Machine.view in let m = c.args.machine.now in
    let f : Class g.row.M-State.Denot → g.row.M-State.Denot = λ x. x.state in
    let e = map-map V.number f c.args.classes in record {
      left = subst (λ xs. AreLeftOf V m (class_numbers V c.args.classes) m (map f xs)) (sym c.into_vec-rest.ensures)
          (subst (λ ns. AreLeftOf V m ns m (map f c.args.classes)) e
          (left_all V g.met.M.Machine.lawful m (map f c.args.classes) (All-map (V.is_out m) f c.args.classes c.requires.out)
          (subst (IsDistinct nat_eq) (sym e) c.requires.distinct)));
      counts = same_counts _;
    }

pub loop-class-preserved : goal.loop-class-preserved
loop-class-preserved g c =
    let V = g.M.Machine.view in
    let f : Class g.row.M-State.Denot → g.row.M-State.Denot = λ x. x.state in record {
      left = left_less V g.met.M.Machine.lawful c.args.machine.now c.loop-class.machine c.release.new.self (class_numbers V c.args.classes)
          (map f c.loop-class.rest.items) (map f c.pop.new.self.items) c.into_state.result c.loop-class.invariant.left
          (ap (map f) c.in-Some.ensures.items ∙ map-append f c.pop.new.self.items (c.in-Some.class ∷ [])
          ∙ ap (λ s. map f c.pop.new.self.items ++ s ∷ []) (sym c.into_state.ensures)) c.release.ensures.out_numbers c.release.ensures.keeps;
      counts = same_counts_more _ _ _ c.loop-class.invariant.counts c.release.ensures.counts;
    }

pub release-requires : goal.release-requires
release-requires g c =
    let V = g.M.Machine.view in
    let f : Class g.row.M-State.Denot → g.row.M-State.Denot = λ x. x.state in
    subst (V.is_out c.loop-class.machine) (sym c.into_state.ensures)
    (All-contains (V.is_out c.loop-class.machine) (map f c.loop-class.rest.items) c.in-Some.class.state c.loop-class.invariant.left.out
    (subst (λ xs. Contains (map f xs) c.in-Some.class.state) (sym c.in-Some.ensures.items)
    (contains_map f (c.pop.new.self.items ++ c.in-Some.class ∷ []) c.in-Some.class (Contains-push c.pop.new.self.items c.in-Some.class))))

pub returns-clause-out_numbers : goal.returns-clause-out_numbers
returns-clause-out_numbers g c =
    let f : Class g.row.M-State.Denot → g.row.M-State.Denot = λ x. x.state in
    let none : c.loop-class.rest.items ≡ [] = search rules in
    none_left g.M.Machine.view g.met.M.Machine.lawful c.args.machine.now c.loop-class.machine (class_numbers g.M.Machine.view c.args.classes)
    (map f c.loop-class.rest.items) c.loop-class.invariant.left (ap (map f) none)
