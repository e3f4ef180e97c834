use Rattle.std.proofs.Common.{arith, ◌∷◌, [], ◌≡◌, ap, ◌∙◌, sym, subst, refl}
use Rattle.std.proofs.lemmas.List.Elements.{All-head}
use Rattle.traces.specs.Meanings.{Meanings}
use Rattle.traces.specs.View.{IsKnown}
use Rattle.exec_core.proofs.Holding.{keeps_more}
use Rattle.exec_core.proofs.in_place.make_change.Goals as goal

pub ready-requires-clause-known : goal.ready-requires-clause-known
ready-requires-clause-known g c =
    let V = g.M.Machine.view in let m = c.args.machine.now in let e = c.args.e.now in
    All-head (λ p. IsKnown (V.meanings m) (V.stands m e.state) p.1) (e.members, c.args.change) [] c.requires.ready.known

pub apply-requires-clause-known : goal.apply-requires-clause-known
apply-requires-clause-known g c =
    let V = g.M.Machine.view in let m = c.args.machine.now in let e = c.args.e.now in let r = c.ready.ensures in
    subst (λ (A : Meanings g.M.Machine.Meaning g.row.M-Change.Denot). IsKnown A (V.stands c.ready.new.self c.ready.new.s) c.args.change)
    (sym r.keeps.meanings) (subst (λ w. IsKnown (V.meanings m) w c.args.change) (sym r.state)
    (All-head (λ p. IsKnown (V.meanings m) (V.stands m e.state) p.1) (e.members, c.args.change) [] c.requires.ready.known))

pub returns-clause-stepped : goal.returns-clause-stepped
returns-clause-stepped g c =
    let V = g.M.Machine.view in let m = c.args.machine.now in let e = c.args.e.now in let x = c.args.change in
    let r = c.ready.ensures in let a = c.apply.ensures in let n = V.number e.state ∷ [] in
    let rc = c.in_ok-ready.ensures.counts in
    let w : (V.meanings c.ready.new.self).weight x ≡ (V.meanings m).weight x = ap (λ (A : Meanings g.M.Machine.Meaning g.row.M-Change.Denot). A.weight x)
    r.keeps.meanings in
    record {
      step = refl;
      members = refl;
      number = a.number ∙ r.number;
      out = a.out;
      stands = a.after ∙ ap (λ (A : Meanings g.M.Machine.Meaning g.row.M-Change.Denot). A.after (V.stands c.ready.new.self c.ready.new.s) x) r.keeps.meanings
          ∙ ap (λ s. (V.meanings m).after s x) r.state;
      out_numbers = a.out_numbers ∙ r.out_numbers;
      keeps = keeps_more _ g.met.M.Machine.lawful _ _ _ n (V.number c.ready.new.s ∷ []) n (λ j h. h)
          (λ j h. subst (λ k. Rattle.std.specs.List.Contains (k ∷ []) j) r.number h) r.keeps a.keeps;
      counts = record {
        tried = omega (arith, rc.tried, a.counts.tried);
        applied = omega (arith, rc.applied, a.counts.applied);
        weighed = omega (arith, rc.weighed, a.counts.weighed, w);
        readied = omega (arith, rc.readied, a.counts.readied);
        asks = λ port. omega (arith, rc.asks port, a.counts.asks port);
      };
      meter = c.raise.ensures;
    }
