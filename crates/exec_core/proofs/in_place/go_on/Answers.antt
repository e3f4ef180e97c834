use Rattle.std.proofs.Common.{◌≡◌, ◌<◌, List, [], ◌∷◌, ◌++◌, length, map, set, get_or, arith, refl, sym, ap, ◌∙◌, subst, append-nil}
use Rattle.std.specs.List.{swap_remove}
use Rattle.std.proofs.lemmas.List.{get_or_default, get_or-set_same}
use Rattle.std.proofs.lemmas.List.Sums.{sum_by-cons}
use Rattle.exec_core.specs.Executions.{IsExecutionBack}
use Rattle.exec_core.specs.Turned.{Advanced, IsSettledThere}
use Rattle.exec_core.specs.declared.execution.Execution.{Execution as Concrete}
use Rattle.exec_core.proofs.OrderLemmas.{set_moved, set_there, there_now, same_there}
use Rattle.exec_core.proofs.StepLemmas.{steps_on, replaced_there}
use Rattle.exec_core.proofs.TurnLemmas.{on_err, at_index, first_there, stays_back}
use Rattle.exec_core.proofs.in_place.go_on.Goals as goal

pub returns-in_err-reserve-clause-err : goal.returns-in_err-reserve-clause-err
returns-in_err-reserve-clause-err g c = on_err c.from_residual.result (λ e h.
    let x = first_there c.args.engine.now.changes.items (omega (arith, c.requires.some, c.args.engine.now.changes.ok.0)) in
    stays_back g.met.M.Machine.lawful c.args.engine.now.lives.items c.args.at e h (c.requires.ready e x.0 h x.1).out)

pub make_change-requires-clause-ready : goal.make_change-requires-clause-ready
make_change-requires-clause-ready g c =
    let E = c.args.engine.now in
    c.requires.ready c.index_mut.result.now c.swap_remove-change.result
    (at_index E.lives.items c.args.at c.index_mut.result.now (omega (arith, c.requires.at, E.lives.ok.0)) c.index_mut.ensures.value)
    (at_index E.changes.items 0 c.swap_remove-change.result (omega (arith, c.requires.some, E.changes.ok.0)) c.swap_remove-change.ensures.value)

pub returns-in_err-make_change-clause-err : goal.returns-in_err-make_change-clause-err
returns-in_err-make_change-clause-err g c = on_err c.from_residual-in_err-make_change.result (λ e h.
    let V = g.M.Machine.view in let E = c.args.engine.now in let xs = E.lives.items in let was = c.index_mut.result.now in let now = c.make_change.new.e in
    let l : c.args.at < length xs = omega (arith, c.requires.at, E.lives.ok.0) in
    let same = same_there xs c.args.at was e (at_index xs c.args.at was l c.index_mut.ensures.value) h in
    record {
      back = now;
      is = subst (λ y. IsExecutionBack V c.args.machine.now c.make_change.new.machine y now) same c.in_err-make_change.ensures.err;
      lives_are = set_moved xs c.args.at l e now;
    })

pub settle_there-requires-clause-out : goal.settle_there-requires-clause-out
settle_there-requires-clause-out g c e h =
    let E = c.args.engine.now in let now = c.make_change.new.e in
    subst (λ (y : Concrete g.row.M-State.Denot). g.M.Machine.view.is_out c.make_change.new.machine y.state)
    (sym (there_now E.lives.items c.args.at now e (omega (arith, c.requires.at, E.lives.ok.0)) h)) c.in_ok-make_change.ensures.stepped.out

pub returns-clause-advanced : goal.returns-clause-advanced
returns-clause-advanced g c e x h hx =
    let V = g.M.Machine.view in let m = c.args.machine.now in let n = c.make_change.new.machine in let E = c.args.engine.now in let xs = E.lives.items in
    let was = c.index_mut.result.now in let now = c.make_change.new.e in let change = c.swap_remove-change.result in
    let L = c.settle_there.new.lives.items in let F = c.settle_there.new.ended.items in
    let l : c.args.at < length xs = omega (arith, c.requires.at, E.lives.ok.0) in
    let same = same_there xs c.args.at was e (at_index xs c.args.at was l c.index_mut.ensures.value) h in
    let one = same_there E.changes.items 0 change x (at_index E.changes.items 0 change (omega (arith, c.requires.some, E.changes.ok.0))
    c.swap_remove-change.ensures.value) hx in
    let settled = subst (λ es. IsSettledThere V n c.args.budget c.args.at now c.settle_there.result (set xs c.args.at now) L es F) c.reserve.ensures.items
    (c.settle_there.ensures now (set_there xs c.args.at now l)) in
    subst (λ y. Advanced V m n c.args.budget y ((y.members, x) ∷ []) (swap_remove xs c.args.at y) L E.ended.items F) same
    (subst (λ d. Advanced V m n c.args.budget was ((was.members, d) ∷ []) (swap_remove xs c.args.at was) L E.ended.items F) one
    (steps_on c.in_ok-make_change.ensures.stepped c.args.budget c.args.at xs L E.ended.items F l c.settle_there.result settled))

pub returns-clause-counted : goal.returns-clause-counted
returns-clause-counted g c e x h hx =
    let V = g.M.Machine.view in let m = c.args.machine.now in let A = V.meanings m in let E = c.args.engine.now in let xs = E.lives.items in
    let was = c.index_mut.result.now in let now = c.make_change.new.e in let change = c.swap_remove-change.result in
    let l : c.args.at < length xs = omega (arith, c.requires.at, E.lives.ok.0) in
    let same = same_there xs c.args.at was e (at_index xs c.args.at was l c.index_mut.ensures.value) h in
    let one = same_there E.changes.items 0 change x (at_index E.changes.items 0 change (omega (arith, c.requires.some, E.changes.ok.0))
    c.swap_remove-change.ensures.value) hx in
    let s = c.in_ok-make_change.ensures.stepped in
    let w : A.weight change ≡ A.weight x = ap A.weight one in
    let q = sum_by-cons (λ (p : List Rattle.std.proofs.Common.ℕ × g.row.M-Change.Denot). A.weight p.1) (e.members, x) [] in
    let many : length c.index.result.now.members ≡ length e.members = ap (λ (y : Concrete g.row.M-State.Denot). length y.members)
    (c.index.ensures ∙ get_or-set_same xs c.args.at now c.index.result.now l) ∙ ap length s.members
    ∙ ap (λ (y : Concrete g.row.M-State.Denot). length y.members) same in
    record {
      meter = omega (arith, s.meter);
      applied = omega (arith, s.counts.applied);
      weighed = omega (arith, s.counts.weighed, w, q);
      readied = omega (arith, s.counts.readied, w, q);
      tried = omega (arith, s.counts.tried);
      asks = λ port. omega (arith, s.counts.asks port);
      tries = omega (arith, c.len.ensures, E.variants.ok.0);
      alone = omega (arith, c.from.ensures, c.len-2.ensures.value, many);
      splits = sym (append-nil _);
    }

pub returns-clause-replaced : goal.returns-clause-replaced
returns-clause-replaced g c =
    let V = g.M.Machine.view in let n = c.make_change.new.machine in let E = c.args.engine.now in let xs = E.lives.items in
    let was = c.index_mut.result.now in let now = c.make_change.new.e in let s = c.in_ok-make_change.ensures.stepped in
    let l : c.args.at < length xs = omega (arith, c.requires.at, E.lives.ok.0) in
    let kept = s.members ∙ ap (λ (y : Concrete g.row.M-State.Denot). y.members) (c.index_mut.ensures.value ∙ get_or_default xs c.args.at was now l) in
    replaced_there s c.args.budget c.args.at xs c.settle_there.new.lives.items _ c.settle_there.new.ended.items l c.settle_there.result kept
    (c.settle_there.ensures now (set_there xs c.args.at now l))
