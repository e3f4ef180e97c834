use Rattle.std.proofs.Common.{◌≡◌, ◌<◌, List, ℕ, [], ◌∷◌, ◌++◌, length, map, nat_lt, if◌then◌else◌, slice_index, get_or, arith, refl, sym, ap, ◌∙◌, subst}
use Rattle.std.specs.List.{swap_remove}
use Rattle.std.specs.List.Sorted.{IsPermutation}
use Rattle.std.proofs.lemmas.List.Elements.{All-contains}
use Rattle.std.proofs.lemmas.List.Sorted.{IsPermutation-refl}
use Rattle.std.proofs.lemmas.Option.{get_or_from_slice_get}
use Rattle.traces.specs.View.{IsKnown}
use Rattle.traces.proofs.Steps.{length_map}
use Rattle.exec_core.specs.Engines.{split_seen}
use Rattle.exec_core.specs.Executions.{IsExecutionBack, IsPutBack}
use Rattle.exec_core.specs.Plans.{plans_of}
use Rattle.exec_core.specs.Turned.{Advanced}
use Rattle.exec_core.specs.declared.execution.Execution.{Execution as Concrete}
use Rattle.exec_core.specs.declared.plan.Plan.{Plan}
use Rattle.exec_core.proofs.ChildLemmas.{contains_map}
use Rattle.exec_core.proofs.Holding.{All-from_contains}
use Rattle.exec_core.proofs.OrderLemmas.{same_there}
use Rattle.exec_core.proofs.PlannedLemmas.{split_pairs}
use Rattle.exec_core.proofs.TurnLemmas.{on_err, at_index, stays_back, as_many_made, made_out, advanced}
use Rattle.exec_core.proofs.turn.part.Goals as goal

pub returns-in_err-note_split-clause-err : goal.returns-in_err-note_split-clause-err
returns-in_err-note_split-clause-err g c = on_err c.from_residual.result (λ e h.
    stays_back g.met.M.Machine.lawful c.args.engine.now.lives.items c.args.at e h (c.requires.ready e h).out)

pub returns-in_err-make_room-clause-err : goal.returns-in_err-make_room-clause-err
returns-in_err-make_room-clause-err g c = on_err c.from_residual-in_err-make_room.result (λ e h.
    let V = g.M.Machine.view in let m = c.args.machine.now in let xs = c.args.engine.now.lives.items in
    subst (IsPutBack V m m e (swap_remove xs c.args.at e)) (sym c.make_room.ensures.kept.lives)
    (stays_back g.met.M.Machine.lawful xs c.args.at e h (c.requires.ready e h).out))

pub divide-requires-clause-out : goal.divide-requires-clause-out
divide-requires-clause-out g c =
    let E = c.args.engine.now in let xs = E.lives.items in let e = c.swap_remove-e.result in
    let there = at_index xs c.args.at e (omega (arith, c.requires.at, E.lives.ok.0)) (c.swap_remove-e.ensures.value
    ∙ ap (λ ys. get_or ys c.args.at e) c.in_ok-make_room.ensures.kept.lives) in
    (c.requires.ready e there).out

pub divide-requires-clause-live : goal.divide-requires-clause-live
divide-requires-clause-live g c =
    let E = c.args.engine.now in let xs = E.lives.items in let e = c.swap_remove-e.result in
    let there = at_index xs c.args.at e (omega (arith, c.requires.at, E.lives.ok.0)) (c.swap_remove-e.ensures.value
    ∙ ap (λ ys. get_or ys c.args.at e) c.in_ok-make_room.ensures.kept.lives) in
    (c.requires.ready e there).live

pub divide-requires-clause-step : goal.divide-requires-clause-step
divide-requires-clause-step g c =
    let E = c.args.engine.now in let xs = E.lives.items in let e = c.swap_remove-e.result in
    let there = at_index xs c.args.at e (omega (arith, c.requires.at, E.lives.ok.0)) (c.swap_remove-e.ensures.value
    ∙ ap (λ ys. get_or ys c.args.at e) c.in_ok-make_room.ensures.kept.lives) in
    (c.requires.ready e there).step

pub divide-requires-clause-known : goal.divide-requires-clause-known
divide-requires-clause-known g c =
    let V = g.M.Machine.view in let m = c.args.machine.now in let plans = c.args.plans.now.items in
    let E = c.args.engine.now in let xs = E.lives.items in let e = c.swap_remove-e.result in
    let there = at_index xs c.args.at e (omega (arith, c.requires.at, E.lives.ok.0)) (c.swap_remove-e.ensures.value
    ∙ ap (λ ys. get_or ys c.args.at e) c.in_ok-make_room.ensures.kept.lives) in
    All-from_contains (λ p. IsKnown (V.meanings m) (V.stands m e.state) p.change) plans (λ p i.
    All-contains (λ y. IsKnown (V.meanings m) (V.stands m e.state) y.1) (plans_of plans) (p.members, p.change) (c.requires.ready e there).known
    (contains_map (λ (q : Plan g.row.M-Change.Denot). (q.members, q.change)) plans p i))

pub divide-requires-clause-room_to_ready : goal.divide-requires-clause-room_to_ready
divide-requires-clause-room_to_ready g c =
    let E = c.args.engine.now in let xs = E.lives.items in let e = c.swap_remove-e.result in
    let there = at_index xs c.args.at e (omega (arith, c.requires.at, E.lives.ok.0)) (c.swap_remove-e.ensures.value
    ∙ ap (λ ys. get_or ys c.args.at e) c.in_ok-make_room.ensures.kept.lives) in
    omega (arith, (c.requires.ready e there).light, c.requires.room_to_ready)

pub divide-requires-clause-room_to_weigh : goal.divide-requires-clause-room_to_weigh
divide-requires-clause-room_to_weigh g c =
    let E = c.args.engine.now in let xs = E.lives.items in let e = c.swap_remove-e.result in
    let there = at_index xs c.args.at e (omega (arith, c.requires.at, E.lives.ok.0)) (c.swap_remove-e.ensures.value
    ∙ ap (λ ys. get_or ys c.args.at e) c.in_ok-make_room.ensures.kept.lives) in
    omega (arith, (c.requires.ready e there).light, c.requires.room_to_weigh)

pub settle_all-requires-clause-out : goal.settle_all-requires-clause-out
settle_all-requires-clause-out g c = made_out (c.in_ok-make_room.ensures.kept.made ∙ c.requires.idle.made) c.in-Ok.ensures.divided

pub settle_all-requires-clause-room_lives : goal.settle_all-requires-clause-room_lives
settle_all-requires-clause-room_lives g c =
    let n = as_many_made (c.in_ok-make_room.ensures.kept.made ∙ c.requires.idle.made) c.in-Ok.ensures.divided in
    let m = length_map {Y = List ℕ × g.row.M-Change.Denot} (λ (x : Plan g.row.M-Change.Denot). (x.members, x.change)) c.args.plans.now.items in
    omega (
      arith,
      n,
      m,
      c.divide.new.lives.ok.0,
      c.args.plans.now.ok.0,
      c.len.ensures,
      c.in_ok-make_room.ensures.room.lives,
      c.swap_remove-e.ensures.len,
      c.swap_remove-e.ensures.capacity,
    )

pub settle_all-requires-clause-room_ended : goal.settle_all-requires-clause-room_ended
settle_all-requires-clause-room_ended g c =
    let n = as_many_made (c.in_ok-make_room.ensures.kept.made ∙ c.requires.idle.made) c.in-Ok.ensures.divided in
    let m = length_map {Y = List ℕ × g.row.M-Change.Denot} (λ (x : Plan g.row.M-Change.Denot). (x.members, x.change)) c.args.plans.now.items in
    omega (arith, n, m, c.divide.new.lives.ok.0, c.args.plans.now.ok.0, c.len.ensures, c.in_ok-make_room.ensures.room.ended)

pub returns-in-Ok-clause-advanced : goal.returns-in-Ok-clause-advanced
returns-in-Ok-clause-advanced g c e h =
    let V = g.M.Machine.view in let m = c.args.machine.now in let n = c.divide.new.machine in let plans = plans_of c.args.plans.now.items in
    let E = c.args.engine.now in let xs = E.lives.items in let was = c.swap_remove-e.result in let k = c.in_ok-make_room.ensures.kept in
    let L = c.settle_all.new.lives.items in let F = c.settle_all.new.ended.items in
    let there = at_index xs c.args.at was (omega (arith, c.requires.at, E.lives.ok.0)) (c.swap_remove-e.ensures.value ∙ ap (λ ys. get_or ys c.args.at was) k.lives) in
    subst (λ y. Advanced V m n c.args.budget y plans (swap_remove xs c.args.at y) L E.ended.items F) (same_there xs c.args.at was e there h)
    (subst (λ ys. Advanced V m n c.args.budget was plans ys L E.ended.items F) (c.swap_remove-e.ensures.items ∙ ap (λ ys. swap_remove ys c.args.at was) k.lives)
    (subst (λ ys. Advanced V m n c.args.budget was plans c.swap_remove-e.new.self.items L ys F) k.ended
    (advanced (k.made ∙ c.requires.idle.made) c.in-Ok.ensures.divided c.settle_all.ensures.settled)))

pub returns-in-Ok-clause-counted : goal.returns-in-Ok-clause-counted
returns-in-Ok-clause-counted g c e h =
    let plans = c.args.plans.now.items in let d = c.in-Ok.ensures in let E = c.args.engine.now in let xs = E.lives.items in
    let k = c.in_ok-make_room.ensures in let old = map split_seen E.splits.items in
    let m = length_map {Y = List ℕ × g.row.M-Change.Denot} (λ (x : Plan g.row.M-Change.Denot). (x.members, x.change)) plans in
    let stepped : c.index.result.now.step ≡ e.step = ap (λ (y : Concrete g.row.M-State.Denot). y.step)
    (c.index.ensures ∙ get_or_from_slice_get xs c.args.at e c.index.result.now h) in
    let many : length c.index-2.result.now.members ≡ length e.members = ap (λ (y : Concrete g.row.M-State.Denot). length y.members)
    (c.index-2.ensures ∙ ap (λ ys. get_or ys c.args.at c.index-2.result.now) k.kept.lives ∙ get_or_from_slice_get xs c.args.at e c.index-2.result.now h) in
    record {
      meter = omega (arith, d.meter, m);
      applied = omega (arith, d.applied, m);
      weighed = d.weighed;
      readied = d.readied;
      tried = c.divide.ensures.tried;
      asks = c.divide.ensures.asks;
      tries = omega (arith, k.tries, c.len-tried.ensures, E.variants.ok.0);
      alone = omega (arith, k.alone, c.from.ensures, c.len-2.ensures.value, many);
      splits = ap (map split_seen) k.splits ∙ c.in_ok-note_split.ensures ∙ ap (λ (ps : List (Plan g.row.M-Change.Denot)). old ++ (if nat_lt 1 (length ps)
          then (c.index.result.now.step, map (λ (p : Plan g.row.M-Change.Denot). slice_index p.members 0) ps) ∷ [] else [])) c.deref.ensures.value
          ∙ ap (λ s. old ++ (if nat_lt 1 (length plans) then (s, map (λ (p : Plan g.row.M-Change.Denot). slice_index p.members 0) plans) ∷ [] else [])) stepped
          ∙ ap (λ ys. old ++ ys) (split_pairs e.step plans);
    }

pub returns-in-Err-clause-err : goal.returns-in-Err-clause-err
returns-in-Err-clause-err g c e h =
    let V = g.M.Machine.view in let m = c.args.machine.now in let n = c.divide.new.machine in
    let E = c.args.engine.now in let xs = E.lives.items in let was = c.swap_remove-e.result in let k = c.in_ok-make_room.ensures.kept in
    let there = at_index xs c.args.at was (omega (arith, c.requires.at, E.lives.ok.0)) (c.swap_remove-e.ensures.value ∙ ap (λ ys. get_or ys c.args.at was) k.lives) in
    let same = same_there xs c.args.at was e there h in let back = c.in-Err.back in
    record {
      back = back;
      is = subst (λ y. IsExecutionBack V m n y back) same c.in-Err.ensures.err;
      lives_are = subst (IsPermutation (swap_remove xs c.args.at e ++ back ∷ [])) (sym (c.put.ensures.items ∙ ap (λ ys. ys ++ back ∷ [])
          (c.swap_remove-e.ensures.items ∙ ap (λ ys. swap_remove ys c.args.at was) k.lives ∙ ap (swap_remove xs c.args.at) same))) (IsPermutation-refl _);
    }
