use Rattle.std.proofs.Common.{rules, ◌≡◌, ◌==◌, true, false, ◌<◌, [], ◌∷◌, vec_len, arith, refl, subst}
use Rattle.std.proofs.lemmas.Bool.{eqb-true}
use Rattle.std.proofs.lemmas.Bool.Decides.{nat_tests}
use Rattle.exec_core.specs.Plans.{plans_of}
use Rattle.exec_core.specs.Turned.{CanAdvance}
use Rattle.exec_core.proofs.Holding.{nowhere}
use Rattle.exec_core.proofs.OrderLemmas.{same_there}
use Rattle.exec_core.proofs.TurnLemmas.{on_err, at_index, e_out, e_live, taken_out, no_items, stays_back, ok_two, err_three, by_answer, first_there}
use Rattle.exec_core.proofs.TurnedLemmas.{not_counted, out, can_advance, has_turned, has_refused, still_held, held_again, keeps_others}
use Rattle.exec_core.proofs.turn.turn.Goals as goal

pub make_plans-requires-clause-out : goal.make_plans-requires-clause-out
make_plans-requires-clause-out g c =
    let E = c.args.engine.now in
    let p = taken_out c.index.ensures refl (omega (arith, c.requires.at, E.lives.ok.0)) in
    e_out g.met.M.Machine.lawful c.requires.held.held p

pub make_plans-requires-clause-live : goal.make_plans-requires-clause-live
make_plans-requires-clause-live g c =
    let E = c.args.engine.now in
    let p = taken_out c.index.ensures refl (omega (arith, c.requires.at, E.lives.ok.0)) in
    e_live g.met.M.Machine.lawful c.requires.held.held p

-- a refusal before anything was planned
pub returns-in_err-plans-clause-refused : goal.returns-in_err-plans-clause-refused
returns-in_err-plans-clause-refused g c = on_err c.from_residual.result (λ start.
    let V = g.M.Machine.view in let m = c.args.machine.now in let E = c.args.engine.now in let e = c.index.result.now in
    let l = g.met.M.Machine.lawful in let t = c.make_plans.ensures in
    let there = at_index E.lives.items c.args.at e (omega (arith, c.requires.at, E.lives.ok.0)) c.index.ensures in
    let o = t.keeps.out e.state (out l c.args.table.now c.args.at E c.requires.held there t.keeps t.out_numbers) (nowhere _) in
    has_refused l c.args.table.now c.args.at E c.requires.held there t.keeps t.out_numbers start refl (t.counts_within start c.args.budget)
    (stays_back l E.lives.items c.args.at e there o) refl not_counted)

pub returns-in_err-plans-clause-held : goal.returns-in_err-plans-clause-held
returns-in_err-plans-clause-held g c numbers h =
    let E = c.args.engine.now in let e = c.index.result.now in let l = g.met.M.Machine.lawful in let t = c.make_plans.ensures in
    let there = at_index E.lives.items c.args.at e (omega (arith, c.requires.at, E.lives.ok.0)) c.index.ensures in
    let o = t.keeps.out e.state (out l c.args.table.now c.args.at E c.requires.held there t.keeps t.out_numbers) (nowhere _) in
    held_again l c.args.table.now c.args.at E c.requires.held there t.keeps t.out_numbers (stays_back l E.lives.items c.args.at e there o) refl h

-- the members make one change
pub go_on-requires-clause-ready : goal.go_on-requires-clause-ready
go_on-requires-clause-ready g c e' x h hx =
    let V = g.M.Machine.view in let m = c.args.machine.now in let E = c.args.engine.now in let e = c.index.result.now in
    let l = g.met.M.Machine.lawful in let t = c.in_ok-plans.ensures in
    let there = at_index E.lives.items c.args.at e (omega (arith, c.requires.at, E.lives.ok.0)) c.index.ensures in
    let zero : (vec_len c.in_ok-plans.plans == 0) ≡ true = search rules in
    let none = no_items c.in_ok-plans.plans.items (let z = eqb-true (vec_len c.in_ok-plans.plans) 0 zero in omega (arith, z, c.in_ok-plans.plans.ok.0)) in
    subst (λ y. CanAdvance V c.make_plans.new.machine y ((y.members, x) ∷ [])) (same_there E.lives.items c.args.at e e' there h)
    (can_advance l c.args.table.now c.args.at E c.requires.held there t.keeps t.out_numbers (V.stands m e.state)
    (t.one none x hx (V.stands m e.state) c.args.budget) t.members c.requires.known c.requires.budget)

pub go_on-requires-clause-room_to_ready : goal.go_on-requires-clause-room_to_ready
go_on-requires-clause-room_to_ready g c =
    omega (arith, (c.in_ok-plans.ensures.counts (g.M.Machine.view.stands c.args.machine.now c.index.result.now.state) 0).readied, c.requires.room.readied)

pub go_on-requires-clause-room_to_apply : goal.go_on-requires-clause-room_to_apply
go_on-requires-clause-room_to_apply g c =
    omega (arith, (c.in_ok-plans.ensures.counts (g.M.Machine.view.stands c.args.machine.now c.index.result.now.state) 0).applied, c.requires.room.applied)

pub go_on-requires-clause-room_to_weigh : goal.go_on-requires-clause-room_to_weigh
go_on-requires-clause-room_to_weigh g c =
    omega (arith, (c.in_ok-plans.ensures.counts (g.M.Machine.view.stands c.args.machine.now c.index.result.now.state) 0).weighed, c.requires.room.weighed)

pub returns-then-is_empty-clause-turned : goal.returns-then-is_empty-clause-turned
returns-then-is_empty-clause-turned g c =
    let E = c.args.engine.now in let e = c.index.result.now in let l = g.met.M.Machine.lawful in let t = c.in_ok-plans.ensures in
    let there = at_index E.lives.items c.args.at e (omega (arith, c.requires.at, E.lives.ok.0)) c.index.ensures in
    let zero : (vec_len c.in_ok-plans.plans == 0) ≡ true = search rules in
    let none = no_items c.in_ok-plans.plans.items (let z = eqb-true (vec_len c.in_ok-plans.plans) 0 zero in omega (arith, z, c.in_ok-plans.plans.ok.0)) in
    let cs = c.make_plans.new.changes in let f = first_there cs.items (omega (arith, t.some none, cs.ok.0)) in let x = f.0 in
    ok_two c.go_on.result c.go_on.ensures.advanced c.go_on.ensures.counted (λ d q start.
    has_turned l c.args.table.now c.args.at E c.requires.held there t.keeps t.out_numbers start (t.one none x f.1 start c.args.budget)
    t.members (t.variants start c.args.budget) refl refl refl (t.counts start c.args.budget) (d e x there f.1) (q e x there f.1))

pub returns-then-is_empty-clause-refused : goal.returns-then-is_empty-clause-refused
returns-then-is_empty-clause-refused g c =
    let E = c.args.engine.now in let e = c.index.result.now in let l = g.met.M.Machine.lawful in let t = c.in_ok-plans.ensures in
    let there = at_index E.lives.items c.args.at e (omega (arith, c.requires.at, E.lives.ok.0)) c.index.ensures in
    let zero : (vec_len c.in_ok-plans.plans == 0) ≡ true = search rules in
    let none = no_items c.in_ok-plans.plans.items (let z = eqb-true (vec_len c.in_ok-plans.plans) 0 zero in omega (arith, z, c.in_ok-plans.plans.ok.0)) in
    let cs = c.make_plans.new.changes in let f = first_there cs.items (omega (arith, t.some none, cs.ok.0)) in let x = f.0 in
    err_three c.go_on.result c.go_on.ensures.err c.go_on.ensures.err_ended c.go_on.ensures.err_counted (λ b n q start.
    has_refused l c.args.table.now c.args.at E c.requires.held there t.keeps t.out_numbers start (t.one none x f.1 start c.args.budget)
    (c.make_plans.ensures.counts_within start c.args.budget) (b e there) n (q e x there f.1))

pub returns-then-is_empty-clause-held : goal.returns-then-is_empty-clause-held
returns-then-is_empty-clause-held g c numbers h =
    let E = c.args.engine.now in let e = c.index.result.now in let l = g.met.M.Machine.lawful in let t = c.in_ok-plans.ensures in
    let there = at_index E.lives.items c.args.at e (omega (arith, c.requires.at, E.lives.ok.0)) c.index.ensures in
    let zero : (vec_len c.in_ok-plans.plans == 0) ≡ true = search rules in
    let none = no_items c.in_ok-plans.plans.items (let z = eqb-true (vec_len c.in_ok-plans.plans) 0 zero in omega (arith, z, c.in_ok-plans.plans.ok.0)) in
    let cs = c.make_plans.new.changes in let f = first_there cs.items (omega (arith, t.some none, cs.ok.0)) in
    by_answer c.go_on.result c.go_on.ensures.advanced c.go_on.ensures.err c.go_on.ensures.err_ended
    (λ d. still_held l c.args.table.now c.args.at E c.requires.held there t.keeps t.out_numbers (d e f.0 there f.1) h)
    (λ b n. held_again l c.args.table.now c.args.at E c.requires.held there t.keeps t.out_numbers (b e there) n h)

pub returns-then-is_empty-clause-keeps : goal.returns-then-is_empty-clause-keeps
returns-then-is_empty-clause-keeps g c =
    let E = c.args.engine.now in let e = c.index.result.now in let l = g.met.M.Machine.lawful in let t = c.in_ok-plans.ensures in
    let there = at_index E.lives.items c.args.at e (omega (arith, c.requires.at, E.lives.ok.0)) c.index.ensures in
    let zero : (vec_len c.in_ok-plans.plans == 0) ≡ true = search rules in
    let none = no_items c.in_ok-plans.plans.items (let z = eqb-true (vec_len c.in_ok-plans.plans) 0 zero in omega (arith, z, c.in_ok-plans.plans.ok.0)) in
    let cs = c.make_plans.new.changes in let f = first_there cs.items (omega (arith, t.some none, cs.ok.0)) in
    by_answer c.go_on.result c.go_on.ensures.advanced c.go_on.ensures.err c.go_on.ensures.err_ended
    (λ d. keeps_others l c.args.table.now c.args.at E c.requires.held there t.keeps t.out_numbers (d e f.0 there f.1).keeps)
    (λ b n. keeps_others l c.args.table.now c.args.at E c.requires.held there t.keeps t.out_numbers (b e there).is.state.keeps)

-- they make several
pub part-requires-clause-ready : goal.part-requires-clause-ready
part-requires-clause-ready g c e' h =
    let V = g.M.Machine.view in let m = c.args.machine.now in let E = c.args.engine.now in let e = c.index.result.now in
    let l = g.met.M.Machine.lawful in let t = c.in_ok-plans.ensures in
    let there = at_index E.lives.items c.args.at e (omega (arith, c.requires.at, E.lives.ok.0)) c.index.ensures in
    let none : (vec_len c.in_ok-plans.plans == 0) ≡ false = search rules in
    let some : 0 < vec_len c.in_ok-plans.plans = grind (arith, nat_tests) in
    subst (λ y. CanAdvance V c.make_plans.new.machine y (plans_of c.in_ok-plans.plans.items)) (same_there E.lives.items c.args.at e e' there h)
    (can_advance l c.args.table.now c.args.at E c.requires.held there t.keeps t.out_numbers (V.stands m e.state)
    (t.several some (V.stands m e.state) c.args.budget) t.members c.requires.known c.requires.budget)

pub part-requires-clause-room_to_ready : goal.part-requires-clause-room_to_ready
part-requires-clause-room_to_ready g c =
    omega (arith, (c.in_ok-plans.ensures.counts (g.M.Machine.view.stands c.args.machine.now c.index.result.now.state) 0).readied, c.requires.room.readied)

pub part-requires-clause-room_to_apply : goal.part-requires-clause-room_to_apply
part-requires-clause-room_to_apply g c =
    omega (arith, (c.in_ok-plans.ensures.counts (g.M.Machine.view.stands c.args.machine.now c.index.result.now.state) 0).applied, c.requires.room.applied)

pub part-requires-clause-room_to_weigh : goal.part-requires-clause-room_to_weigh
part-requires-clause-room_to_weigh g c =
    omega (arith, (c.in_ok-plans.ensures.counts (g.M.Machine.view.stands c.args.machine.now c.index.result.now.state) 0).weighed, c.requires.room.weighed)

pub returns-in_err-part-clause-refused : goal.returns-in_err-part-clause-refused
returns-in_err-part-clause-refused g c = on_err c.from_residual-in_err-part.result (λ start.
    let E = c.args.engine.now in let e = c.index.result.now in let l = g.met.M.Machine.lawful in let t = c.in_ok-plans.ensures in
    let there = at_index E.lives.items c.args.at e (omega (arith, c.requires.at, E.lives.ok.0)) c.index.ensures in
    let none : (vec_len c.in_ok-plans.plans == 0) ≡ false = search rules in
    let some : 0 < vec_len c.in_ok-plans.plans = grind (arith, nat_tests) in
    let a = c.in_err-part.ensures in
    has_refused l c.args.table.now c.args.at E c.requires.held there t.keeps t.out_numbers start (t.several some start c.args.budget)
    (c.make_plans.ensures.counts_within start c.args.budget) (a.err e there) a.err_ended a.err_counted)

pub returns-in_err-part-clause-held : goal.returns-in_err-part-clause-held
returns-in_err-part-clause-held g c numbers h =
    let E = c.args.engine.now in let e = c.index.result.now in let l = g.met.M.Machine.lawful in let t = c.in_ok-plans.ensures in
    let there = at_index E.lives.items c.args.at e (omega (arith, c.requires.at, E.lives.ok.0)) c.index.ensures in
    held_again l c.args.table.now c.args.at E c.requires.held there t.keeps t.out_numbers (c.in_err-part.ensures.err e there) c.in_err-part.ensures.err_ended h

pub returns-in_err-part-clause-keeps : goal.returns-in_err-part-clause-keeps
returns-in_err-part-clause-keeps g c =
    let E = c.args.engine.now in let e = c.index.result.now in let l = g.met.M.Machine.lawful in let t = c.in_ok-plans.ensures in
    let there = at_index E.lives.items c.args.at e (omega (arith, c.requires.at, E.lives.ok.0)) c.index.ensures in
    keeps_others l c.args.table.now c.args.at E c.requires.held there t.keeps t.out_numbers (c.in_err-part.ensures.err e there).is.state.keeps

pub returns-clause-turned : goal.returns-clause-turned
returns-clause-turned g c start =
    let E = c.args.engine.now in let e = c.index.result.now in let l = g.met.M.Machine.lawful in let t = c.in_ok-plans.ensures in
    let there = at_index E.lives.items c.args.at e (omega (arith, c.requires.at, E.lives.ok.0)) c.index.ensures in
    let none : (vec_len c.in_ok-plans.plans == 0) ≡ false = search rules in
    let some : 0 < vec_len c.in_ok-plans.plans = grind (arith, nat_tests) in
    let a = c.in_ok-part.ensures in
    has_turned l c.args.table.now c.args.at E c.requires.held there t.keeps t.out_numbers start (t.several some start c.args.budget)
    t.members (t.variants start c.args.budget) refl refl refl (t.counts start c.args.budget) (a.advanced e there) (a.counted e there)

pub returns-clause-held : goal.returns-clause-held
returns-clause-held g c numbers h =
    let E = c.args.engine.now in let e = c.index.result.now in let l = g.met.M.Machine.lawful in let t = c.in_ok-plans.ensures in
    let there = at_index E.lives.items c.args.at e (omega (arith, c.requires.at, E.lives.ok.0)) c.index.ensures in
    still_held l c.args.table.now c.args.at E c.requires.held there t.keeps t.out_numbers (c.in_ok-part.ensures.advanced e there) h

pub returns-clause-keeps : goal.returns-clause-keeps
returns-clause-keeps g c =
    let E = c.args.engine.now in let e = c.index.result.now in let l = g.met.M.Machine.lawful in let t = c.in_ok-plans.ensures in
    let there = at_index E.lives.items c.args.at e (omega (arith, c.requires.at, E.lives.ok.0)) c.index.ensures in
    keeps_others l c.args.table.now c.args.at E c.requires.held there t.keeps t.out_numbers (c.in_ok-part.ensures.advanced e there).keeps
