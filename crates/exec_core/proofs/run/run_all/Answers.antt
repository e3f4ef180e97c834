use Rattle.std.proofs.Common.{rules, ◌≡◌, ◌==◌, false, vec_len, length, arith, ap, ◌∙◌, subst}
use Rattle.std.proofs.lemmas.Bool.Decides.{nat_tests}
use Rattle.code_form.specs.Variant.{variant_of}
use Rattle.traces.specs.Meanings.{Meanings}
use Rattle.code_form.specs.Trial.{trial_of}
use Rattle.exec_core.specs.Turned.{Turned, Refused}
use Rattle.exec_core.proofs.GoingLemmas.{going_more, closer, owed, refused_stops, none_opened, room_left, meter_left, tries_left, alone_left, are_held}
use Rattle.exec_core.proofs.TurnLemmas.{on_err}
use Rattle.exec_core.proofs.OrderLemmas.{there_still}
use Rattle.exec_core.proofs.PickLemmas.{going_arranged, same_cost}
use Rattle.exec_core.proofs.EndingLemmas.{going_stops}
use Rattle.exec_core.proofs.run.run_all.Goals as goal

pub returns-in_err-open-clause-stopped : goal.returns-in_err-open-clause-stopped
returns-in_err-open-clause-stopped g c =
    let e = c.in_err-open.ensures in
    on_err c.from_residual.result
    (none_opened g.M.Machine.view g.met.M.Machine.lawful c.args.machine.now c.args.table.now c.args.start c.args.budget c.open.new.engine c.args.meter.now
    c.open.new.machine e.err e.counts e.err_lives e.err_ended)

pub take_turn-requires-clause-held : goal.take_turn-requires-clause-held
take_turn-requires-clause-held g c =
    are_held g.met.M.Machine.lawful c.args.table.now _ _ c.in_ok-open.ensures.few c.requires.budget c.requires.known c.turns.invariant.going
    (g.met.M.Machine.lawful.among c.args.machine.now c.args.start c.requires.out)

pub turns-init : goal.turns-init
turns-init g c = record {
  going = going_arranged _ _ c.arrange.ensures.arranged c.in_ok-open.ensures.going;
  idle = c.arrange.ensures.arranged.idle c.in_ok-open.ensures.idle;
  offered = c.in_ok-arrange.ensures.offered;
}

pub take_turn-requires-clause-some : goal.take_turn-requires-clause-some
take_turn-requires-clause-some g c =
    let E = c.turns.engine in
    let none : (vec_len E.lives == 0) ≡ false = search rules in
    grind (arith, nat_tests)

pub take_turn-requires-clause-known : goal.take_turn-requires-clause-known
take_turn-requires-clause-known g c m p = ap (λ (A : Meanings g.M.Machine.Meaning g.row.M-Change.Denot). A.knows p (variant_of c.args.table.now m p))
    c.turns.invariant.going.keeps.meanings ∙ c.requires.known m p

pub take_turn-requires-clause-room : goal.take_turn-requires-clause-room
take_turn-requires-clause-room g c = room_left g.met.M.Machine.lawful c.args.table.now _ _ c.in_ok-open.ensures.few c.requires.budget c.requires.known
    c.turns.invariant.going c.requires.room

pub take_turn-requires-clause-room_to_count : goal.take_turn-requires-clause-room_to_count
take_turn-requires-clause-room_to_count g c =
    meter_left g.met.M.Machine.lawful c.args.table.now _ _ c.in_ok-open.ensures.few c.requires.budget c.requires.known c.turns.invariant.going
    c.requires.room_to_count

pub take_turn-requires-clause-tries : goal.take_turn-requires-clause-tries
take_turn-requires-clause-tries g c = tries_left g.met.M.Machine.lawful c.args.table.now _ _ c.in_ok-open.ensures.few c.requires.budget c.requires.known
    c.turns.invariant.going

pub take_turn-requires-clause-alone : goal.take_turn-requires-clause-alone
take_turn-requires-clause-alone g c = alone_left g.met.M.Machine.lawful c.args.table.now _ _ c.in_ok-open.ensures.few c.requires.budget c.requires.known
    c.turns.invariant.going

pub turns-preserved : goal.turns-preserved
turns-preserved g c =
    let V = g.M.Machine.view in let w = V.stands c.args.machine.now c.args.start in let i = c.turns in let t = c.in_ok-at.ensures.took w in
    let turned = subst (λ (A : Meanings g.M.Machine.Meaning g.row.M-Change.Denot). Turned V (trial_of A c.args.table.now w c.args.budget) i.machine
    c.take_turn.new.machine t.at i.engine c.take_turn.new.engine i.meter c.take_turn.new.meter) i.invariant.going.keeps.meanings t.turned in
    record {
      going = going_arranged _ _ c.rearrange.ensures.arranged
          (going_more g.met.M.Machine.lawful c.args.table.now _ _ c.in_ok-open.ensures.few c.requires.budget c.requires.known c.turns.invariant.going
          (g.met.M.Machine.lawful.among c.args.machine.now c.args.start c.requires.out) c.in_ok-at.ensures.held c.in_ok-at.ensures.keeps turned);
      idle = c.rearrange.ensures.arranged.idle c.in_ok-at.ensures.idle;
      offered = c.in_ok-rearrange.ensures.offered i.engine.lives.items i.invariant.offered c.in_ok-at.ensures.replaced;
    }

pub turns-smaller : goal.turns-smaller
turns-smaller g c =
    let V = g.M.Machine.view in let w = V.stands c.args.machine.now c.args.start in let i = c.turns in let t = c.in_ok-at.ensures.took w in
    let turned = subst (λ (A : Meanings g.M.Machine.Meaning g.row.M-Change.Denot). Turned V (trial_of A c.args.table.now w c.args.budget) i.machine
    c.take_turn.new.machine t.at i.engine c.take_turn.new.engine i.meter c.take_turn.new.meter) i.invariant.going.keeps.meanings t.turned in
    let l = closer g.met.M.Machine.lawful c.args.table.now _ _ c.in_ok-open.ensures.few c.requires.budget c.requires.known c.turns.invariant.going
    (g.met.M.Machine.lawful.among c.args.machine.now c.args.start c.requires.out)
    c.in_ok-at.ensures.held c.in_ok-at.ensures.keeps turned in
    let o = owed g.met.M.Machine.lawful c.args.table.now _ _ c.in_ok-open.ensures.few c.requires.budget c.requires.known c.turns.invariant.going
    (g.met.M.Machine.lawful.among c.args.machine.now c.args.start c.requires.out)
    c.in_ok-at.ensures.held c.in_ok-at.ensures.keeps turned in
    let s = same_cost V c.take_turn.new.machine c.rearrange.ensures.arranged (λ m n. 1) in
    omega (arith, l, o, s)

pub returns-in_err-arrange-clause-stopped : goal.returns-in_err-arrange-clause-stopped
returns-in_err-arrange-clause-stopped g c =
    on_err c.from_residual-in_err-arrange.result
    (going_stops g.met.M.Machine.lawful c.args.table.now _ _ (going_arranged _ _ c.arrange.ensures.arranged c.in_ok-open.ensures.going))

pub returns-in_err-arrange-clause-idle : goal.returns-in_err-arrange-clause-idle
returns-in_err-arrange-clause-idle g c = c.arrange.ensures.arranged.idle c.in_ok-open.ensures.idle

pub returns-in_err-rearrange-clause-stopped : goal.returns-in_err-rearrange-clause-stopped
returns-in_err-rearrange-clause-stopped g c =
    let V = g.M.Machine.view in let w = V.stands c.args.machine.now c.args.start in let i = c.turns in let t = c.in_ok-at.ensures.took w in
    let turned = subst (λ (A : Meanings g.M.Machine.Meaning g.row.M-Change.Denot). Turned V (trial_of A c.args.table.now w c.args.budget) i.machine
    c.take_turn.new.machine t.at i.engine c.take_turn.new.engine i.meter c.take_turn.new.meter) i.invariant.going.keeps.meanings t.turned in
    on_err c.from_residual-in_err-rearrange.result (going_stops g.met.M.Machine.lawful c.args.table.now _ _ (going_arranged _ _ c.rearrange.ensures.arranged
    (going_more g.met.M.Machine.lawful c.args.table.now _ _ c.in_ok-open.ensures.few c.requires.budget c.requires.known c.turns.invariant.going
    (g.met.M.Machine.lawful.among c.args.machine.now c.args.start c.requires.out)
    c.in_ok-at.ensures.held c.in_ok-at.ensures.keeps turned)))

pub returns-in_err-rearrange-clause-idle : goal.returns-in_err-rearrange-clause-idle
returns-in_err-rearrange-clause-idle g c = c.rearrange.ensures.arranged.idle c.in_ok-at.ensures.idle

pub rearrange-requires-clause-at : goal.rearrange-requires-clause-at
rearrange-requires-clause-at g c = omega (arith, c.in_ok-at.ensures.at, ap length c.deref.ensures.value, c.turns.offers.ok.0)

pub rearrange-requires-clause-there : goal.rearrange-requires-clause-there
rearrange-requires-clause-there g c is =
    let n = there_still c.turns.engine.lives.items c.take_turn.new.engine.lives.items c.turns.offers.items c.in_ok-at.at c.in_ok-at.taken is
    c.in_ok-at.ensures.replaced c.turns.invariant.offered (omega (arith, c.in_ok-at.ensures.at, ap length c.deref.ensures.value)) in
    omega (arith, n, c.take_turn.new.engine.lives.ok.0)

pub returns-in_err-at-clause-stopped : goal.returns-in_err-at-clause-stopped
returns-in_err-at-clause-stopped g c =
    let V = g.M.Machine.view in let w = V.stands c.args.machine.now c.args.start in let i = c.turns in let r = c.in_err-at.ensures.refused w in
    on_err c.from_residual-in_err-at.result
    (refused_stops g.met.M.Machine.lawful c.args.table.now _ _ c.in_ok-open.ensures.few c.requires.budget c.requires.known c.turns.invariant.going
    (g.met.M.Machine.lawful.among c.args.machine.now c.args.start c.requires.out)
    c.take_turn.ensures.held c.take_turn.ensures.keeps
    (subst (λ (A : Meanings g.M.Machine.Meaning g.row.M-Change.Denot). Refused V (trial_of A c.args.table.now w c.args.budget) i.machine
    c.take_turn.new.machine r.at i.engine c.take_turn.new.engine i.meter c.take_turn.new.meter) i.invariant.going.keeps.meanings r.refused))
