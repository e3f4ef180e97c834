use Rattle.std.proofs.Common.{arith, ◌∙◌, ap}
use Rattle.exec_core.specs.Children.{weights_of}
use Rattle.exec_core.specs.Plans.{plans_of}
use Rattle.exec_core.proofs.PrepareLemmas.{weights_are}
use Rattle.exec_core.proofs.DivideLemmas.{divided, as_many}
use Rattle.exec_core.proofs.divide.divide.Goals as goal

pub apply_all-requires-clause-room : goal.apply_all-requires-clause-room
apply_all-requires-clause-room g c =
    let n = as_many _ _ c.in-Ok.ensures.prepared.planned in
    omega (arith, n, c.prepare.new.readied.ok.0, c.args.plans.now.ok.0, c.requires.room_lives)

pub apply_all-requires-clause-room_to_apply : goal.apply_all-requires-clause-room_to_apply
apply_all-requires-clause-room_to_apply g c =
    let n = as_many _ _ c.in-Ok.ensures.prepared.planned in
    omega (arith, n, c.prepare.new.readied.ok.0, c.args.plans.now.ok.0, c.requires.room_to_apply, c.in-Ok.ensures.applied)

pub apply_all-requires-clause-room_to_weigh : goal.apply_all-requires-clause-room_to_weigh
apply_all-requires-clause-room_to_weigh g c =
    let A = g.M.Machine.view.meanings c.args.machine.now in let p = c.in-Ok.ensures.prepared in
    let m = ap (λ B. weights_of B c.prepare.new.readied.items) p.keeps.meanings ∙ weights_are A.weight _ p.planned in
    omega (arith, m, c.requires.room_to_weigh, c.in-Ok.ensures.weighed)

pub returns-in-Ok-clause-divided : goal.returns-in-Ok-clause-divided
returns-in-Ok-clause-divided g c =
    divided _ g.met.M.Machine.lawful _ _ _ _ (plans_of c.args.plans.now.items) _ _ _ c.in-Ok.ensures.prepared c.apply_all.ensures.children

pub returns-in-Ok-clause-applied : goal.returns-in-Ok-clause-applied
returns-in-Ok-clause-applied g c =
    let n = as_many _ _ c.in-Ok.ensures.prepared.planned in
    omega (arith, n, c.prepare.new.readied.ok.0, c.args.plans.now.ok.0, c.apply_all.ensures.applied, c.in-Ok.ensures.applied)

pub returns-in-Ok-clause-weighed : goal.returns-in-Ok-clause-weighed
returns-in-Ok-clause-weighed g c =
    let A = g.M.Machine.view.meanings c.args.machine.now in let p = c.in-Ok.ensures.prepared in
    let m = ap (λ B. weights_of B c.prepare.new.readied.items) p.keeps.meanings ∙ weights_are A.weight _ p.planned in
    omega (arith, m, c.apply_all.ensures.weighed, c.in-Ok.ensures.weighed)

pub apply_all-requires-clause-room_to_count : goal.apply_all-requires-clause-room_to_count
apply_all-requires-clause-room_to_count g c =
    let n = as_many _ _ c.in-Ok.ensures.prepared.planned in
    omega (arith, n, c.prepare.new.readied.ok.0, c.args.plans.now.ok.0, c.requires.room_to_count)

pub returns-in-Ok-clause-meter : goal.returns-in-Ok-clause-meter
returns-in-Ok-clause-meter g c =
    let n = as_many _ _ c.in-Ok.ensures.prepared.planned in
    omega (arith, n, c.prepare.new.readied.ok.0, c.args.plans.now.ok.0, c.apply_all.ensures.meter)
