use Rattle.std.proofs.Common.{◌≡◌, ◌+◌, [], ◌∷◌, ◌++◌, arith, ◌∙◌, refl, sym, ap, subst, vec_len, List, map, ℕ}
use Rattle.std.specs.Option.{option_to_list}
use Rattle.std.specs.List.{All, IsDistinct}
use Rattle.std.proofs.lemmas.List.Elements.{All-map}
use Rattle.exec_core.specs.Plans.{states_of, plans_of}
use Rattle.exec_core.specs.Children.{AreReadying, IsPlanned, numbers_of, weights_of}
use Rattle.exec_core.specs.declared.plan.Plan.{Plan}
use Rattle.exec_core.proofs.PrepareLemmas.{children_distinct, children_planned, prepared, plans_moved, weights_are, own_child}
use Rattle.traces.specs.View.{IsKnown}
use Rattle.std.proofs.lemmas.List.Sorted.{IsPermutation-sym}
use Rattle.std.proofs.lemmas.Map.Keys.{IsDistinct-IsPermutation}
use Rattle.exec_machine.proofs.Numbers.{flips}
use Rattle.exec_core.proofs.PrepareLemmas.{left_distinct}
use Rattle.exec_core.proofs.RefusalLemmas.{readying_length, readying_out, readying_distinct, fork_refused, ready_refused}
use Rattle.exec_core.proofs.divide.prepare.Goals as goal

pub put-requires : goal.put-requires
put-requires g c =
    let one = ap (λ r. Rattle.std.proofs.Common.length (option_to_list r)) c.unwrap-last.ensures in
    omega (arith, one, c.fork_plans.ensures.len, c.fork_plans.ensures.capacity, c.requires.room, c.pop.ensures.len)

pub release_children-requires-clause-distinct : goal.release_children-requires-clause-distinct
release_children-requires-clause-distinct g c =
    let V = g.M.Machine.view in let f = c.in-Err.ensures.forks in
    left_distinct (map V.number (states_of c.fork_plans.new.children.items)) (V.out_numbers c.args.machine.now)
    (IsDistinct-IsPermutation Rattle.std.specs.Prelude.nat_eq flips _ _ (IsPermutation-sym _ _ f.numbers)
    (g.met.M.Machine.lawful.distinct c.fork_plans.new.machine))

pub ready_all-requires-clause-planned : goal.ready_all-requires-clause-planned
ready_all-requires-clause-planned g c =
    let V = g.M.Machine.view in let e = c.in-Ok.ensures in let A = V.meanings c.args.machine.now in
    let known : All (λ x. IsKnown A (V.stands c.args.machine.now c.args.own) x.1) (plans_of c.args.plans.now.items) =
    All-map (λ (x : List ℕ × g.row.M-Change.Denot). IsKnown A (V.stands c.args.machine.now c.args.own) x.1)
    (λ (x : Plan g.row.M-Change.Denot). (x.members, x.change)) c.args.plans.now.items c.requires.known in
    subst (All (IsPlanned V c.fork_plans.new.machine)) (sym c.put.ensures.items)
    (children_planned g.met.M.Machine.lawful c.requires.out _ e.forks e.keeps (own_child c.args.own c.unwrap-last.result) refl c.requires.live known
    (plans_moved _ _ c.args.own c.pop.ensures.items c.unwrap-last.ensures c.in-Ok.ensures.plans))

pub ready_all-requires-clause-distinct : goal.ready_all-requires-clause-distinct
ready_all-requires-clause-distinct g c =
    let e = c.in-Ok.ensures in
    subst (λ xs. IsDistinct Rattle.std.specs.Prelude.nat_eq (numbers_of g.M.Machine.view xs)) (sym c.put.ensures.items)
    (children_distinct g.met.M.Machine.lawful c.requires.out _ e.forks e.keeps (own_child c.args.own c.unwrap-last.result) refl)

pub ready_all-requires-clause-room_to_ready : goal.ready_all-requires-clause-room_to_ready
ready_all-requires-clause-room_to_ready g c =
    let V = g.M.Machine.view in let e = c.in-Ok.ensures in let A = V.meanings c.args.machine.now in
    let m = ap (λ B. weights_of B c.put.new.v.items) e.keeps.meanings ∙ ap (weights_of A) c.put.ensures.items
    ∙ weights_are A.weight _ (plans_moved _ _ c.args.own c.pop.ensures.items c.unwrap-last.ensures c.in-Ok.ensures.plans) in
    omega (arith, m, e.counts.readied, c.requires.room_to_ready)

pub give_back-requires-clause-some : goal.give_back-requires-clause-some
give_back-requires-clause-some g c =
    let n = readying_length g.M.Machine.view c.in-Err-ready_all.ensures.children in
    omega (arith, n, c.put.ensures.len, c.put.new.v.ok.0, c.ready_all.new.children.ok.0, c.ready_all.new.readied.ok.0)

pub give_back-requires-clause-out : goal.give_back-requires-clause-out
give_back-requires-clause-out g c = readying_out g.M.Machine.view c.in-Err-ready_all.ensures.children

pub give_back-requires-clause-distinct : goal.give_back-requires-clause-distinct
give_back-requires-clause-distinct g c = readying_distinct g.M.Machine.view c.in-Err-ready_all.ensures.children

pub returns-in-Ok-ready_all-clause-prepared : goal.returns-in-Ok-ready_all-clause-prepared
returns-in-Ok-ready_all-clause-prepared g c =
    let V = g.M.Machine.view in let e = c.in-Ok.ensures in let A = V.meanings c.args.machine.now in
    let q = own_child c.args.own c.unwrap-last.result in
    let known : All (λ x. IsKnown A (V.stands c.args.machine.now c.args.own) x.1) (plans_of c.args.plans.now.items) =
    All-map (λ (x : List ℕ × g.row.M-Change.Denot). IsKnown A (V.stands c.args.machine.now c.args.own) x.1)
    (λ (x : Plan g.row.M-Change.Denot). (x.members, x.change)) c.args.plans.now.items c.requires.known in
    let r : AreReadying V c.fork_plans.new.machine c.ready_all.new.machine (c.fork_plans.new.children.items ++ q ∷ []) [] c.ready_all.new.readied.items =
    subst (λ xs. AreReadying V c.fork_plans.new.machine c.ready_all.new.machine xs [] c.ready_all.new.readied.items) c.put.ensures.items
    (subst (λ xs. AreReadying V c.fork_plans.new.machine c.ready_all.new.machine c.put.new.v.items xs c.ready_all.new.readied.items)
    c.in-Ok-ready_all.ensures.all c.in-Ok-ready_all.ensures.children) in
    prepared g.met.M.Machine.lawful c.requires.out _ e.forks e.keeps q refl c.requires.live known
    (plans_moved _ _ c.args.own c.pop.ensures.items c.unwrap-last.ensures c.in-Ok.ensures.plans) r

pub returns-in-Ok-ready_all-clause-readied : goal.returns-in-Ok-ready_all-clause-readied
returns-in-Ok-ready_all-clause-readied g c =
    let V = g.M.Machine.view in let e = c.in-Ok.ensures in let A = V.meanings c.args.machine.now in
    let m = ap (λ B. weights_of B c.put.new.v.items) e.keeps.meanings ∙ ap (weights_of A) c.put.ensures.items
    ∙ weights_are A.weight _ (plans_moved _ _ c.args.own c.pop.ensures.items c.unwrap-last.ensures c.in-Ok.ensures.plans) in
    omega (arith, m, e.counts.readied, c.in-Ok-ready_all.ensures.count_ok)

pub returns-in-Err-clause-err : goal.returns-in-Err-clause-err
returns-in-Err-clause-err g c =
    let e = c.in-Err.ensures in
    fork_refused g.met.M.Machine.lawful c.requires.out _ e.forks e.keeps c.release_children.ensures.out c.release_children.ensures.keeps

pub returns-in-Err-ready_all-clause-err : goal.returns-in-Err-ready_all-clause-err
returns-in-Err-ready_all-clause-err g c =
    let V = g.M.Machine.view in let e = c.in-Ok.ensures in
    let q = own_child c.args.own c.unwrap-last.result in
    let r : AreReadying V c.fork_plans.new.machine c.ready_all.new.machine (c.fork_plans.new.children.items ++ q
    ∷ []) c.ready_all.new.children.items c.ready_all.new.readied.items =
    subst (λ xs. AreReadying V c.fork_plans.new.machine c.ready_all.new.machine xs c.ready_all.new.children.items c.ready_all.new.readied.items)
    c.put.ensures.items c.in-Err-ready_all.ensures.children in
    ready_refused g.met.M.Machine.lawful c.requires.out _ e.forks e.keeps q refl r c.give_back.ensures.back

pub returns-in-Ok-ready_all-clause-readied_at_most : goal.returns-in-Ok-ready_all-clause-readied_at_most
returns-in-Ok-ready_all-clause-readied_at_most g c = omega (arith, returns-in-Ok-ready_all-clause-readied g c)

pub returns-in-Err-ready_all-clause-readied_at_most : goal.returns-in-Err-ready_all-clause-readied_at_most
returns-in-Err-ready_all-clause-readied_at_most g c =
    let V = g.M.Machine.view in let e = c.in-Ok.ensures in let A = V.meanings c.args.machine.now in
    let m = ap (λ B. weights_of B c.put.new.v.items) e.keeps.meanings ∙ ap (weights_of A) c.put.ensures.items
    ∙ weights_are A.weight _ (plans_moved _ _ c.args.own c.pop.ensures.items c.unwrap-last.ensures c.in-Ok.ensures.plans) in
    omega (arith, m, e.counts.readied, c.in-Err-ready_all.ensures.count_at_most, c.give_back.ensures.counts.readied)
