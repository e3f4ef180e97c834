use Rattle.std.proofs.Common.{rules, ◌≡◌, ℕ, List, [], ◌<◌, ◌==◌, true, length, arith, sym, ap, ◌∙◌, subst}
use Rattle.std.specs.List.{All, filter}
use Rattle.std.proofs.lemmas.Bool.{eqb-true}
use Rattle.std.proofs.lemmas.List.{length-map}
use Rattle.traces.specs.Meanings.{Meanings, IsSameTest}
use Rattle.traces.specs.Trace.{Trial, change_of}
use Rattle.traces.specs.Configuration.{Execution, same_change, is_leader}
use Rattle.traces.proofs.Steps.{length_map}
use Rattle.change_classes.specs.First.{first_equal}
use Rattle.member_sets.specs.Members.{IsMemberList}
use Rattle.exec_core.specs.Executions.{execution_of}
use Rattle.code_form.specs.Trial.{trial_of}
use Rattle.exec_core.specs.Plans.{own_firsts, plans_of, plans_at}
use Rattle.exec_core.specs.declared.plan.Plan.{Plan}
use Rattle.exec_core.specs.ClassTable.{HasClasses}
use Rattle.exec_core.proofs.Holding.{All-from_contains}
use Rattle.exec_core.proofs.PlanLemmas.{within_table, parts_planned, changes_planned, planned, one_plan, some_change, lone, all_alike}
use Rattle.exec_core.proofs.PlannedLemmas.{some_plan}
use Rattle.exec_core.proofs.plan.make_plans.Goals as goal

-- what was found of the classes, of the lists that the calls were given
grouped_by : {W C : Type 0} {A B : Meanings W C} {xs cs : List C} {ns : List ℕ} → ns ≡ first_equal B.same xs → B ≡ A → xs ≡ cs → ns ≡ first_equal A.same cs
grouped_by {W} {C} {A} {B} {xs} h m e = h ∙ ap (λ (D : Meanings W C). first_equal D.same xs) m ∙ ap (first_equal A.same) e

has_for : {xs vs ms ns ts us : List ℕ} → HasClasses xs ms ts → xs ≡ vs → ms ≡ ns → us ≡ ts → HasClasses vs ns us
has_for {xs} {vs} {ms} {ns} {ts} h a b w =
    subst (HasClasses vs ns) (sym w) (subst (λ ys. HasClasses vs ys ts) b (subst (λ ys. HasClasses ys ms ts) a h))

nothing_planned : {W C : Type 0} (T : Trial W C) → IsSameTest T.meanings → (e : Execution W) → IsMemberList e.members → {plans : List (Plan C)}
    → plans_of plans ≡ plans_at T e → plans ≡ [] → ⊥
nothing_planned {W} {C} T same e is h none =
    let n = some_plan T same e is h in let k = ap (λ (ps : List (Plan C)). length (plans_of ps)) none in omega arith

pub group-requires : goal.group-requires
group-requires g c =
    let A = g.M.Machine.view.meanings c.args.machine.now in let w = g.M.Machine.view.stands c.args.machine.now c.args.e.now.state in
    let t = c.in_ok-try_members.ensures in let n = length-map c.try_members.new.variants.items (λ v. A.next v w) in
    omega (arith, n, ap length c.deref.ensures.value, ap length t.changes, t.few)

pub split_by-requires : goal.split_by-requires
split_by-requires g c =
    let V = g.M.Machine.view in let m = c.args.machine.now in let A = V.meanings m in let w = V.stands m c.args.e.now.state in
    let T = trial_of A c.args.table.now w 0 in let e = execution_of V m c.args.e.now in let t = c.in_ok-try_members.ensures in let l =
    g.met.M.Machine.lawful.same m in
    let grouped = grouped_by c.in_ok-numbers.ensures t.keeps.meanings c.deref.ensures.value in
    let has = has_for c.in_ok-write_classes.ensures c.deref-2.ensures.value c.as_slice-2.ensures c.deref-3.ensures.value in
    All-from_contains (λ k. T.variant k c.place-place.result.0 < length c.deref-3.result.now) c.args.e.now.members
    (within_table T l e t.members (t.variants w 0) t.changes grouped c.place-place.ensures has)

pub plans_for-requires-clause-as_many : goal.plans_for-requires-clause-as_many
plans_for-requires-clause-as_many g c =
    let V = g.M.Machine.view in let m = c.args.machine.now in let A = V.meanings m in let w = V.stands m c.args.e.now.state in
    let T = trial_of A c.args.table.now w 0 in let e = execution_of V m c.args.e.now in let t = c.in_ok-try_members.ensures in let l =
    g.met.M.Machine.lawful.same m in
    let grouped = grouped_by c.in_ok-numbers.ensures t.keeps.meanings c.deref.ensures.value in
    let has = has_for c.in_ok-write_classes.ensures c.deref-2.ensures.value c.as_slice-2.ensures c.deref-3.ensures.value in
    let ps = parts_planned T l e t.members (t.variants w 0) t.changes grouped c.place-place.ensures has c.in_ok-parts.ensures in
    let ds = changes_planned T l e t.members (t.variants w 0) t.changes grouped c.place-place.ensures in
    ap length ps ∙ length_map (λ k. filter (same_change T e k) e.members) (filter (is_leader T e) e.members)
    ∙ sym (length_map (λ k. change_of T k e.state) (filter (is_leader T e) e.members))
    ∙ sym (ap length ds) ∙ ap (λ xs. length (own_firsts xs 0 c.try_members.new.changes.items)) (sym c.as_slice-3.ensures)

-- one change was made
pub returns-then-len-eq1-clause-one : goal.returns-then-len-eq1-clause-one
returns-then-len-eq1-clause-one g c none x h start budget =
    let V = g.M.Machine.view in let m = c.args.machine.now in let t = c.in_ok-try_members.ensures in let cs = c.try_members.new.changes in
    let test : (c.len.result == 1) ≡ true = search rules in
    let n : length cs.items ≡ 1 = (let k = eqb-true c.len.result 1 test in omega (arith, k, c.len.ensures, cs.ok.0)) in
    one_plan (trial_of (V.meanings m) c.args.table.now start budget) (g.met.M.Machine.lawful.same m) (execution_of V m c.args.e.now) t.members
    (t.variants start budget) t.changes x (lone cs.items x n h)

-- several changes were made, and all are equal
pub returns-then-are_zero-clause-one : goal.returns-then-are_zero-clause-one
returns-then-are_zero-clause-one g c none x h start budget =
    let V = g.M.Machine.view in let m = c.args.machine.now in let A = V.meanings m in let t = c.in_ok-try_members.ensures in
    let cs = c.try_members.new.changes.items in let same = g.met.M.Machine.lawful.same m in
    let zero = c.are_zero.ensures.0 (search rules) in
    let grouped = c.as_slice.ensures ∙ grouped_by c.in_ok-numbers.ensures t.keeps.meanings c.deref.ensures.value in
    one_plan (trial_of A c.args.table.now start budget) same (execution_of V m c.args.e.now) t.members
    (t.variants start budget) t.changes x (all_alike A.same same.sound cs c.as_slice.result.now x grouped zero h)

pub returns-then-are_zero-clause-some : goal.returns-then-are_zero-clause-some
returns-then-are_zero-clause-some g c none =
    let V = g.M.Machine.view in let m = c.args.machine.now in let w = V.stands m c.args.e.now.state in let t = c.in_ok-try_members.ensures in
    let n = some_change (trial_of (V.meanings m) c.args.table.now w 0) (g.met.M.Machine.lawful.same m) (execution_of V m c.args.e.now) t.members
    (t.variants w 0) t.changes in
    omega (arith, n, c.try_members.new.changes.ok.0)

pub returns-clause-several : goal.returns-clause-several
returns-clause-several g c some start budget =
    let V = g.M.Machine.view in let m = c.args.machine.now in let A = V.meanings m in let w = V.stands m c.args.e.now.state in
    let T = trial_of A c.args.table.now start budget in let e = execution_of V m c.args.e.now in let t = c.in_ok-try_members.ensures in let l =
    g.met.M.Machine.lawful.same m in
    let grouped = grouped_by c.in_ok-numbers.ensures t.keeps.meanings c.deref.ensures.value in
    let has = has_for c.in_ok-write_classes.ensures c.deref-2.ensures.value c.as_slice-2.ensures c.deref-3.ensures.value in
    planned T l e t.members (t.variants start budget) t.changes grouped c.place-place.ensures c.in_ok-plans.plans.items
    c.in_ok-plans.ensures.members c.in_ok-plans.ensures.changes
    (parts_planned T l e t.members (t.variants start budget) t.changes grouped c.place-place.ensures has c.in_ok-parts.ensures)
    (ap (λ xs. own_firsts xs 0 c.try_members.new.changes.items) c.as_slice-3.ensures
    ∙ changes_planned T l e t.members (t.variants start budget) t.changes grouped c.place-place.ensures)

pub returns-clause-some : goal.returns-clause-some
returns-clause-some g c none =
    let V = g.M.Machine.view in let m = c.args.machine.now in let A = V.meanings m in let w = V.stands m c.args.e.now.state in
    let T = trial_of A c.args.table.now w 0 in let e = execution_of V m c.args.e.now in let t = c.in_ok-try_members.ensures in let l =
    g.met.M.Machine.lawful.same m in
    let grouped = grouped_by c.in_ok-numbers.ensures t.keeps.meanings c.deref.ensures.value in
    let has = has_for c.in_ok-write_classes.ensures c.deref-2.ensures.value c.as_slice-2.ensures c.deref-3.ensures.value in
    let planned_here = planned T l e t.members (t.variants w 0) t.changes grouped c.place-place.ensures c.in_ok-plans.plans.items
    c.in_ok-plans.ensures.members c.in_ok-plans.ensures.changes
    (parts_planned T l e t.members (t.variants w 0) t.changes grouped c.place-place.ensures has c.in_ok-parts.ensures)
    (ap (λ xs. own_firsts xs 0 c.try_members.new.changes.items) c.as_slice-3.ensures
    ∙ changes_planned T l e t.members (t.variants w 0) t.changes grouped c.place-place.ensures) in
    absurd (nothing_planned T l e t.members planned_here none)

pub returns-clause-one : goal.returns-clause-one
returns-clause-one g c none x h start budget =
    let V = g.M.Machine.view in let m = c.args.machine.now in let A = V.meanings m in let w = V.stands m c.args.e.now.state in
    let T = trial_of A c.args.table.now w 0 in let e = execution_of V m c.args.e.now in let t = c.in_ok-try_members.ensures in let l =
    g.met.M.Machine.lawful.same m in
    let grouped = grouped_by c.in_ok-numbers.ensures t.keeps.meanings c.deref.ensures.value in
    let has = has_for c.in_ok-write_classes.ensures c.deref-2.ensures.value c.as_slice-2.ensures c.deref-3.ensures.value in
    let planned_here = planned T l e t.members (t.variants w 0) t.changes grouped c.place-place.ensures c.in_ok-plans.plans.items
    c.in_ok-plans.ensures.members c.in_ok-plans.ensures.changes
    (parts_planned T l e t.members (t.variants w 0) t.changes grouped c.place-place.ensures has c.in_ok-parts.ensures)
    (ap (λ xs. own_firsts xs 0 c.try_members.new.changes.items) c.as_slice-3.ensures
    ∙ changes_planned T l e t.members (t.variants w 0) t.changes grouped c.place-place.ensures) in
    absurd (nothing_planned T l e t.members planned_here none)
