use Rattle.std.proofs.Common.{◌≡◌, ℕ, ◌+◌, ◌-◌, ◌≤◌, suc, false, List, Option, map, arith, sym, ap, ◌∙◌, subst}
use Rattle.std.specs.Prelude.{is_some}
use Rattle.am_base.specs.declared.limits.TheConstants.{MEMORY_BYTES}
use Rattle.code_form.specs.Variant.{variant_of, instr_of}
use Rattle.machine_form.specs.declared.change.Change.{Change}
use Rattle.machine_form.specs.State.{State}
use Rattle.machine_form.specs.After.{after_change}
use Rattle.machine_form.specs.Machine.{next_by, case_trial}
use Rattle.ports.specs.Asks.{answers_in}
use Rattle.lane_eval.specs.Plain.{CanApply}
use Rattle.lane_eval.specs.Running.{IsRunning}
use Rattle.lane_eval.proofs.Steps.{variant_applies, variant_runs}
use Rattle.machine_form.proofs.LightChanges.{toll_small}
use Rattle.plain_machine.proofs.Turns.{state_over, length_over, tolls_over, state_spent, length_spent, tolls_spent, state_more, length_more, tolls_more, toll_left}
use Rattle.plain_machine.proofs.run.run.Goals as goal

pub returns-then-has_ended-clause-state : goal.returns-then-has_ended-clause-state
returns-then-has_ended-clause-state g c =
    let T = case_trial c.args.program.now c.args.variants.now (answers_in (map (λ q. (goal.Port-dyn g (q.vtable, q.value)).answers q.value) c.args.ports.now)) c.args.case.now in
    state_over T c.args.m (c.args.case.now.budget - c.loop-i.i) c.loop-i.s.state _ (sym c.has_ended.ensures ∙ c.if-has_ended.true) c.loop-i.invariant.state

pub returns-then-has_ended-clause-length : goal.returns-then-has_ended-clause-length
returns-then-has_ended-clause-length g c =
    let T = case_trial c.args.program.now c.args.variants.now (answers_in (map (λ q. (goal.Port-dyn g (q.vtable, q.value)).answers q.value) c.args.ports.now)) c.args.case.now in
    length_over T c.args.m (c.args.case.now.budget - c.loop-i.i) c.loop-i.s.state c.loop-i.i _ (sym c.has_ended.ensures ∙ c.if-has_ended.true) c.loop-i.invariant.length

pub returns-then-has_ended-clause-asks : goal.returns-then-has_ended-clause-asks
returns-then-has_ended-clause-asks g c p =
    let T = case_trial c.args.program.now c.args.variants.now (answers_in (map (λ q. (goal.Port-dyn g (q.vtable, q.value)).answers q.value) c.args.ports.now)) c.args.case.now in
    tolls_over T c.args.m p (c.args.case.now.budget - c.loop-i.i) c.loop-i.s.state _ _ (sym c.has_ended.ensures ∙ c.if-has_ended.true) (c.loop-i.invariant.asks p)

pub returns-then-has_ended-clause-asks_at_most : goal.returns-then-has_ended-clause-asks_at_most
returns-then-has_ended-clause-asks_at_most g c p =
    let T = case_trial c.args.program.now c.args.variants.now (answers_in (map (λ q. (goal.Port-dyn g (q.vtable, q.value)).answers q.value) c.args.ports.now)) c.args.case.now in
    let all = tolls_over T c.args.m p (c.args.case.now.budget - c.loop-i.i) c.loop-i.s.state _ _ (sym c.has_ended.ensures ∙ c.if-has_ended.true) (c.loop-i.invariant.asks p) in
    (c.loop-i.invariant.rise p, omega (arith, all))

pub returns-clause-state : goal.returns-clause-state
returns-clause-state g c =
    let T = case_trial c.args.program.now c.args.variants.now (answers_in (map (λ q. (goal.Port-dyn g (q.vtable, q.value)).answers q.value) c.args.ports.now)) c.args.case.now in
    state_spent T c.args.m (c.args.case.now.budget - c.loop-i.i) c.loop-i.s.state _ (omega arith) c.loop-i.invariant.state

pub returns-clause-length : goal.returns-clause-length
returns-clause-length g c =
    let T = case_trial c.args.program.now c.args.variants.now (answers_in (map (λ q. (goal.Port-dyn g (q.vtable, q.value)).answers q.value) c.args.ports.now)) c.args.case.now in
    let all : c.loop-i.i ≡ _ = length_spent T c.args.m (c.args.case.now.budget - c.loop-i.i) c.loop-i.s.state c.loop-i.i _ (omega arith) c.loop-i.invariant.length in
    omega (arith, all)

pub returns-clause-asks : goal.returns-clause-asks
returns-clause-asks g c p =
    let T = case_trial c.args.program.now c.args.variants.now (answers_in (map (λ q. (goal.Port-dyn g (q.vtable, q.value)).answers q.value) c.args.ports.now)) c.args.case.now in
    tolls_spent T c.args.m p (c.args.case.now.budget - c.loop-i.i) c.loop-i.s.state _ _ (omega arith) (c.loop-i.invariant.asks p)

pub returns-clause-asks_at_most : goal.returns-clause-asks_at_most
returns-clause-asks_at_most g c p =
    let T = case_trial c.args.program.now c.args.variants.now (answers_in (map (λ q. (goal.Port-dyn g (q.vtable, q.value)).answers q.value) c.args.ports.now)) c.args.case.now in
    let all = tolls_spent T c.args.m p (c.args.case.now.budget - c.loop-i.i) c.loop-i.s.state _ _ (omega arith) (c.loop-i.invariant.asks p) in
    (c.loop-i.invariant.rise p, omega (arith, all))

pub returns-in_err-next-clause-asks_at_most : goal.returns-in_err-next-clause-asks_at_most
returns-in_err-next-clause-asks_at_most g c p =
    let T = case_trial c.args.program.now c.args.variants.now (answers_in (map (λ q. (goal.Port-dyn g (q.vtable, q.value)).answers q.value) c.args.ports.now)) c.args.case.now in
    let more : c.args.case.now.budget - c.loop-i.i ≡ suc (c.args.case.now.budget - (c.loop-i.i + 1)) = omega arith in
    let lives : is_some c.loop-i.s.state.ending ≡ false = sym c.has_ended.ensures ∙ c.if-has_ended.false in
    let left = toll_left T c.args.m p (c.args.case.now.budget - c.loop-i.i) (c.args.case.now.budget - (c.loop-i.i + 1)) c.loop-i.s.state more lives in
    (omega (arith, c.loop-i.invariant.rise p, (c.next.ensures.asks_at_most p).0), omega (arith, (c.next.ensures.asks_at_most p).1, left, c.loop-i.invariant.asks p))

pub returns-in_err-ready-clause-asks_at_most : goal.returns-in_err-ready-clause-asks_at_most
returns-in_err-ready-clause-asks_at_most g c p =
    let T = case_trial c.args.program.now c.args.variants.now (answers_in (map (λ q. (goal.Port-dyn g (q.vtable, q.value)).answers q.value) c.args.ports.now)) c.args.case.now in
    let more : c.args.case.now.budget - c.loop-i.i ≡ suc (c.args.case.now.budget - (c.loop-i.i + 1)) = omega arith in
    let lives : is_some c.loop-i.s.state.ending ≡ false = sym c.has_ended.ensures ∙ c.if-has_ended.false in
    let left = toll_left T c.args.m p (c.args.case.now.budget - c.loop-i.i) (c.args.case.now.budget - (c.loop-i.i + 1)) c.loop-i.s.state more lives in
    (omega (arith, c.loop-i.invariant.rise p, (c.next.ensures.asks_at_most p).0), omega (arith, (c.next.ensures.asks_at_most p).1, left, c.loop-i.invariant.asks p))

pub next-requires-clause-few : goal.next-requires-clause-few
next-requires-clause-few g c p = omega (arith, c.loop-i.invariant.few p, c.requires.few p)

pub ready-requires : goal.ready-requires
ready-requires g c =
    let answers = answers_in (map (λ q. (goal.Port-dyn g (q.vtable, q.value)).answers q.value) c.loop-i.ports) in
    let v = variant_of c.args.variants.now c.args.m c.loop-i.s.state.running.place in
    let P : Change → Type 0 = λ d. d.top ≤ MEMORY_BYTES in
    let runs = variant_runs c.args.program.now c.args.variants.now answers c.requires.sound c.requires.table c.loop-i.s.state c.loop-i.invariant.running v in
    subst P (sym c.in_ok-next.ensures.change) runs.sound.top

pub apply-requires-clause-can : goal.apply-requires-clause-can
apply-requires-clause-can g c =
    let answers = answers_in (map (λ q. (goal.Port-dyn g (q.vtable, q.value)).answers q.value) c.loop-i.ports) in
    let v = variant_of c.args.variants.now c.args.m c.loop-i.s.state.running.place in
    let P : Change → Type 0 = λ d. CanApply c.args.program.now c.loop-i.s.state d d.control in
    let Q : State → Type 0 = λ t. CanApply c.args.program.now t c.next.new.out c.next.new.out.control in
    subst Q (sym c.ready.ensures.state)
    (subst P (sym c.in_ok-next.ensures.change) (variant_applies c.args.program.now c.args.variants.now answers c.requires.sound c.requires.table c.loop-i.s.state c.loop-i.invariant.running v))

pub loop-i-preserved : goal.loop-i-preserved
loop-i-preserved g c =
    let T = case_trial c.args.program.now c.args.variants.now (answers_in (map (λ q. (goal.Port-dyn g (q.vtable, q.value)).answers q.value) c.args.ports.now)) c.args.case.now in
    let n = c.args.case.now.budget - c.loop-i.i in
    let k = c.args.case.now.budget - (c.loop-i.i + 1) in
    let more : c.args.case.now.budget - c.loop-i.i ≡ suc (c.args.case.now.budget - (c.loop-i.i + 1)) = omega arith in
    let lives : is_some c.loop-i.s.state.ending ≡ false = sym c.has_ended.ensures ∙ c.if-has_ended.false in
    let answers = answers_in (map (λ q. (goal.Port-dyn g (q.vtable, q.value)).answers q.value) c.loop-i.ports) in
    let v = variant_of c.args.variants.now c.args.m c.loop-i.s.state.running.place in
    let runs = variant_runs c.args.program.now c.args.variants.now answers c.requires.sound c.requires.table c.loop-i.s.state c.loop-i.invariant.running v in
    let is = c.in_ok-next.ensures.change ∙ ap (λ (known : List (List ℕ → Option ℕ)). next_by c.args.program.now c.args.variants.now (answers_in known) v c.loop-i.s.state) c.loop-i.invariant.answers in
    let applied = c.apply.ensures ∙ ap (λ (t : State). after_change c.args.program.now t c.next.new.out) c.ready.ensures.state in
    let leads = applied ∙ ap (after_change c.args.program.now c.loop-i.s.state) c.in_ok-next.ensures.change in
    let toll = λ (p : ℕ). toll_small p c.loop-i.s.state (instr_of c.args.program.now c.args.variants.now c.loop-i.s.state.running.place v) in
    record {
      state = state_more T c.args.m n k c.loop-i.s.state c.apply.new.s.state c.next.new.out more lives is applied _ c.loop-i.invariant.state;
      length = length_more T c.args.m n k c.loop-i.s.state c.apply.new.s.state c.next.new.out more lives is applied c.loop-i.i _ c.loop-i.invariant.length;
      running = subst (IsRunning c.args.program.now) (sym leads) runs;
      signs = c.next.ensures.signs ∙ c.loop-i.invariant.signs;
      answers = c.next.ensures.answers ∙ c.loop-i.invariant.answers;
      asks = λ p. tolls_more T c.args.m n k c.loop-i.s.state c.apply.new.s.state c.next.new.out more lives is applied p _ _ _ (c.in_ok-next.ensures.asks p) (c.loop-i.invariant.asks p);
      rise = λ p. omega (arith, c.loop-i.invariant.rise p, c.in_ok-next.ensures.asks p);
      few = λ p. omega (arith, c.loop-i.invariant.few p, c.in_ok-next.ensures.asks p, toll p);
    }
