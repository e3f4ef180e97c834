use Rattle.std.proofs.Common.{◌≡◌, ℕ, ◌+◌, ◌-◌, ◌≤◌, length, map}
use Rattle.traces.specs.Trace.{changes_from, state_after}
use Rattle.machine_form.specs.Machine.{case_trial}
use Rattle.ports.specs.Asks.{answers_in, asked_in}
use Rattle.lane_eval.specs.Running.{IsRunning}
use Rattle.plain_machine.specs.Tolls.{tolls_from}
use Rattle.plain_machine.proofs.run.run.Given as goal

abbrev pub invariant-loop-i : goal.invariant-loop-i
invariant-loop-i g l =
    let answers = map (λ q. (goal.Port-dyn g (q.vtable, q.value)).answers q.value) l.initial.ports in
    let asked_first = map (λ q. (goal.Port-dyn g (q.vtable, q.value)).asked q.value) l.initial.ports in
    let asked_now = map (λ q. (goal.Port-dyn g (q.vtable, q.value)).asked q.value) l.ports in
    let T = case_trial l.program l.variants (answers_in answers) l.fn.case in
    let left = changes_from T l.m (l.budget - l.i) l.s.state in
    let all = changes_from T l.m l.budget l.initial.s.state in
    record {
      state : state_after T l.s.state left ≡ state_after T l.initial.s.state all;
      length : l.i + length left ≡ length all;
      running : IsRunning l.program l.s.state;
      signs : map (λ q. (goal.Port-dyn g (q.vtable, q.value)).sign q.value) l.ports ≡ map (λ q. (goal.Port-dyn g (q.vtable, q.value)).sign q.value) l.initial.ports;
      answers : map (λ q. (goal.Port-dyn g (q.vtable, q.value)).answers q.value) l.ports ≡ answers;
      asks : (p : ℕ) → asked_in asked_now p + tolls_from T l.m p l.s.state left ≡ asked_in asked_first p + tolls_from T l.m p l.initial.s.state all;
      rise : (p : ℕ) → asked_in asked_first p ≤ asked_in asked_now p;
      few : (p : ℕ) → asked_in asked_now p ≤ asked_in asked_first p + l.i;
    }
