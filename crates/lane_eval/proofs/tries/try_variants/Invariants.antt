use Rattle.std.proofs.Common.{◌≡◌, ℕ, ◌+◌, map, take}
use Rattle.std.specs.Prelude.{sum_by}
use Rattle.code_form.specs.Variant.{instr_of}
use Rattle.machine_form.specs.Machine.{next_by, toll_of}
use Rattle.ports.specs.Asks.{answers_in, asked_in}
use Rattle.lane_eval.proofs.tries.try_variants.Given as goal

abbrev pub invariant-loop-v : goal.invariant-loop-v
invariant-loop-v g l =
    let answers = map (λ q. (goal.Port-dyn g (q.vtable, q.value)).answers q.value) l.initial.ports in
    let asked_first = map (λ q. (goal.Port-dyn g (q.vtable, q.value)).asked q.value) l.initial.ports in
    let asked_now = map (λ q. (goal.Port-dyn g (q.vtable, q.value)).asked q.value) l.ports in
    let toll : ℕ → ℕ → ℕ = λ p v. toll_of p (g.V.View.state l.s) (instr_of l.program l.table (g.V.View.state l.s).running.place v) in
    record {
      changes : l.out.items ≡ map (λ v. next_by l.program l.table (answers_in answers) v (g.V.View.state l.s)) (take l.v-index l.variants);
      signs : map (λ q. (goal.Port-dyn g (q.vtable, q.value)).sign q.value) l.ports ≡ map (λ q. (goal.Port-dyn g (q.vtable, q.value)).sign q.value) l.initial.ports;
      answers : map (λ q. (goal.Port-dyn g (q.vtable, q.value)).answers q.value) l.ports ≡ answers;
      asks : (p : ℕ) → asked_in asked_now p ≡ asked_in asked_first p + sum_by (toll p) (take l.v-index l.variants);
    }
