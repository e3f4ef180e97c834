use Rattle.std.proofs.Common.{ℕ, ◌*◌, ◌≤◌, ◌^◌, map, length, sym, subst, ap, arith}
use Rattle.std.proofs.lemmas.List.{take_at}
use Rattle.machine_form.specs.Machine.{case_trial}
use Rattle.ports.specs.Asks.{answers_in, asked_in, AskedAtMostBy}
use Rattle.plain_machine.specs.Tolls.{tolls_of}
use Rattle.machine_parts.proofs.Written.{written_back}
use Rattle.machine_parts.proofs.boxed.run_by.Goals as goal

pub run_alone-requires-clause-few : goal.run_alone-requires-clause-few
run_alone-requires-clause-few g c =
    subst (λ ps. (p : ℕ) → asked_in (map (λ q. (goal.Port-dyn g (q.vtable, q.value)).asked q.value) ps) p ≤ 3 * 2 ^ 61) (sym c.deref_mut.ensures.value) c.requires.few

pub returns-clause-outcome : goal.returns-clause-outcome
returns-clause-outcome g c = rw c.deref_mut.ensures.value at c.run_alone.ensures.outcome

pub returns-clause-length : goal.returns-clause-length
returns-clause-length g c = rw c.deref_mut.ensures.value at c.run_alone.ensures.length

pub returns-clause-asks : goal.returns-clause-asks
returns-clause-asks g c =
    rw (take_at c.run_alone.new.ports _ c.args.ports.now.len (omega (arith, c.run_alone.auto.ports, ap length c.deref_mut.ensures.value, c.args.ports.now.ok.0)))
    (rw c.deref_mut.ensures.value at c.run_alone.ensures.asks)

pub returns-clause-asks_at_most : goal.returns-clause-asks_at_most
returns-clause-asks_at_most g c =
    let tolls : ℕ → ℕ = tolls_of (case_trial c.args.code.now c.args.table.now (answers_in (map (λ q. (goal.Port-dyn g (q.vtable, q.value)).answers q.value) c.args.ports.now.items)) c.args.case.now) c.args.m in
    written_back c.run_alone.new.ports
    (λ ps. AskedAtMostBy (map (λ q. (goal.Port-dyn g (q.vtable, q.value)).asked q.value) c.args.ports.now.items) (map (λ q. (goal.Port-dyn g (q.vtable, q.value)).asked q.value) ps) tolls)
    c.args.ports.now.len _ (omega (arith, c.run_alone.auto.ports, ap length c.deref_mut.ensures.value, c.args.ports.now.ok.0))
    (rw c.deref_mut.ensures.value at c.run_alone.ensures.asks_at_most)
