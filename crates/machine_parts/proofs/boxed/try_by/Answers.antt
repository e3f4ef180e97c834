use Rattle.std.proofs.Common.{ℕ, ◌+◌, ◌<◌, ◌^◌, map, length, sym, subst, ap, arith}
use Rattle.std.specs.Prelude.{sum_by}
use Rattle.std.proofs.lemmas.List.{take_at}
use Rattle.code_form.specs.Variant.{instr_of}
use Rattle.machine_form.specs.Machine.{toll_of}
use Rattle.ports.specs.Asks.{asked_in, AskedAtMostBy}
use Rattle.machine_parts.proofs.Written.{written_back}
use Rattle.machine_parts.proofs.boxed.try_by.Goals as goal

pub try_variants-requires-clause-few : goal.try_variants-requires-clause-few
try_variants-requires-clause-few g c =
    subst (λ ps. (p : ℕ) → asked_in (map (λ q. (goal.Port-dyn g (q.vtable, q.value)).asked q.value) ps) p + length c.args.variants.now < 2 ^ 63) (sym c.deref_mut.ensures.value) c.requires.few

pub returns-clause-changes : goal.returns-clause-changes
returns-clause-changes g c = rw c.deref_mut.ensures.value at c.try_variants.ensures.changes

pub returns-clause-asks : goal.returns-clause-asks
returns-clause-asks g c =
    rw (take_at c.try_variants.new.ports _ c.args.ports.now.len (omega (arith, c.try_variants.auto.ports, ap length c.deref_mut.ensures.value, c.args.ports.now.ok.0)))
    (rw c.deref_mut.ensures.value at c.try_variants.ensures.asks)

pub returns-clause-asks_at_most : goal.returns-clause-asks_at_most
returns-clause-asks_at_most g c =
    let tolls : ℕ → ℕ = λ p. sum_by (λ v. toll_of p (g.V.View.state c.args.s.now) (instr_of c.args.program.now c.args.table.now (g.V.View.state c.args.s.now).running.place v)) c.args.variants.now in
    written_back c.try_variants.new.ports
    (λ ps. AskedAtMostBy (map (λ q. (goal.Port-dyn g (q.vtable, q.value)).asked q.value) c.args.ports.now.items) (map (λ q. (goal.Port-dyn g (q.vtable, q.value)).asked q.value) ps) tolls)
    c.args.ports.now.len _ (omega (arith, c.try_variants.auto.ports, ap length c.deref_mut.ensures.value, c.args.ports.now.ok.0))
    (rw c.deref_mut.ensures.value at c.try_variants.ensures.asks_at_most)
