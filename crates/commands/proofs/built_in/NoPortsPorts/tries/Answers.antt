use Rattle.std.proofs.Common.{◌≡◌, ℕ, List, [], map}
use Rattle.std.specs.Prelude.{sum_by}
use Rattle.code_form.specs.Variant.{instr_of}
use Rattle.machine_form.specs.Machine.{toll_of}
use Rattle.commands.proofs.NoPorts.{none_asked}
use Rattle.commands.proofs.built_in.NoPortsPorts.tries.Goals as goal

pub returns-clause-asks : goal.returns-clause-asks
returns-clause-asks c =
    let state = c.args.s.now.state in
    none_asked {T = ℕ} _ _ (λ _. 0) _ c.try_by.new.ports.items c.try_by.result
    (λ _ p. sum_by (λ v. toll_of p state (instr_of c.args.program.now c.args.table.now state.running.place v)) c.args.variants.now)
    c.new-none.ensures.items c.try_by.ensures.signs c.try_by.ensures.asks
