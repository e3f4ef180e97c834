use Rattle.std.proofs.Common.{◌≡◌, ℕ, List, [], IfOk, length, map, subst}
use Rattle.traces.specs.Trace.{trace}
use Rattle.machine_form.specs.Machine.{case_trial, outcome_of}
use Rattle.plain_machine.specs.Tolls.{tolls_of}
use Rattle.ports.specs.Asks.{answers_in}
use Rattle.commands.proofs.NoPorts.{none_asked, none_answers}
use Rattle.commands.proofs.built_in.NoPortsPorts.alone.Goals as goal

pub returns-clause-outcome : goal.returns-clause-outcome
returns-clause-outcome c =
    subst (λ answers. IfOk c.run_by.result (λ alone. alone.outcome ≡ outcome_of (case_trial c.args.code.now c.args.table.now (answers_in answers) c.args.case.now) c.args.m))
    (none_answers _ _ c.new-none.ensures.items) c.run_by.ensures.outcome

pub returns-clause-length : goal.returns-clause-length
returns-clause-length c =
    subst (λ answers. IfOk c.run_by.result (λ alone. alone.length ≡ length (trace (case_trial c.args.code.now c.args.table.now (answers_in answers) c.args.case.now) c.args.m)))
    (none_answers _ _ c.new-none.ensures.items) c.run_by.ensures.length

pub returns-clause-asks : goal.returns-clause-asks
returns-clause-asks c =
    none_asked _ _ _ _ c.run_by.new.ports.items c.run_by.result (λ answers. tolls_of (case_trial c.args.code.now c.args.table.now (answers_in answers) c.args.case.now) c.args.m)
    c.new-none.ensures.items c.run_by.ensures.signs c.run_by.ensures.asks
