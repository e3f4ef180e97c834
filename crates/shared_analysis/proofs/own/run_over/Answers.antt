use Rattle.std.proofs.Common.{◌∙◌, ◌*◌, ◌^◌, ap, arith, subst, sym}
use Rattle.traces.specs.Counts.{AreAtMost}
use Rattle.ports.specs.Asks.{answers_in}
use Rattle.code_form.specs.Fit.{FitsCase}
use Rattle.machine_parts.specs.Shown.{Run}
use Rattle.shared_pages.specs.Store.{Store, used_pages}
use Rattle.shared_analysis.proofs.OwnLemmas.{case_steps, case_asks}
use Rattle.shared_analysis.proofs.own.run_over.Goals as goal

pub run_case-requires-clause-case : goal.run_case-requires-clause-case
run_case-requires-clause-case g c = subst (λ (r : Run). FitsCase r.code c.args.case.now) (sym (c.over.ensures.subject ∙ c.in-Ok.ensures.subject)) c.requires.case

pub run_case-requires-clause-signs : goal.run_case-requires-clause-signs
run_case-requires-clause-signs g c = ap (λ p. (g.P.Ports.outside p).signs) c.over.ensures.ports ∙ c.requires.signs ∙ sym (ap (λ (r : Run). r.code.signs) (c.over.ensures.subject ∙ c.in-Ok.ensures.subject))

pub run_case-requires-clause-table : goal.run_case-requires-clause-table
run_case-requires-clause-table g c = sym (ap (λ (r : Run). r.table) (c.over.ensures.subject ∙ c.in-Ok.ensures.subject))

pub run_case-requires-clause-room : goal.run_case-requires-clause-room
run_case-requires-clause-room g c =
    subst (AreAtMost (3 * 2 ^ 61)) (sym c.over.ensures.counts) (record { tried = omega arith; applied = omega arith; weighed = omega arith; readied = omega arith; asks = c.requires.few })

pub returns-in-Ok-clause-analysis : goal.returns-in-Ok-clause-analysis
returns-in-Ok-clause-analysis g c = rw (c.over.ensures.ports, c.over.ensures.subject ∙ c.in-Ok.ensures.subject) at c.run_case.ensures.analysis

pub returns-in-Ok-clause-asks : goal.returns-in-Ok-clause-asks
returns-in-Ok-clause-asks g c = rw (c.over.ensures.ports, c.over.ensures.subject ∙ c.in-Ok.ensures.subject) at c.run_case.ensures.asks

pub returns-in-Ok-clause-meter : goal.returns-in-Ok-clause-meter
returns-in-Ok-clause-meter g c = rw (c.over.ensures.ports, c.over.ensures.subject ∙ c.in-Ok.ensures.subject) at c.run_case.ensures.meter

pub returns-in-Ok-clause-asks_at_most : goal.returns-in-Ok-clause-asks_at_most
returns-in-Ok-clause-asks_at_most g c = rw (c.over.ensures.ports, c.over.ensures.subject ∙ c.in-Ok.ensures.subject) at c.run_case.ensures.asks_at_most

pub returns-in-Ok-clause-meter_within : goal.returns-in-Ok-clause-meter_within
returns-in-Ok-clause-meter_within g c = rw (c.over.ensures.ports, c.over.ensures.subject ∙ c.in-Ok.ensures.subject) at c.run_case.ensures.meter_within

pub returns-in-Ok-clause-few_asks : goal.returns-in-Ok-clause-few_asks
returns-in-Ok-clause-few_asks g c = case_asks c.args.code.now c.args.variants.now (answers_in (g.P.Ports.outside c.args.ports).answers) c.args.case.now
    (omega (arith, c.mutants-mutants.ensures.mutants, c.mutants-mutants.ensures.few)) c.requires.case.few c.mutants-mutants.ensures.given

pub returns-in-Ok-clause-few_steps : goal.returns-in-Ok-clause-few_steps
returns-in-Ok-clause-few_steps g c = case_steps c.args.code.now c.args.variants.now (answers_in (g.P.Ports.outside c.args.ports).answers) c.args.case.now
    (omega (arith, c.mutants-mutants.ensures.mutants, c.mutants-mutants.ensures.few)) c.requires.case.few

pub returns-in-Err-clause-few_asks : goal.returns-in-Err-clause-few_asks
returns-in-Err-clause-few_asks g c = case_asks c.args.code.now c.args.variants.now (answers_in (g.P.Ports.outside c.args.ports).answers) c.args.case.now
    (omega (arith, c.mutants-mutants.ensures.mutants, c.mutants-mutants.ensures.few)) c.requires.case.few c.mutants-mutants.ensures.given

pub returns-in-Err-clause-few_steps : goal.returns-in-Err-clause-few_steps
returns-in-Err-clause-few_steps g c = case_steps c.args.code.now c.args.variants.now (answers_in (g.P.Ports.outside c.args.ports).answers) c.args.case.now
    (omega (arith, c.mutants-mutants.ensures.mutants, c.mutants-mutants.ensures.few)) c.requires.case.few

pub over-requires : goal.over-requires
over-requires g c = c.in-Ok.ensures.empty

pub run_case-requires-clause-used : goal.run_case-requires-clause-used
run_case-requires-clause-used g c = ap used_pages c.over.ensures.store ∙ c.in-Ok.ensures.used

pub run_case-requires-clause-peak : goal.run_case-requires-clause-peak
run_case-requires-clause-peak g c = ap (λ (s : Store). s.peak) c.over.ensures.store ∙ c.in-Ok.ensures.peak

pub returns-in-Ok-clause-peak : goal.returns-in-Ok-clause-peak
returns-in-Ok-clause-peak g c = rw (c.over.ensures.ports, c.over.ensures.subject ∙ c.in-Ok.ensures.subject) at c.run_case.ensures.peak
