use Rattle.std.proofs.Common.{◌≡◌, ℕ, ◌+◌, ◌≤◌, ◌<◌, List, [], ◌∷◌, refl, subst, sym, ap, ◌∙◌, arith}
use Rattle.std.proofs.lemmas.Result.{IfOk-at_ok, IfOk-weaker}
use Rattle.code_form.specs.Fit.{FitsCase}
use Rattle.code_form.specs.declared.case.Case.{Case}
use Rattle.traces.specs.Counts.{IsBetween}
use Rattle.traces.specs.Trace.{within}
use Rattle.traces.specs.Work.{steps, asks}
use Rattle.machine_form.specs.Machine.{case_trial}
use Rattle.ports.specs.Asks.{answers_in, asked_in, AskedBy, AskedAtMostBy}
use Rattle.flat_analysis.specs.Ended.{AreEnded}
use Rattle.commands.specs.Groups.{unmoved_class}
use Rattle.commands.proofs.UnmovedLemmas.{unmoved_ended, no_steps, no_asks}
use Rattle.commands.proofs.groups.classes_within.Goals as goal

-- ---- before any change

pub returns-then-budget-eq0-clause-classes : goal.returns-then-budget-eq0-clause-classes
returns-then-budget-eq0-clause-classes g c =
    let T = case_trial c.args.code.now c.args.variants.now (answers_in (g.P.Ports.outside c.args.ports).answers) c.args.case.now in
    let count = c.mutants.ensures in
    let some : 1 ≤ T.mutants = omega (arith, count.mutants, count.some) in
    let ended = unmoved_ended T some refl refl in
    IfOk-weaker c.unmoved.result _ _
    (λ classes is. subst (λ (b : ℕ). AreEnded (within T b) classes) (sym c.if-budget-eq0.true)
    (subst (AreEnded (within T 0)) (sym (is ∙ ap (λ (n : ℕ). unmoved_class n ∷ []) count.mutants)) ended)) c.unmoved.ensures

pub returns-then-budget-eq0-clause-asks : goal.returns-then-budget-eq0-clause-asks
returns-then-budget-eq0-clause-asks g c =
    let asked = (g.P.Ports.outside c.args.ports).asked in
    let T = case_trial c.args.code.now c.args.variants.now (answers_in (g.P.Ports.outside c.args.ports).answers) c.args.case.now in
    let none : AskedBy asked asked (asks (within T 0)) = (λ p. let e = no_asks T p in omega (arith, e)) in
    IfOk-weaker c.unmoved.result _ _
    (λ classes h. subst (λ (b : ℕ). AskedBy asked asked (asks (within T b))) (sym c.if-budget-eq0.true) none) c.unmoved.ensures

pub returns-then-budget-eq0-clause-meter : goal.returns-then-budget-eq0-clause-meter
returns-then-budget-eq0-clause-meter g c =
    let T = case_trial c.args.code.now c.args.variants.now (answers_in (g.P.Ports.outside c.args.ports).answers) c.args.case.now in
    let none : c.args.meter.now ≡ c.args.meter.now + steps (within T 0) = (let e = no_steps T in omega (arith, e)) in
    IfOk-weaker c.unmoved.result _ _
    (λ classes h. subst (λ (b : ℕ). c.args.meter.now ≡ c.args.meter.now + steps (within T b)) (sym c.if-budget-eq0.true) none) c.unmoved.ensures

pub returns-then-budget-eq0-clause-asks_at_most : goal.returns-then-budget-eq0-clause-asks_at_most
returns-then-budget-eq0-clause-asks_at_most g c p = (omega arith, omega arith)

pub returns-then-budget-eq0-clause-meter_within : goal.returns-then-budget-eq0-clause-meter_within
returns-then-budget-eq0-clause-meter_within g c = record { least = omega arith; most = omega arith }

-- ---- the analysis

pub analyse_case-ports-requires-clause-case : goal.analyse_case-ports-requires-clause-case
analyse_case-ports-requires-clause-case g c =
    let fits = c.requires.case in
    let some = c.if-budget-eq0.false in
    let few = fits.few in
    let within = c.requires.within in
    subst (FitsCase c.args.code.now) (sym c.in-Ok.ensures) (record {
      defined = fits.defined;
      args = fits.args;
      input = fits.input;
      some = omega (arith, some);
      few = omega (arith, within, few);
    })

pub returns-in-Ok-analysis-clause-classes : goal.returns-in-Ok-analysis-clause-classes
returns-in-Ok-analysis-clause-classes g c =
    let answers = answers_in (g.P.Ports.outside c.args.ports).answers in
    subst (λ (case : Case). AreEnded (case_trial c.args.code.now c.args.variants.now answers case) c.in-Ok-analysis.analysis.classes) c.in-Ok.ensures
    (IfOk-at_ok _ c.in-Ok-analysis.is c.analyse_case-ports.ensures.analysis).classes

pub returns-in-Ok-analysis-clause-asks : goal.returns-in-Ok-analysis-clause-asks
returns-in-Ok-analysis-clause-asks g c =
    let old = g.P.Ports.outside c.args.ports in
    let new = g.P.Ports.outside c.analyse_case-ports.result.0 in
    subst (λ (case : Case). AskedBy old.asked new.asked (asks (case_trial c.args.code.now c.args.variants.now (answers_in old.answers) case)))
    c.in-Ok.ensures (IfOk-at_ok _ c.in-Ok-analysis.is c.analyse_case-ports.ensures.asks)

pub returns-in-Ok-analysis-clause-meter : goal.returns-in-Ok-analysis-clause-meter
returns-in-Ok-analysis-clause-meter g c =
    let answers = answers_in (g.P.Ports.outside c.args.ports).answers in
    subst (λ (case : Case). c.analyse_case-ports.new.meter ≡ c.args.meter.now + steps (case_trial c.args.code.now c.args.variants.now answers case))
    c.in-Ok.ensures (IfOk-at_ok _ c.in-Ok-analysis.is c.analyse_case-ports.ensures.meter)

pub returns-in-Ok-analysis-clause-asks_at_most : goal.returns-in-Ok-analysis-clause-asks_at_most
returns-in-Ok-analysis-clause-asks_at_most g c =
    let old = g.P.Ports.outside c.args.ports in
    let new = g.P.Ports.outside c.analyse_case-ports.result.0 in
    subst (λ (case : Case). AskedAtMostBy old.asked new.asked (asks (case_trial c.args.code.now c.args.variants.now (answers_in old.answers) case)))
    c.in-Ok.ensures c.analyse_case-ports.ensures.asks_at_most

pub returns-in-Ok-analysis-clause-meter_within : goal.returns-in-Ok-analysis-clause-meter_within
returns-in-Ok-analysis-clause-meter_within g c =
    let answers = answers_in (g.P.Ports.outside c.args.ports).answers in
    let counted = λ (case : Case). c.args.meter.now + steps (case_trial c.args.code.now c.args.variants.now answers case) in
    subst (λ (case : Case). IsBetween c.args.meter.now c.analyse_case-ports.new.meter (counted case)) c.in-Ok.ensures
    c.analyse_case-ports.ensures.meter_within

pub returns-clause-asks_at_most : goal.returns-clause-asks_at_most
returns-clause-asks_at_most g c =
    let old = g.P.Ports.outside c.args.ports in
    let new = g.P.Ports.outside c.analyse_case-ports.result.0 in
    subst (λ (case : Case). AskedAtMostBy old.asked new.asked (asks (case_trial c.args.code.now c.args.variants.now (answers_in old.answers) case)))
    c.in-Ok.ensures c.analyse_case-ports.ensures.asks_at_most

pub returns-clause-meter_within : goal.returns-clause-meter_within
returns-clause-meter_within g c =
    let answers = answers_in (g.P.Ports.outside c.args.ports).answers in
    let counted = λ (case : Case). c.args.meter.now + steps (case_trial c.args.code.now c.args.variants.now answers case) in
    subst (λ (case : Case). IsBetween c.args.meter.now c.analyse_case-ports.new.meter (counted case)) c.in-Ok.ensures
    c.analyse_case-ports.ensures.meter_within
