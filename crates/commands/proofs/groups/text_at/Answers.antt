use Rattle.std.proofs.Common.{◌≡◌, ℕ, ◌+◌, List, subst, sym}
use Rattle.std.proofs.lemmas.Result.{IfOk-at_ok, IfOk-weaker}
use Rattle.traces.specs.Counts.{IsBetween}
use Rattle.traces.specs.Trace.{within}
use Rattle.traces.specs.Work.{steps, asks}
use Rattle.ports.specs.Asks.{answers_in, AskedBy, AskedAtMostBy}
use Rattle.flat_analysis.specs.Ended.{AreEnded}
use Rattle.command_texts.specs.Groups.{IsGroupsText}
use Rattle.commands.specs.Alone.{trial_on}
use Rattle.commands.proofs.groups.text_at.Goals as goal

pub returns-in-Ok-clause-text : goal.returns-in-Ok-clause-text
returns-in-Ok-clause-text g c =
    let s = c.args.s.now in
    let T = trial_on s.m.code s.list.variants (answers_in (g.P.Ports.outside c.args.ports).answers) c.args.test.now in
    let ended = subst (λ (b : ℕ). AreEnded (within T b) c.in-Ok.classes) c.cut_of-budget.ensures.value
    (IfOk-at_ok _ c.in-Ok.is c.classes_within-ports.ensures.classes) in
    IfOk-weaker c.groups_text.result _ _
    (λ text shown. (c.in-Ok.classes, ended, subst (λ classes. IsGroupsText c.args.step classes text) c.as_slice.ensures shown)) c.groups_text.ensures

pub returns-in-Ok-clause-asks : goal.returns-in-Ok-clause-asks
returns-in-Ok-clause-asks g c =
    let s = c.args.s.now in
    let old = g.P.Ports.outside c.args.ports in
    let new = g.P.Ports.outside c.classes_within-ports.result.0 in
    let T = trial_on s.m.code s.list.variants (answers_in old.answers) c.args.test.now in
    let asked = λ (b : ℕ). AskedBy old.asked new.asked (asks (within T b)) in
    IfOk-weaker c.groups_text.result _ _
    (λ text shown. subst asked c.cut_of-budget.ensures.value (IfOk-at_ok _ c.in-Ok.is c.classes_within-ports.ensures.asks)) c.groups_text.ensures

pub returns-in-Ok-clause-meter : goal.returns-in-Ok-clause-meter
returns-in-Ok-clause-meter g c =
    let s = c.args.s.now in
    let T = trial_on s.m.code s.list.variants (answers_in (g.P.Ports.outside c.args.ports).answers) c.args.test.now in
    let counted = λ (b : ℕ). c.classes_within-ports.new.meter ≡ c.args.meter.now + steps (within T b) in
    IfOk-weaker c.groups_text.result _ _
    (λ text shown. subst counted c.cut_of-budget.ensures.value (IfOk-at_ok _ c.in-Ok.is c.classes_within-ports.ensures.meter)) c.groups_text.ensures

pub returns-in-Ok-clause-asks_at_most : goal.returns-in-Ok-clause-asks_at_most
returns-in-Ok-clause-asks_at_most g c =
    let s = c.args.s.now in
    let old = g.P.Ports.outside c.args.ports in
    let new = g.P.Ports.outside c.classes_within-ports.result.0 in
    let T = trial_on s.m.code s.list.variants (answers_in old.answers) c.args.test.now in
    subst (λ (b : ℕ). AskedAtMostBy old.asked new.asked (asks (within T b))) c.cut_of-budget.ensures.value c.classes_within-ports.ensures.asks_at_most

pub returns-in-Ok-clause-meter_within : goal.returns-in-Ok-clause-meter_within
returns-in-Ok-clause-meter_within g c =
    let s = c.args.s.now in
    let T = trial_on s.m.code s.list.variants (answers_in (g.P.Ports.outside c.args.ports).answers) c.args.test.now in
    subst (λ (b : ℕ). IsBetween c.args.meter.now c.classes_within-ports.new.meter (c.args.meter.now + steps (within T b)))
    c.cut_of-budget.ensures.value c.classes_within-ports.ensures.meter_within

pub returns-in-Err-clause-asks_at_most : goal.returns-in-Err-clause-asks_at_most
returns-in-Err-clause-asks_at_most g c =
    let s = c.args.s.now in
    let old = g.P.Ports.outside c.args.ports in
    let new = g.P.Ports.outside c.classes_within-ports.result.0 in
    let T = trial_on s.m.code s.list.variants (answers_in old.answers) c.args.test.now in
    subst (λ (b : ℕ). AskedAtMostBy old.asked new.asked (asks (within T b))) c.cut_of-budget.ensures.value c.classes_within-ports.ensures.asks_at_most

pub returns-in-Err-clause-meter_within : goal.returns-in-Err-clause-meter_within
returns-in-Err-clause-meter_within g c =
    let s = c.args.s.now in
    let T = trial_on s.m.code s.list.variants (answers_in (g.P.Ports.outside c.args.ports).answers) c.args.test.now in
    subst (λ (b : ℕ). IsBetween c.args.meter.now c.classes_within-ports.new.meter (c.args.meter.now + steps (within T b)))
    c.cut_of-budget.ensures.value c.classes_within-ports.ensures.meter_within
