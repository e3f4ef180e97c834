use Rattle.std.proofs.Common.{subst, sym}
use Rattle.std.proofs.lemmas.Result.{IfOk-weaker}
use Rattle.ports.specs.Asks.{answers_in}
use Rattle.shared_analysis.specs.Peak.{IsPeak}
use Rattle.shared_analysis.proofs.OwnLemmas.{knows_table, analysis_of}
use Rattle.shared_analysis.proofs.own.run_case.Goals as goal

pub analyse_over-requires-clause-known : goal.analyse_over-requires-clause-known
analyse_over-requires-clause-known g c = knows_table c.args.machine.subject (answers_in (g.P.Ports.outside c.args.machine.ports).answers) c.args.variants.now c.requires.table c.mutants-mutants.ensures.given

pub returns-in-Ok-clause-analysis : goal.returns-in-Ok-clause-analysis
returns-in-Ok-clause-analysis g c =
    let e = c.in-Ok.ensures in IfOk-weaker c.numbered-analysis.result _ _ (λ a n. analysis_of _ c.in-Ok.together _ a c.mutants-mutants.ensures.mutants e.classes e.steps e.alone e.tries e.executions e.splits n)
    c.numbered-analysis.ensures

pub returns-in-Ok-clause-asks : goal.returns-in-Ok-clause-asks
returns-in-Ok-clause-asks g c = IfOk-weaker c.numbered-analysis.result _ _ (λ a n. rw c.into_ports-in-Ok.ensures (λ p. c.in-Ok.ensures.counts.asks p)) c.numbered-analysis.ensures

pub returns-in-Ok-clause-meter : goal.returns-in-Ok-clause-meter
returns-in-Ok-clause-meter g c = IfOk-weaker c.numbered-analysis.result _ _ (λ a n. c.in-Ok.ensures.meter) c.numbered-analysis.ensures

pub returns-in-Ok-clause-signs : goal.returns-in-Ok-clause-signs
returns-in-Ok-clause-signs g c = rw c.into_ports-in-Ok.ensures c.in-Ok.ensures.signs

pub returns-in-Ok-clause-answers : goal.returns-in-Ok-clause-answers
returns-in-Ok-clause-answers g c = rw c.into_ports-in-Ok.ensures c.in-Ok.ensures.answers

pub returns-in-Ok-clause-asks_at_most : goal.returns-in-Ok-clause-asks_at_most
returns-in-Ok-clause-asks_at_most g c = rw c.into_ports-in-Ok.ensures (λ p. let w = c.in-Ok.ensures.counts_within.asks p in (w.least, w.most))

pub returns-in-Err-clause-signs : goal.returns-in-Err-clause-signs
returns-in-Err-clause-signs g c = rw c.into_ports.ensures c.in-Err.ensures.signs

pub returns-in-Err-clause-answers : goal.returns-in-Err-clause-answers
returns-in-Err-clause-answers g c = rw c.into_ports.ensures c.in-Err.ensures.answers

pub returns-in-Err-clause-asks_at_most : goal.returns-in-Err-clause-asks_at_most
returns-in-Err-clause-asks_at_most g c = rw c.into_ports.ensures (λ p. let w = c.in-Err.ensures.counts_within.asks p in (w.least, w.most))

pub returns-in-Ok-clause-peak : goal.returns-in-Ok-clause-peak
returns-in-Ok-clause-peak g c =
    IfOk-weaker c.numbered-analysis.result _ _ (λ a n. subst (IsPeak c.args.machine.subject.code _) (sym n.peak) c.in-Ok.ensures.peak) c.numbered-analysis.ensures
