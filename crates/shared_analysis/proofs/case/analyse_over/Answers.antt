use Rattle.std.proofs.Common.{◌≡◌, ℕ, ◌+◌, [], ◌∷◌, ◌∙◌, List, ap, arith, map, subst, sym}
use Rattle.std.specs.List.Sorted.{IsPermutation}
use Rattle.machine_form.specs.State.{State}
use Rattle.machine_form.specs.declared.change.Change.{Change}
use Rattle.traces.specs.Meanings.{Meanings}
use Rattle.traces.specs.Counts.{IsBetween}
use Rattle.traces.specs.Work.{steps, alone, tries, executions, splits}
use Rattle.exec_core.proofs.Holding.{same_counts}
use Rattle.exec_core.specs.Engines.{split_seen}
use Rattle.exec_core.specs.Plans.{KnowsTable}
use Rattle.shared_machine.specs.Live.{live}
use Rattle.shared_machine.specs.LiveLaws.{live_distinct}
use Rattle.shared_analysis.specs.Ended.{AreEnded}
use Rattle.shared_analysis.proofs.CaseLemmas.{at_start, are_ended, classes_differ, none_after, none_after_refusal, rose_at_start, within_at_start, within_same, risen_by_nothing, at_most_same, peak_of}
use Rattle.shared_analysis.proofs.case.analyse_over.Goals as goal

pub analyse-requires-clause-budget : goal.analyse-requires-clause-budget
analyse-requires-clause-budget g c =
    omega (arith, c.requires.case.few)

pub analyse-requires-clause-known : goal.analyse-requires-clause-known
analyse-requires-clause-known g c =
    subst (λ (A : Meanings State Change). KnowsTable A c.args.variants.now) (sym c.in_ok-start.ensures.meanings) c.requires.known

pub analyse-requires-clause-room : goal.analyse-requires-clause-room
analyse-requires-clause-room g c =
    at_most_same _ _ _ c.in_ok-start.ensures.counts c.requires.room

pub give_out-requires-clause-out : goal.give_out-requires-clause-out
give_out-requires-clause-out g c =
    c.in_ok-analysis.ensures.classes.out

pub give_out-requires-clause-distinct : goal.give_out-requires-clause-distinct
give_out-requires-clause-distinct g c =
    let n = c.in_ok-start.start.memory in let one = live c.start.new.self.store in
    let started : IsPermutation (n ∷ []) one = subst (λ (xs : List ℕ). IsPermutation (n ∷ xs) one) c.requires.none_out c.in_ok-start.ensures.out_numbers in
    classes_differ n one (live c.analyse.new.machine.store) _ started c.in_ok-analysis.ensures.out_numbers (live_distinct c.analyse.new.machine.store)

pub returns-clause-classes : goal.returns-clause-classes
returns-clause-classes g c =
    at_start _ _ c.args.variants.now _ _ c.args.case.now.budget (λ T. AreEnded T c.in_ok-ended.ended) c.in_ok-start.ensures.meanings c.in_ok-start.ensures.state (subst (AreEnded _) (sym c.in_ok-ended.ensures.ended) (are_ended _ _ _ _ c.in_ok-analysis.ensures.classes))

pub returns-clause-steps : goal.returns-clause-steps
returns-clause-steps g c =
    at_start _ _ c.args.variants.now _ _ c.args.case.now.budget (λ T. c.in_ok-analysis.analysis.work.steps ≡ steps T) c.in_ok-start.ensures.meanings c.in_ok-start.ensures.state c.in_ok-analysis.ensures.steps

pub returns-clause-alone : goal.returns-clause-alone
returns-clause-alone g c =
    at_start _ _ c.args.variants.now _ _ c.args.case.now.budget (λ T. c.in_ok-analysis.analysis.work.alone ≡ alone T) c.in_ok-start.ensures.meanings c.in_ok-start.ensures.state c.in_ok-analysis.ensures.alone

pub returns-clause-tries : goal.returns-clause-tries
returns-clause-tries g c =
    at_start _ _ c.args.variants.now _ _ c.args.case.now.budget (λ T. c.in_ok-analysis.analysis.work.tries ≡ tries T) c.in_ok-start.ensures.meanings c.in_ok-start.ensures.state c.in_ok-analysis.ensures.tries

pub returns-clause-executions : goal.returns-clause-executions
returns-clause-executions g c =
    at_start _ _ c.args.variants.now _ _ c.args.case.now.budget (λ T. c.in_ok-analysis.analysis.work.executions ≡ executions T) c.in_ok-start.ensures.meanings c.in_ok-start.ensures.state c.in_ok-analysis.ensures.executions

pub returns-clause-splits : goal.returns-clause-splits
returns-clause-splits g c =
    at_start _ _ c.args.variants.now _ _ c.args.case.now.budget (λ T. map split_seen c.in_ok-analysis.analysis.splits ≡ splits T) c.in_ok-start.ensures.meanings c.in_ok-start.ensures.state c.in_ok-analysis.ensures.splits

pub returns-clause-counts : goal.returns-clause-counts
returns-clause-counts g c =
    rose_at_start _ _ c.args.variants.now _ _ c.args.case.now.budget _ _ _ _ c.in_ok-start.ensures.meanings c.in_ok-start.ensures.state c.in_ok-start.ensures.counts c.in_ok-analysis.ensures.counts c.in_ok-ended.ensures.counts

pub returns-clause-counts_within : goal.returns-clause-counts_within
returns-clause-counts_within g c =
    within_at_start _ _ c.args.variants.now _ _ c.args.case.now.budget _ _ _ _ c.in_ok-start.ensures.meanings c.in_ok-start.ensures.state c.in_ok-start.ensures.counts c.in_ok-analysis.ensures.counts_within c.in_ok-ended.ensures.counts

pub returns-clause-meter : goal.returns-clause-meter
returns-clause-meter g c =
    at_start _ _ c.args.variants.now _ _ c.args.case.now.budget (λ T. c.analyse.new.meter ≡ c.args.meter.now + steps T) c.in_ok-start.ensures.meanings c.in_ok-start.ensures.state c.in_ok-analysis.ensures.meter

pub returns-clause-meter_within : goal.returns-clause-meter_within
returns-clause-meter_within g c =
    at_start _ _ c.args.variants.now _ _ c.args.case.now.budget (λ T. IsBetween c.args.meter.now c.analyse.new.meter (c.args.meter.now + steps T)) c.in_ok-start.ensures.meanings c.in_ok-start.ensures.state c.in_ok-analysis.ensures.meter_within

pub returns-clause-none_out : goal.returns-clause-none_out
returns-clause-none_out g c =
    let n = c.in_ok-start.start.memory in let one = live c.start.new.self.store in
    let started : IsPermutation (n ∷ []) one = subst (λ (xs : List ℕ). IsPermutation (n ∷ xs) one) c.requires.none_out c.in_ok-start.ensures.out_numbers in
    none_after n one (live c.analyse.new.machine.store) _ (live c.give_out.new.machine.store) started c.in_ok-analysis.ensures.out_numbers c.in_ok-ended.ensures.out_numbers

pub returns-in_err-ended-clause-counts_within : goal.returns-in_err-ended-clause-counts_within
returns-in_err-ended-clause-counts_within g c =
    within_at_start _ _ c.args.variants.now _ _ c.args.case.now.budget _ _ _ _ c.in_ok-start.ensures.meanings c.in_ok-start.ensures.state c.in_ok-start.ensures.counts c.in_ok-analysis.ensures.counts_within c.in_err-ended.ensures.counts

pub returns-in_err-ended-clause-meter_within : goal.returns-in_err-ended-clause-meter_within
returns-in_err-ended-clause-meter_within g c =
    at_start _ _ c.args.variants.now _ _ c.args.case.now.budget (λ T. IsBetween c.args.meter.now c.analyse.new.meter (c.args.meter.now + steps T)) c.in_ok-start.ensures.meanings c.in_ok-start.ensures.state c.in_ok-analysis.ensures.meter_within

pub returns-in_err-ended-clause-none_out : goal.returns-in_err-ended-clause-none_out
returns-in_err-ended-clause-none_out g c =
    let n = c.in_ok-start.start.memory in let one = live c.start.new.self.store in
    let started : IsPermutation (n ∷ []) one = subst (λ (xs : List ℕ). IsPermutation (n ∷ xs) one) c.requires.none_out c.in_ok-start.ensures.out_numbers in
    none_after n one (live c.analyse.new.machine.store) _ (live c.give_out.new.machine.store) started c.in_ok-analysis.ensures.out_numbers c.in_err-ended.ensures.out_numbers

pub returns-in_err-analysis-clause-counts_within : goal.returns-in_err-analysis-clause-counts_within
returns-in_err-analysis-clause-counts_within g c =
    within_at_start _ _ c.args.variants.now _ _ c.args.case.now.budget _ _ _ _ c.in_ok-start.ensures.meanings c.in_ok-start.ensures.state c.in_ok-start.ensures.counts c.in_err-analysis.ensures.counts_within (same_counts _)

pub returns-in_err-analysis-clause-meter_within : goal.returns-in_err-analysis-clause-meter_within
returns-in_err-analysis-clause-meter_within g c =
    at_start _ _ c.args.variants.now _ _ c.args.case.now.budget (λ T. IsBetween c.args.meter.now c.analyse.new.meter (c.args.meter.now + steps T)) c.in_ok-start.ensures.meanings c.in_ok-start.ensures.state c.in_err-analysis.ensures.meter_within

pub returns-in_err-analysis-clause-none_out : goal.returns-in_err-analysis-clause-none_out
returns-in_err-analysis-clause-none_out g c =
    let n = c.in_ok-start.start.memory in let one = live c.start.new.self.store in
    let started : IsPermutation (n ∷ []) one = subst (λ (xs : List ℕ). IsPermutation (n ∷ xs) one) c.requires.none_out c.in_ok-start.ensures.out_numbers in
    none_after_refusal n one (live c.analyse.new.machine.store) started c.in_err-analysis.ensures.err

pub returns-in_err-start-clause-counts_within : goal.returns-in_err-start-clause-counts_within
returns-in_err-start-clause-counts_within g c =
    within_same _ _ _ c.in_err-start.ensures.counts

pub returns-in_err-start-clause-meter_within : goal.returns-in_err-start-clause-meter_within
returns-in_err-start-clause-meter_within g c =
    risen_by_nothing _ _

pub returns-in_err-start-clause-none_out : goal.returns-in_err-start-clause-none_out
returns-in_err-start-clause-none_out g c =
    c.in_err-start.ensures.err ∙ c.requires.none_out

pub returns-clause-signs : goal.returns-clause-signs
returns-clause-signs g c = c.in_ok-ended.ensures.keeps.stays.0.signs ∙ c.in_ok-analysis.ensures.keeps.stays.0.signs ∙ ap (λ p. (g.P.Ports.outside p).signs) c.in_ok-start.ensures.ports

pub returns-in_err-ended-clause-signs : goal.returns-in_err-ended-clause-signs
returns-in_err-ended-clause-signs g c = c.in_err-ended.ensures.keeps.stays.0.signs ∙ c.in_ok-analysis.ensures.keeps.stays.0.signs ∙ ap (λ p. (g.P.Ports.outside p).signs) c.in_ok-start.ensures.ports

pub returns-in_err-analysis-clause-signs : goal.returns-in_err-analysis-clause-signs
returns-in_err-analysis-clause-signs g c = c.in_err-analysis.ensures.keeps.stays.0.signs ∙ ap (λ p. (g.P.Ports.outside p).signs) c.in_ok-start.ensures.ports

pub returns-in_err-start-clause-signs : goal.returns-in_err-start-clause-signs
returns-in_err-start-clause-signs g c = ap (λ p. (g.P.Ports.outside p).signs) c.in_err-start.ensures.ports

pub returns-clause-answers : goal.returns-clause-answers
returns-clause-answers g c = c.in_ok-ended.ensures.keeps.stays.0.answers ∙ c.in_ok-analysis.ensures.keeps.stays.0.answers ∙ ap (λ p. (g.P.Ports.outside p).answers) c.in_ok-start.ensures.ports

pub returns-in_err-ended-clause-answers : goal.returns-in_err-ended-clause-answers
returns-in_err-ended-clause-answers g c = c.in_err-ended.ensures.keeps.stays.0.answers ∙ c.in_ok-analysis.ensures.keeps.stays.0.answers ∙ ap (λ p. (g.P.Ports.outside p).answers) c.in_ok-start.ensures.ports

pub returns-in_err-analysis-clause-answers : goal.returns-in_err-analysis-clause-answers
returns-in_err-analysis-clause-answers g c = c.in_err-analysis.ensures.keeps.stays.0.answers ∙ ap (λ p. (g.P.Ports.outside p).answers) c.in_ok-start.ensures.ports

pub returns-in_err-start-clause-answers : goal.returns-in_err-start-clause-answers
returns-in_err-start-clause-answers g c = ap (λ p. (g.P.Ports.outside p).answers) c.in_err-start.ensures.ports

pub returns-clause-peak : goal.returns-clause-peak
returns-clause-peak g c =
    let rose = returns-clause-counts g c in
    peak_of _ _ c.args.machine.now.store _ _ _ _ c.requires.used c.requires.peak c.in_ok-start.ensures.peak c.in_ok-analysis.ensures.keeps.stays.1 c.in_ok-ended.ensures.keeps.stays.1 _
    c.in_ok-start.ensures.counts.readied rose.readied c.peak.ensures.value
