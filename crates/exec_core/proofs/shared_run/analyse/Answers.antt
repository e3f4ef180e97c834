use Rattle.std.proofs.Common.{arith, ◌∙◌}
use Rattle.code_form.specs.Trial.{trial_of}
use Rattle.traces.specs.Work.{splits}
use Rattle.exec_core.proofs.EndingLemmas.{meter_rose, going_stops, all_counts, all_steps, all_tries, all_alone, all_executions, all_splits, are_classes}
use Rattle.exec_core.proofs.EndingLemmas.{states_out, left_out, left_distinct_numbers, released, still_keeps}
use Rattle.traces.proofs.Rises.{within_still}
use Rattle.traces.proofs.AllSplits.{in_order}
use Rattle.exec_core.proofs.shared_run.analyse.Goals as goal

pub overflow_sub-steps : goal.overflow_sub-steps
overflow_sub-steps g c = omega (arith, c.steps-before.ensures, c.steps.ensures, meter_rose g.met.M.Machine.lawful c.args.variants.now _ _ c.in-Ok.ensures.going)

pub release_engine-requires-clause-out : goal.release_engine-requires-clause-out
release_engine-requires-clause-out g c = left_out g.met.M.Machine.lawful c.in-Err.ensures.stopped
    (g.met.M.Machine.lawful.among c.args.machine.now c.args.start c.requires.out)

pub release_engine-requires-clause-distinct : goal.release_engine-requires-clause-distinct
release_engine-requires-clause-distinct g c = left_distinct_numbers g.met.M.Machine.lawful c.in-Err.ensures.stopped
    (g.met.M.Machine.lawful.among c.args.machine.now c.args.start c.requires.out)

pub returns-in-Ok-clause-classes : goal.returns-in-Ok-clause-classes
returns-in-Ok-clause-classes g c =
    are_classes g.met.M.Machine.lawful c.args.variants.now _ _ c.in-Ok.ensures.going c.in-Ok.ensures.over
    (g.met.M.Machine.lawful.among c.args.machine.now c.args.start c.requires.out)
    c.analysis_of.ensures.moved c.analysis_of.ensures.rising

pub returns-in-Ok-clause-steps : goal.returns-in-Ok-clause-steps
returns-in-Ok-clause-steps g c =
    let l = all_steps g.met.M.Machine.lawful c.args.variants.now _ _ c.in-Ok.ensures.going c.in-Ok.ensures.over
    (g.met.M.Machine.lawful.among c.args.machine.now c.args.start c.requires.out) in
    omega (arith, c.analysis_of.ensures.steps, c.steps-before.ensures, c.steps.ensures, l)

pub returns-in-Ok-clause-alone : goal.returns-in-Ok-clause-alone
returns-in-Ok-clause-alone g c = c.analysis_of.ensures.alone
    ∙ all_alone g.met.M.Machine.lawful c.args.variants.now _ _ c.in-Ok.ensures.going c.in-Ok.ensures.over
    (g.met.M.Machine.lawful.among c.args.machine.now c.args.start c.requires.out)

pub returns-in-Ok-clause-tries : goal.returns-in-Ok-clause-tries
returns-in-Ok-clause-tries g c = c.analysis_of.ensures.tries
    ∙ all_tries g.met.M.Machine.lawful c.args.variants.now _ _ c.in-Ok.ensures.going c.in-Ok.ensures.over
    (g.met.M.Machine.lawful.among c.args.machine.now c.args.start c.requires.out)

pub returns-in-Ok-clause-executions : goal.returns-in-Ok-clause-executions
returns-in-Ok-clause-executions g c = c.analysis_of.ensures.executions
    ∙ all_executions g.met.M.Machine.lawful c.args.variants.now _ _ c.in-Ok.ensures.going c.in-Ok.ensures.over
    (g.met.M.Machine.lawful.among c.args.machine.now c.args.start c.requires.out)

pub returns-in-Ok-clause-splits : goal.returns-in-Ok-clause-splits
returns-in-Ok-clause-splits g c =
    let V = g.M.Machine.view in let m = c.args.machine.now in let l = g.met.M.Machine.lawful in
    let T = trial_of (V.meanings m) c.args.variants.now (V.stands m c.args.start) c.args.budget in
    c.analysis_of.ensures.splits (splits T) (all_splits l c.args.variants.now _ _ c.in-Ok.ensures.going c.in-Ok.ensures.over
    (l.among m c.args.start c.requires.out)) (in_order T (l.same m))

pub returns-in-Ok-clause-counts : goal.returns-in-Ok-clause-counts
returns-in-Ok-clause-counts g c = all_counts g.met.M.Machine.lawful c.args.variants.now _ _ c.in-Ok.ensures.going c.in-Ok.ensures.over
    (g.met.M.Machine.lawful.among c.args.machine.now c.args.start c.requires.out)

pub returns-in-Ok-clause-meter : goal.returns-in-Ok-clause-meter
returns-in-Ok-clause-meter g c = all_steps g.met.M.Machine.lawful c.args.variants.now _ _ c.in-Ok.ensures.going c.in-Ok.ensures.over
    (g.met.M.Machine.lawful.among c.args.machine.now c.args.start c.requires.out)

pub returns-in-Ok-clause-counts_within : goal.returns-in-Ok-clause-counts_within
returns-in-Ok-clause-counts_within g c = (going_stops g.met.M.Machine.lawful c.args.variants.now _ _ c.in-Ok.ensures.going).counts

pub returns-in-Ok-clause-meter_within : goal.returns-in-Ok-clause-meter_within
returns-in-Ok-clause-meter_within g c = (going_stops g.met.M.Machine.lawful c.args.variants.now _ _ c.in-Ok.ensures.going).meter

pub returns-in-Ok-clause-out_numbers : goal.returns-in-Ok-clause-out_numbers
returns-in-Ok-clause-out_numbers g c =
    states_out g.met.M.Machine.lawful c.args.variants.now _ _ c.in-Ok.ensures.going c.in-Ok.ensures.over
    (g.met.M.Machine.lawful.among c.args.machine.now c.args.start c.requires.out)
    c.analysis_of.ensures.moved

pub returns-in-Ok-clause-keeps : goal.returns-in-Ok-clause-keeps
returns-in-Ok-clause-keeps g c = c.in-Ok.ensures.going.keeps

pub returns-in-Err-clause-counts_within : goal.returns-in-Err-clause-counts_within
returns-in-Err-clause-counts_within g c = within_still _ _ _ _ c.in-Err.ensures.stopped.counts c.release_engine.ensures.counts

pub returns-in-Err-clause-meter_within : goal.returns-in-Err-clause-meter_within
returns-in-Err-clause-meter_within g c = c.in-Err.ensures.stopped.meter

pub returns-in-Err-clause-err : goal.returns-in-Err-clause-err
returns-in-Err-clause-err g c =
    released g.met.M.Machine.lawful c.in-Err.ensures.stopped (g.met.M.Machine.lawful.among c.args.machine.now c.args.start c.requires.out)
    c.release_engine.ensures.out_numbers
    c.release_engine.ensures.keeps

pub returns-in-Err-clause-keeps : goal.returns-in-Err-clause-keeps
returns-in-Err-clause-keeps g c =
    still_keeps g.met.M.Machine.lawful c.in-Err.ensures.stopped (g.met.M.Machine.lawful.among c.args.machine.now c.args.start c.requires.out)
    c.release_engine.ensures.out_numbers
    c.release_engine.ensures.keeps

pub returns-in-Ok-clause-meter_beside_applied : goal.returns-in-Ok-clause-meter_beside_applied
returns-in-Ok-clause-meter_beside_applied g c = (going_stops g.met.M.Machine.lawful c.args.variants.now _ _ c.in-Ok.ensures.going).beside

pub returns-in-Err-clause-meter_beside_applied : goal.returns-in-Err-clause-meter_beside_applied
returns-in-Err-clause-meter_beside_applied g c = omega (arith, c.in-Err.ensures.stopped.beside, c.release_engine.ensures.counts.applied)
