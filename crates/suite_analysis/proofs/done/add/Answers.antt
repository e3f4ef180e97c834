use Rattle.std.proofs.Common.{◌∙◌, ◌<◌, ap, arith, length, subst, sym}
use Rattle.code_form.specs.Variant.{mutants_of}
use Rattle.suite_analysis.specs.Runs.{AreVerdicts, trial_on, expected_of}
use Rattle.suite_analysis.proofs.DoneLemmas.{done_more}
use Rattle.suite_analysis.proofs.done.add.Goals as goal

pub add-requires-clause-letters : goal.add-requires-clause-letters
add-requires-clause-letters c = ap length c.as_slice.ensures.value ∙ c.in_ok-letters.ensures.count ∙ c.requires.count ∙ sym c.requires.mutants

pub returns : goal.returns
returns c = λ answers is tests so_far.
    let code = c.args.code.now in let table = c.args.variants.now in let test = c.args.test.now in
    let some : 0 < mutants_of table = omega (arith, c.mutants-mutants.ensures.mutants, c.mutants-mutants.ensures.some) in
    let verdicts = subst (AreVerdicts (trial_on code table answers test) (expected_of code table answers test)) (sym c.as_slice.ensures.value)
    (c.in_ok-letters.ensures.verdicts (trial_on code table answers test) some is.shown) in
    done_more code table answers tests c.args.done.now _ test c.args.analysis c.as_slice.result.now
    c.in_ok-add.ensures.ok c.in_ok-push.ensures.items c.in_ok-push-2.ensures.items verdicts is so_far
