use Rattle.code_form.proofs.Lists.{all_below}
use Rattle.code_form.proofs.replacements.index_for.Goals as goal

pub returns-else-mutants-at-clause-below : goal.returns-else-mutants-at-clause-below
returns-else-mutants-at-clause-below c = all_below c.args.mutants.now c.args.m c.loop-at.at c.requires.rising c.requires.absent c.loop-at-test.true
    c.loop-at.invariant.within c.if-mutants-at.false
