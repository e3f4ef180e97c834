use Rattle.std.proofs.lemmas.List.{take_more}
use Rattle.suite_analysis.proofs.LetterLemmas.{class_more}
use Rattle.suite_analysis.proofs.letters.class_letters.Goals as goal

pub loop-class-preserved : goal.loop-class-preserved
loop-class-preserved c =
    rw (take_more c.args.classes.now c.loop-class.class-index c.class-item.result c.loop-class-test.true, ← c.class-item.is, c.in_ok-push.ensures.items)
    (class_more c.args.expected.now _ c.loop-class.letters.items c.class-item.result c.verdict.result c.loop-class.invariant c.verdict.ensures)
