use Rattle.std.proofs.Common.{fold, map, replicate, None, ap, ◌∙◌, arith}
use Rattle.std.proofs.lemmas.List.{take_all}
use Rattle.exec_core.specs.Engines.{split_seen}
use Rattle.reach_report.specs.Pass.{with_split, table_of}
use Rattle.reach_report.proofs.parting.led.Goals as goal

pub returns : goal.returns
unfolding table_of
returns c =
    c.splits.invariant
    ∙ ap (λ xs. fold with_split (replicate c.args.mutants None) (map split_seen xs)) (take_all c.splits.split-index c.args.splits.now (omega (arith, c.splits-test.false)))
