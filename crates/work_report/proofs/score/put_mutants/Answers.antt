use Rattle.std.proofs.Common.{append_assoc}
use Rattle.work_report.specs.Report.{mutant_line}
use Rattle.work_report.proofs.MoreLines.{each_more}
use Rattle.work_report.proofs.score.put_mutants.Goals as goal

pub mutants-preserved : goal.mutants-preserved
mutants-preserved c = rw (c.in_ok-put_mutant.ensures, c.mutants.invariant, each_more (mutant_line c.args.matrix.now) c.mutants.m) (simp append_assoc)
