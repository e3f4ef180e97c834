use Rattle.std.proofs.Common.{append_assoc}
use Rattle.work_report.proofs.MoreLines.{each_more}
use Rattle.html_page.specs.Tests.{killed_one}
use Rattle.html_page.proofs.tests_part.put_kills.Goals as goal

pub mutants-preserved : goal.mutants-preserved
mutants-preserved c = rw (c.in_ok-put_killed.ensures, c.mutants.invariant, each_more (killed_one c.args.matrix.now c.args.t) c.mutants.m) (simp append_assoc)
