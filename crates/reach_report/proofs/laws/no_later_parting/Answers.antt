use Rattle.std.proofs.Common.{arith}
use Rattle.reach_report.proofs.Agreeing.{reached_before}
use Rattle.reach_report.proofs.laws.no_later_parting.Goals as goal

pub returns : goal.returns
returns g c = λ trial m parting reach same unchanged p r.
    let is = p.1 in let w = reached_before trial same unchanged m p.0 reach p.2 r in let l = w.2 in (w.0, w.1, omega arith)
