use Rattle.std.proofs.Common.{None}
use Rattle.std.specs.Prelude.{◌≡◌}
use Rattle.command_plan.specs.Ends.{Accepted}
use Rattle.accmut_app.specs.Call.{FileRose, SinkRose, counts_in}
use Rattle.accmut_app.proofs.Due.{status_due}
use Rattle.accmut_laws.proofs.Passed.{plan_passed}
use Rattle.accmut_laws.proofs.answers.complete.Goals as goal

pub returns : goal.returns
returns p c before after held s told none still passes answer =
    let end = plan_passed before.ports.signs before.ports.answers held (λ name. held name ≡ None) c passes in
    status_due before.ports.signs before.ports.answers c held before.files (FileRose before after) (counts_in before) (counts_in after)
    before.written after.written (SinkRose before after) (Accepted end.0) s told (λ name d r. absurd (none name d r)) still end.1 answer
