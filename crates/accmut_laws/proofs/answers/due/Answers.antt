use Rattle.accmut_app.specs.Call.{FileRose, SinkRose, counts_in}
use Rattle.accmut_app.proofs.Due.{status_due}
use Rattle.accmut_laws.proofs.answers.due.Goals as goal

pub returns : goal.returns
returns p c before after held end s told quiet still is_due answer =
    status_due before.ports.signs before.ports.answers c held before.files (FileRose before after) (counts_in before) (counts_in after)
    before.written after.written (SinkRose before after) end s told quiet still is_due answer
