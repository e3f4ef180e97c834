use Rattle.command_plan.specs.Answer.{WritesText}
use Rattle.command_plan.proofs.writing.write_text.Goals as goal

pub returns-in-Ok-clause-writes : goal.returns-in-Ok-clause-writes
returns-in-Ok-clause-writes g c = WritesText.whole c.in-Ok.ensures.ok

pub returns-in-Err-clause-writes : goal.returns-in-Err-clause-writes
returns-in-Err-clause-writes g c = WritesText.part c.in-Err.ensures.cause c.in-Err.ensures.err
