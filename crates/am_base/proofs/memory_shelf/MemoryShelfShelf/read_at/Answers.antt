use Rattle.std.proofs.Common.{◌∙◌, sym}
use Rattle.am_base.proofs.Faults.{fault_count-call, fault_count-listed}
use Rattle.am_base.proofs.memory_shelf.MemoryShelfShelf.read_at.Goals as goal

pub returns-then-count_call-clause-cause : goal.returns-then-count_call-clause-cause
returns-then-count_call-clause-cause c =
    rw c.count_call.ensures.call (fault_count-listed c.args.self.now c.args.name.now (sym c.count_call.ensures.listed ∙ c.if-count_call.true))

pub returns-then-count_call-clause-counts : goal.returns-then-count_call-clause-counts
returns-then-count_call-clause-counts c = λ other. rw c.count_call.ensures.call (fault_count-call c.args.self.now other c.count_call.ensures.fits)

pub returns-clause-counts : goal.returns-clause-counts
returns-clause-counts c = λ other. rw c.count_call.ensures.call (fault_count-call c.args.self.now other c.count_call.ensures.fits)
