use Rattle.std.proofs.Common.{append_assoc, append-nil}
use Rattle.workload.proofs.More.{records_more, records_none}
use Rattle.workload.proofs.mutants.put_records.Goals as goal

pub masks-preserved : goal.masks-preserved
masks-preserved c =
    rw (c.in_ok-put_remainder.ensures, c.in_ok-put_wider.ensures, c.masks.invariant, records_more c.args.n c.masks.k) (simp append_assoc)

pub masks-init : goal.masks-init
masks-init c = rw (records_none c.args.n) (simp append-nil)
