use Rattle.std.proofs.Common.{append_assoc, append-nil}
use Rattle.workload.proofs.More.{masks_more, masks_none}
use Rattle.workload.proofs.module.put_masks.Goals as goal

pub masks-preserved : goal.masks-preserved
masks-preserved c = rw (c.in_ok-put_mask.ensures, c.masks.invariant, masks_more c.masks.j) (simp append_assoc)

pub masks-init : goal.masks-init
masks-init c = rw masks_none (simp append-nil)
