use Rattle.std.proofs.Common.{◌+◌, ◌*◌}
use Rattle.am_base.specs.declared.limits.TheConstants.{PAGE_BYTES}
use Rattle.shared_pages.specs.Opening.{IsPut}
use Rattle.shared_pages.proofs.opening.put_page.Given as goal

abbrev pub invariant-bytes : goal.invariant-bytes
invariant-bytes l = IsPut l.fn.store l.store l.id l.bytes (l.number * PAGE_BYTES + l.at)
