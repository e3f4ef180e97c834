use Rattle.am_base.specs.declared.limits.TheConstants.{MEMORY_BYTES}
use Rattle.std.proofs.Common.{◌≡◌, length}
use Rattle.shared_pages.proofs.tests.sevens.Given as goal

abbrev pub invariant-places : goal.invariant-places
invariant-places l = length l.bytes.items ≡ MEMORY_BYTES
