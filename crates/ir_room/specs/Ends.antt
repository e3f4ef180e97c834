-- Where a global ends, by its size and alignment.
use Rattle.std.specs.Prelude.{ℕ, ◌+◌, min, max}
use Rattle.am_base.specs.declared.limits.TheConstants.{MEMORY_BYTES}
use Rattle.type_layout.specs.Layout.{round_up}
use Rattle.type_table.specs.declared.shape.Extent.{Extent}

-- all addresses behind the memory count as the first of them, and an alignment is from 1 to 8, so that no sum can overflow
abbrev pub limited : ℕ → ℕ
limited at = min at (MEMORY_BYTES + 1)

abbrev pub near : ℕ → ℕ
near align = min (max align 1) 8

abbrev pub end_after : ℕ → Extent → ℕ
end_after at e = limited (round_up (limited at) (near e.align) + limited e.size)
