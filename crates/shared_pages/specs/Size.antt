-- How many pages a memory has, and in tables of which size it names them.
use Rattle.std.specs.Prelude.{ℕ, ◌/◌}
use Rattle.am_base.specs.declared.limits.TheConstants.{MEMORY_BYTES, PAGE_BYTES}

abbrev pub memory_pages : ℕ
memory_pages = MEMORY_BYTES / PAGE_BYTES

-- how many entries a table has: a memory's table names tables of pages, so its pages are the square of it
abbrev pub table_entries : ℕ
table_entries = 32
