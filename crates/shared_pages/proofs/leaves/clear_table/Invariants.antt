use Rattle.shared_pages.specs.Rows.{IsCleared}
use Rattle.shared_pages.specs.Size.{table_entries}
use Rattle.shared_pages.proofs.leaves.clear_table.Given as goal

abbrev pub invariant-loop-i : goal.invariant-loop-i
invariant-loop-i l = IsCleared table_entries l.fn.tables l.tables l.fn.n l.i
