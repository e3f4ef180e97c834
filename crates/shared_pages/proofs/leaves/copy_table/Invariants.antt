use Rattle.shared_pages.specs.Rows.{IsCopied}
use Rattle.shared_pages.specs.Size.{table_entries}
use Rattle.shared_pages.proofs.leaves.copy_table.Given as goal

abbrev pub invariant-loop-i : goal.invariant-loop-i
invariant-loop-i l = IsCopied table_entries l.fn.tables l.tables l.fn.m l.fn.n l.i
