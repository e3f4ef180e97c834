use Rattle.shared_pages.specs.Size.{memory_pages, table_entries}
use Rattle.std.proofs.Common.{◌≡◌, ◌≢◌, ◌<◌, ◌≤◌, ◌+◌, ◌*◌, ℕ, length, get_or, arith, ap, sym, ◌∙◌}
use Rattle.shared_pages.proofs.RowEnds.{apart_still, cleared_more, none_cleared}
use Rattle.shared_pages.proofs.rows.clear_row.Goals as goal

pub loop-i-init : goal.loop-i-init
loop-i-init c = none_cleared c.args.tables.now c.args.n

pub clear_leaf-requires-clause-apart : goal.clear_leaf-requires-clause-apart
clear_leaf-requires-clause-apart c =
    apart_still c.args.tables.now c.loop-i.tables c.args.n c.loop-i.i c.loop-i-test.true c.loop-i.invariant c.requires.apart

pub loop-i-preserved : goal.loop-i-preserved
loop-i-preserved c =
    cleared_more c.args.tables.now c.loop-i.tables c.clear_leaf.new.self c.args.n c.loop-i.i c.loop-i-test.true c.loop-i.invariant c.clear_leaf.ensures
    c.requires.apart
