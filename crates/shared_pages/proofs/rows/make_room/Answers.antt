use Rattle.shared_pages.specs.Size.{memory_pages}
use Rattle.std.proofs.Common.{arith}
use Rattle.shared_pages.proofs.RowSteps.{extended}
use Rattle.shared_pages.proofs.rows.make_room.Goals as goal

pub returns-clause-tables : goal.returns-clause-tables
returns-clause-tables c =
    let few = c.if-len.false in
    extended memory_pages c.args.tables.now c.extend.new.self (omega (arith, few)) c.in_ok-extend.ensures.ok
