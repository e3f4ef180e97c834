use Rattle.std.proofs.Common.{add-one, arith}
use Rattle.change_set.proofs.PageCounts.{last_counted, page_counted}
use Rattle.change_set.proofs.change.is_last_of_page.Goals as goal

pub returns-then-i-bytes : goal.returns-then-i-bytes
returns-then-i-bytes c = simp add-one (last_counted c.args.bytes.now c.args.i (omega arith))

pub returns : goal.returns
returns c = rw add-one (page_counted c.args.bytes.now c.args.i (0, 0) c.requires.rising (omega arith))
