use Rattle.std.proofs.Common.{vec_len}
use Rattle.mutant_records.proofs.Tables.{TableSoFar}
use Rattle.mutant_records.proofs.table.list_of.Given as goal

abbrev pub invariant-each : goal.invariant-each
invariant-each l = TableSoFar l.code l.initial.variants l.fn.all l.variants l.rows l.left.items

abbrev pub decreases-each : goal.decreases-each
decreases-each l = vec_len l.left
