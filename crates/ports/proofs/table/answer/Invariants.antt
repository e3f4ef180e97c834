use Rattle.std.proofs.Common.{◌≡◌, drop, map}
use Rattle.ports.specs.Rows.{answer_of}
use Rattle.ports.proofs.table.answer.Given as goal

abbrev pub invariant-loop-row : goal.invariant-loop-row
invariant-loop-row l = answer_of (map (λ r. (r.0.items, r.1)) (drop l.row-index l.rows)) l.args ≡ answer_of (map (λ r. (r.0.items, r.1)) l.rows) l.args
