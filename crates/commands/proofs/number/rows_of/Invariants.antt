use Rattle.std.proofs.Common.{◌≡◌, map, take}
use Rattle.commands.specs.Number.{row_of}
use Rattle.commands.proofs.number.rows_of.Given as goal

abbrev pub invariant-each : goal.invariant-each
invariant-each l = l.rows ≡ map row_of (take l.line-index l.lines)
