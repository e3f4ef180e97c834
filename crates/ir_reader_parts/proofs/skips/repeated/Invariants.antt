use Rattle.std.proofs.Common.{◌≡◌, length}
use Rattle.ir_reader_parts.specs.Ignored.{repeated}
use Rattle.ir_reader_parts.proofs.skips.repeated.Given as goal

abbrev pub invariant-turns : goal.invariant-turns
invariant-turns l = (repeated l.part).parse l.cursor ≡ (repeated l.part).parse l.initial.cursor

abbrev pub decreases-turns : goal.decreases-turns
decreases-turns l = length l.cursor
