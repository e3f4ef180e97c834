use Rattle.std.proofs.Common.{◌≡◌, map, take}
use Rattle.ir_text.specs.Parts.{entry, with_commas}
use Rattle.ir_text.specs.Printing.{with_tokens}
use Rattle.ir_text.proofs.lists.put_entries.Given as goal

abbrev pub invariant-each : goal.invariant-each
invariant-each l = l.sheet ≡ with_tokens l.initial.sheet (with_commas (map entry (take l.i l.entries)))
