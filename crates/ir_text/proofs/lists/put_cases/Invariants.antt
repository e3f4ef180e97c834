use Rattle.std.proofs.Common.{◌≡◌, map, take}
use Rattle.ir_text.specs.Parts.{case, joined}
use Rattle.ir_text.specs.Printing.{with_tokens}
use Rattle.ir_text.proofs.lists.put_cases.Given as goal

abbrev pub invariant-each : goal.invariant-each
invariant-each l = l.sheet ≡ with_tokens l.initial.sheet (joined (map case (take l.case-index l.cases)))
