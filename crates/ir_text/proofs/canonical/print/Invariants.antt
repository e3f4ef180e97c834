use Rattle.std.proofs.Common.{◌≡◌, take, None}
use Rattle.ir_text.specs.Lines.{canon}
use Rattle.ir_text.proofs.canonical.print.Given as goal

abbrev pub invariant-each : goal.invariant-each
invariant-each l = (l.sheet.text ≡ canon (take l.item-index l.item-items)) × (l.sheet.last ≡ None)
