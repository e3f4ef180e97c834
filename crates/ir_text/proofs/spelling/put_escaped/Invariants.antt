use Rattle.std.proofs.Common.{◌≡◌, ◌++◌, take}
use Rattle.ir_text.specs.Spelling.{escaped}
use Rattle.ir_text.proofs.spelling.put_escaped.Given as goal

abbrev pub invariant-each : goal.invariant-each
invariant-each l = l.out ≡ l.initial.out ++ escaped (take l.byte-index l.text)
