use Rattle.std.proofs.Common.{◌≡◌, ◌++◌, length}
use Rattle.ir_tokens.specs.Names.{unescaped, unescaped_behind}
use Rattle.ir_reader_tokens.proofs.texts.unescaped.Given as goal

abbrev pub invariant-each : goal.invariant-each
invariant-each l = l.value ++ unescaped_behind l.behind l.left ≡ unescaped l.text

abbrev pub decreases-each : goal.decreases-each
decreases-each l = length l.left
