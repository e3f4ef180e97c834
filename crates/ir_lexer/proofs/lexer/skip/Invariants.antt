use Rattle.std.proofs.Common.{◌≡◌, ◌≤◌, length}
use Rattle.ir_tokens.specs.Front.{skip_from, skip}
use Rattle.ir_lexer.proofs.lexer.skip.Given as goal

abbrev pub invariant-each : goal.invariant-each
invariant-each l = record { value : skip_from l.is_comment l.text ≡ skip l.initial.text; within : length l.text ≤ length l.initial.text }

abbrev pub decreases-each : goal.decreases-each
decreases-each l = length l.text
