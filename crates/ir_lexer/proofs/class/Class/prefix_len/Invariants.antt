use Rattle.std.proofs.Common.{◌≡◌, ◌+◌, ◌-◌, ◌≤◌, length, drop}
use Rattle.std.specs.List.{prefix_len}
use Rattle.ir_lexer.specs.Class.{holds}
use Rattle.ir_lexer.proofs.class.Class.prefix_len.Given as goal

abbrev pub invariant-each : goal.invariant-each
invariant-each l = record { value : l.len + prefix_len (holds l.self) (drop l.len l.text) ≡ prefix_len (holds l.self) l.text; within : l.len ≤ length l.text }

abbrev pub decreases-each : goal.decreases-each
decreases-each l = length l.text - l.len
