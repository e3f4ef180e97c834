use Rattle.std.proofs.Common.{◌≡◌, ◌-◌, ◌++◌}
use Rattle.ir_rules.specs.Memory.{little_endian}
use Rattle.ir_memory.proofs.bytes.write_word.Given as goal

abbrev pub invariant-each : goal.invariant-each
invariant-each l = l.buffer ++ little_endian (l.size - l._at) l.rest ≡ l.initial.buffer ++ little_endian l.size l.word
