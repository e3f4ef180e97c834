use Rattle.std.proofs.Common.{◌≡◌, take, length}
use Rattle.ir_tree.proofs.type_text.+same_type.Given as goal

abbrev pub invariant-same_types-each : goal.invariant-same_types-each
invariant-same_types-each l = (length l.a ≡ length l.b) × (take l.i l.a ≡ take l.i l.b)
