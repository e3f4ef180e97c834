use Rattle.std.proofs.Common.{◌≡◌, take}
use Rattle.ir_tree.proofs.type_text.+copy_type.Given as goal

abbrev pub invariant-copy_types-each : goal.invariant-copy_types-each
invariant-copy_types-each l = l.copies ≡ take l.ty-index l.types
