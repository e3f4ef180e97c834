use Rattle.std.proofs.Common.{◌≡◌, map, take}
use Rattle.am_base.specs.declared.word.Width.TheVariants.{W64}
use Rattle.am_base.specs.Word.{word_of}
use Rattle.ir_rules.specs.Memory.{total, literal_of}
use Rattle.ir_op_codes.specs.Paths.{meant}
use Rattle.ir_op_codes.proofs.words.literal_part.Given as goal

abbrev pub invariant-each : goal.invariant-each
invariant-each l = l.sum ≡ word_of W64 (total (map (λ m. literal_of l.types.defs (m.0.now, meant m.1)) (take l.m-index l.path)))
