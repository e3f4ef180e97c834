-- The rules that read a part as often as it begins.
use Rattle.std.specs.Prelude.{Bool}
use Rattle.ir_grammar.specs.Lexeme.{Lexemes}
use Rattle.ir_grammar.specs.Rule.{Rule, next}
use Rattle.ir_grammar.specs.Starts.{sees_flag, sees_skip, sees_head_skip, sees_tail, sees_global_tail}
use Rattle.ir_grammar.specs.Skips as spec
use Rattle.ir_grammar.specs.Ops.{arithmetic_flags, cast_flags}
use Rattle.ir_reader_parts.specs.declared.skips.Ignored.{Ignored}
use Rattle.ir_reader_parts.specs.declared.skips.Ignored.TheVariants as part

-- the part comes next
abbrev pub begins : Ignored → Lexemes → Bool
begins part.Flags = sees_flag
begins part.ArithmeticFlags = spec.sees_one_of arithmetic_flags
begins part.CastFlags = spec.sees_one_of cast_flags
begins part.Skips = sees_skip
begins part.HeadSkips = sees_head_skip
begins part.Tails = sees_tail
begins part.GlobalTails = sees_global_tail

abbrev pub once : Ignored → Rule (Unit {0})
once part.Flags = spec.flag
once part.ArithmeticFlags = next
once part.CastFlags = next
once part.Skips = spec.skip
once part.HeadSkips = spec.skip
once part.Tails = spec.tail
once part.GlobalTails = spec.tail

abbrev pub repeated : Ignored → Rule (Unit {0})
repeated part.Flags = spec.flagged
repeated part.ArithmeticFlags = spec.word_flags arithmetic_flags
repeated part.CastFlags = spec.word_flags cast_flags
repeated part.Skips = spec.skipped
repeated part.HeadSkips = spec.head_skipped
repeated part.Tails = spec.tailed
repeated part.GlobalTails = spec.global_tailed
