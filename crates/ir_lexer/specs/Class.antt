-- The bytes of a class.
use Rattle.std.specs.Prelude.{ℕ, Bool, not}
use Rattle.std.specs.Char.{is_ascii_digit}
use Rattle.ir_tokens.specs.Bytes.{is_quote, is_run_byte, is_meta_byte}
use Rattle.ir_lexer.specs.declared.class.Class.{Class}
use Rattle.ir_lexer.specs.declared.class.Class.TheVariants.{Run, Meta, Digit, Body}

-- whether a byte is of the class
abbrev pub holds : Class → ℕ → Bool
holds Run = is_run_byte
holds Meta = is_meta_byte
holds Digit = is_ascii_digit
holds Body = λ b. not (is_quote b)
