-- Words of 1 to 64 bits: their signed values, and one formula for each operation over unbounded whole numbers.
use Rattle.std.specs.Prelude.{ℕ, ◌+◌, ◌-◌, ◌*◌, ◌/◌, ◌%◌, ◌^◌, ◌<◌, suc, Bool, ◌&&◌, not, if◌then◌else◌, nat_lt, nat_le, ◌==◌, ℤ, pos, negsuc, ◌-ℤ◌, ◌≤ℤ◌, ◌<ℤ◌}
use Rattle.std.specs.Prelude.{bit_and, bit_or, bit_xor, List, [], ◌∷◌, Result, Ok, Err, Option, Some, None}
use Rattle.std.specs.Int.RustNames.{int_lt, int_div, int_rem}
use Rattle.am_base.specs.declared.word.Width.{Width}
use Rattle.am_base.specs.declared.word.Width.TheVariants.{W1, W8, W16, W32, W64}
use Rattle.am_base.specs.declared.word.BinOp.{BinOp}
use Rattle.am_base.specs.declared.word.BinOp.TheVariants.{Add, Sub, Mul, UDiv, SDiv, URem, SRem, Shl, LShr, AShr, And, Or, Xor}
use Rattle.am_base.specs.declared.word.Pred.{Pred}
use Rattle.am_base.specs.declared.word.Pred.TheVariants.{Eq, Ne, Ugt, Uge, Ult, Ule, Sgt, Sge, Slt, Sle}
use Rattle.am_base.specs.declared.word.Cast.{Cast}
use Rattle.am_base.specs.declared.word.Cast.TheVariants.{Trunc, ZExt, SExt, PtrToInt, IntToPtr}
use Rattle.am_base.specs.declared.outcome.Trap.{Trap}
use Rattle.am_base.specs.declared.outcome.Trap.TheVariants.{DivideByZero, DivideOverflow}

-- the first of some words, 0 if there is none
abbrev pub first_of : List ℕ → ℕ
first_of [] = 0
first_of (x ∷ xs) = x

-- how many bits a word has
abbrev pub bits_of : Width → ℕ
bits_of W1 = 1
bits_of W8 = 8
bits_of W16 = 16
bits_of W32 = 32
bits_of W64 = 64

-- a number is a word of the width
abbrev pub IsWord : Width → ℕ → Type 0
IsWord w a = a < 2 ^ bits_of w

-- the signed value of a word: the word itself below half of the range, and else the word less 2 ^ w
abbrev pub signed : Width → ℕ → ℤ
signed w a = if nat_lt a (2 ^ (bits_of w - 1)) then pos a else (pos a -ℤ pos (2 ^ bits_of w))

-- the word of a whole number: the number modulo 2 ^ w
abbrev pub word_of : Width → ℤ → ℕ
word_of w (pos n) = n % 2 ^ bits_of w
word_of w (negsuc n) = 2 ^ bits_of w - suc (n % 2 ^ bits_of w)

-- a literal fits a width where it is one of its words, or the signed value of one; its word is then word_of
abbrev pub Fits : Width → ℤ → Type 0
Fits w z = ((pos 0 -ℤ pos (2 ^ (bits_of w - 1))) ≤ℤ z) × (z <ℤ pos (2 ^ bits_of w))

-- the quotient of a whole number, rounded down
abbrev pub floor_div : ℤ → ℕ → ℤ
floor_div (pos n) d = pos (n / d)
floor_div (negsuc n) d = negsuc (n / d)

-- the answer of a division of words, or its trap at a zero divisor
abbrev pub divided : ℕ → Result ℕ Trap → Result ℕ Trap
divided b r = if (b == 0) then Err DivideByZero else r

-- the trap of a signed division: a zero divisor, or the least value by -1
abbrev pub division_trap : Width → ℕ → ℕ → Option Trap
division_trap w a b = if (b == 0) then Some DivideByZero else (if ((a == 2 ^ (bits_of w - 1)) && (b == 2 ^ bits_of w - 1)) then Some DivideOverflow else None)

-- the trap, or else the word
abbrev pub unless_trap : Option Trap → ℕ → Result ℕ Trap
unless_trap None value = Ok value
unless_trap (Some trap) value = Err trap

-- the operations, on words of one width
abbrev pub binary_of : BinOp → Width → ℕ → ℕ → Result ℕ Trap
binary_of Add w a b = Ok ((a + b) % 2 ^ bits_of w)
binary_of Sub w a b = Ok (word_of w (pos a -ℤ pos b))
binary_of Mul w a b = Ok ((a * b) % 2 ^ bits_of w)
binary_of UDiv w a b = divided b (Ok (a / b))
binary_of SDiv w a b = unless_trap (division_trap w a b) (word_of w (int_div (signed w a) (signed w b)))
binary_of URem w a b = divided b (Ok (a % b))
binary_of SRem w a b = unless_trap (division_trap w a b) (word_of w (int_rem (signed w a) (signed w b)))
binary_of Shl w a b = Ok ((a * 2 ^ b) % 2 ^ bits_of w)
binary_of LShr w a b = Ok (a / 2 ^ b)
binary_of AShr w a b = Ok (word_of w (floor_div (signed w a) (2 ^ b)))
binary_of And w a b = Ok (bit_and a b)
binary_of Or w a b = Ok (bit_or a b)
binary_of Xor w a b = Ok (bit_xor a b)

-- the comparisons, of the words or of their signed values
abbrev pub compare_of : Pred → Width → ℕ → ℕ → Bool
compare_of Eq w a b = a == b
compare_of Ne w a b = not (a == b)
compare_of Ugt w a b = nat_lt b a
compare_of Uge w a b = nat_le b a
compare_of Ult w a b = nat_lt a b
compare_of Ule w a b = nat_le a b
compare_of Sgt w a b = int_lt (signed w b) (signed w a)
compare_of Sge w a b = not (int_lt (signed w a) (signed w b))
compare_of Slt w a b = int_lt (signed w a) (signed w b)
compare_of Sle w a b = not (int_lt (signed w b) (signed w a))

-- the conversions, from one width to another
abbrev pub convert_of : Cast → Width → Width → ℕ → ℕ
convert_of Trunc from to a = a % 2 ^ bits_of to
convert_of ZExt from to a = a
convert_of SExt from to a = word_of to (signed from a)
convert_of PtrToInt from to a = a % 2 ^ bits_of to
convert_of IntToPtr from to a = a
