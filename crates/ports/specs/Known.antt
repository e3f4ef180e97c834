-- The meaning of the four functions of the C library.
use Rattle.std.specs.Prelude.{ℕ, ◌%◌, ◌^◌, ◌==◌, ◌&&◌, ◌||◌, nat_le, if◌then◌else◌, List, [], ◌∷◌, Some}
use Rattle.std.specs.Int.RustNames.{unsigned_abs}
use Rattle.am_base.specs.declared.word.Width.{Width}
use Rattle.am_base.specs.Word.{bits_of, first_of, signed}
use Rattle.code_form.specs.declared.sign.PortSign.{PortSign}

-- the sign of a function from one word of a width to another word of it
abbrev pub sign_of_word : List ℕ → Width → PortSign
sign_of_word name w = record { name = name; params = w ∷ []; result = Some w }

-- the absolute value of a signed word, modulo 2 ^ w: that of the least one is the word itself
abbrev pub absolute : Width → ℕ → ℕ
absolute w a = unsigned_abs (signed w a) % 2 ^ bits_of w

-- 1 for a decimal digit, else 0
abbrev pub digit_test : ℕ → ℕ
digit_test a = if (nat_le 48 a && nat_le a 57) then 1 else 0

-- 1 for a tab, a line feed, a vertical tab, a form feed, a carriage return and a blank, else 0
abbrev pub space_test : ℕ → ℕ
space_test a = if ((nat_le 9 a && nat_le a 13) || (a == 32)) then 1 else 0
