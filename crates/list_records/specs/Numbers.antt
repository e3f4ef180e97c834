-- Decimal numbers in the fields of a list: digits with at most one `-` before them.
use Rattle.std.specs.Prelude.{ℕ, ◌-◌, ◌/◌, ◌%◌, ◌^◌, Bool, true, false, not, ◌&&◌, ◌==◌, nat_lt, nat_le, if◌then◌else◌, List, [], ◌∷◌, Option, Some, None}
use Rattle.std.specs.Str.Parse.{digits_value}
use Rattle.am_base.specs.declared.word.Width.{Width}
use Rattle.am_base.specs.Word.{bits_of}
use Rattle.ir_tokens.specs.Tokens.{is_digits}
use Rattle.list_records.specs.declared.decimal.Decimal.{Decimal}

-- the value of digits, where it is below 2 ^ 64: no number in a list may be larger
abbrev pub magnitude_of : List ℕ → Option ℕ
magnitude_of digits = if (is_digits digits && nat_lt (digits_value 10 digits) (2 ^ 64)) then Some (digits_value 10 digits) else None

abbrev pub signed_by : Bool → Option ℕ → Option Decimal
signed_by negative None = None
signed_by negative (Some n) = Some (record { negative = negative; magnitude = n })

-- the decimal number that a text is
abbrev pub decimal_of : List ℕ → Option Decimal
decimal_of [] = None
decimal_of (b ∷ bs) = if (b == 45) then signed_by true (magnitude_of bs) else signed_by false (magnitude_of (b ∷ bs))

-- the number, where it is from 1 to most
abbrev pub positive : ℕ → Option Decimal → Option ℕ
positive most None = None
positive most (Some d) = if (not d.negative && (nat_le 1 d.magnitude && nat_le d.magnitude most)) then Some d.magnitude else None

abbrev pub number_within : ℕ → List ℕ → Option ℕ
number_within most text = positive most (decimal_of text)

-- the word of a number that is from - 2 ^ (w - 1) to 2 ^ w - 1: the number modulo 2 ^ w
abbrev pub word_of_decimal : ℕ → Option Decimal → Option ℕ
word_of_decimal size None = None
word_of_decimal size (Some d) =
    if d.negative then (if nat_le d.magnitude (size / 2) then Some ((size - d.magnitude) % size) else None) else
    (if nat_lt d.magnitude size then Some d.magnitude else None)

abbrev pub word_within : Width → List ℕ → Option ℕ
word_within w text = word_of_decimal (2 ^ bits_of w) (decimal_of text)
