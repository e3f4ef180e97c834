-- The value of digits.
use Rattle.std.proofs.Common.{◌≡◌, ℕ, ◌+◌, ◌-◌, ◌*◌, ◌<◌, ◌≤◌, length, take, get_or, Option, Some, None, is_some, sym, arith}
use Rattle.std.specs.Char.{is_ascii_digit, digit_value}
use Rattle.std.specs.Option.{SomeIff}
use Rattle.std.specs.Str.Parse.{digits_value}
use Rattle.std.proofs.lemmas.Bool.{and_parts, leb-true, false_from_ne_true}
use Rattle.std.proofs.lemmas.List.Sums.{AllPass-from_list_all}
use Rattle.std.proofs.lemmas.Str.{digit_value_digit}
use Rattle.std.proofs.lemmas.Str.Parse.{digits_value-take-le}
use Rattle.std.proofs.lemmas.Int.Digits.{digits_value_more}
use Rattle.ir_tokens.specs.Bytes.{Text, Each}
use Rattle.ir_tokens.specs.Tokens.{IsSmallNumber, is_small_number}
use Rattle.ir_tokens.proofs.Spelled.{is_small_number-IsSmallNumber, IsSmallNumber-is_small_number}

-- the byte of a digit is 48 above its value
pub digit_at : (ds : Text) (i : ℕ) → Each is_ascii_digit ds → i < length ds → digit_value (get_or ds i 0) + 48 ≡ get_or ds i 0
digit_at ds i each h =
    let both = and_parts _ _ (AllPass-from_list_all is_ascii_digit ds each i 0 h) in
    digit_value_digit (get_or ds i 0) (leb-true _ _ both.0, leb-true _ _ both.1)

-- one more digit
pub digits_value-next : (ds : Text) (i value : ℕ) → Each is_ascii_digit ds → i < length ds → value ≡ digits_value 10 (take i ds)
    → value * 10 + (get_or ds i 0 - 48) ≡ digits_value 10 (take (i + 1) ds)
digits_value-next ds i value each h e = let more = digits_value_more 10 ds i h in let digit = digit_at ds i each h in omega arith

pub digits_value-front : (ds : Text) (i : ℕ) → digits_value 10 (take i ds) ≤ digits_value 10 ds
digits_value-front ds i = digits_value-take-le 10 ds i (omega arith)

-- a number is there exactly where the text is one
pub is_some-SomeIff : (o : Option ℕ) (s : Text) → SomeIff o (IsSmallNumber s) (digits_value 10 s) → is_some o ≡ is_small_number s
is_some-SomeIff (Some n) s h = sym (IsSmallNumber-is_small_number s h.0)
is_some-SomeIff None s h = sym (false_from_ne_true _ (λ e. h (is_small_number-IsSmallNumber s e)))
