-- Numbers of few digits.
use Rattle.std.proofs.Common.{◌≡◌, ℕ, zero, suc, ◌≤◌, ◌<◌, ◌^◌, Bool, true, false, not, ◌&&◌, if◌then◌else◌, List, [], ◌∷◌, length, get_or}
use Rattle.std.proofs.Common.{Some, None, arith, rules, IsTrue}
use Rattle.std.proofs.Common.{refl, sym, subst, ap, ◌∙◌, ◌==◌, nat_lt, nat_le}
use Rattle.std.specs.Prelude.{decimal}
use Rattle.std.proofs.lemmas.Bool.{and_parts, ltb-true, leb-true}
use Rattle.std.proofs.lemmas.Bool.Decides.{nat_tests}
use Rattle.std.proofs.lemmas.Fmt.{decimal-digits_value, digits_decimal, digits_value-decimal, length-decimal-le, decimal_nonempty, first_decimal, decimal_digit}
use Rattle.std.specs.Char.{is_ascii_digit}
use Rattle.std.specs.List.{list_all}
use Rattle.std.specs.Str.Parse.{digits_value}
use Rattle.std.proofs.lemmas.Str.Parse.{IsNumeralModel, numerals_by_value, digits_value_short}
use Rattle.ir_tokens.specs.Tokens.{is_digits}
use Rattle.command_words.specs.Words.{Text, has_leading_zero, is_number, number_in}

own : IsNumeralModel (λ ds. IsTrue (list_all is_ascii_digit ds)) (digits_value 10)
own = numerals_by_value _ (search rules)

-- ten digits have a value below 10 ^ 10
pub few_digits : (ds : List ℕ) → IsTrue (list_all is_ascii_digit ds) → length ds ≤ 10 → digits_value 10 ds < 10000000000
few_digits ds digits few = digits_value_short own ds 10 digits few

-- ---- what is printed

leading : (word : Text) → not (has_leading_zero word) ≡ true → get_or word 0 0 ≡ 48 → length word ≡ 1
leading [] t e = cc
leading (b ∷ []) t e = refl
leading (b ∷ (next ∷ rest)) t e = let bad : not (48 == 48) ≡ true = subst (λ v. not (v == 48) ≡ true) e t in cc

not_leading : (word : Text) → 48 < get_or word 0 0 → has_leading_zero word ≡ false
not_leading [] h = refl
not_leading (b ∷ []) h = refl
not_leading (b ∷ (next ∷ rest)) h = let above : 48 < b = h in grind (arith, nat_tests)

pub record IsPrinted (word : Text) (n : ℕ) : Type 0 where
  pub spelled : word ≡ decimal n
  pub few : n < 10000000000

of_value : (word : Text) (n : ℕ) → is_number word ≡ true → digits_value 10 word ≡ n → IsPrinted word n
of_value word n t e =
    let outer = and_parts (is_digits word) (nat_le (length word) 10 && not (has_leading_zero word)) t in
    let inner = and_parts (nat_lt 0 (length word)) (list_all is_ascii_digit word) outer.0 in
    let more = and_parts (nat_le (length word) 10) (not (has_leading_zero word)) outer.1 in
    let digits : IsTrue (list_all is_ascii_digit word) = inner.1 in
    let some : 0 < length word = ltb-true 0 (length word) inner.0 in
    let small = few_digits word digits (leb-true (length word) 10 more.0) in
    let fits : digits_value 10 word < 2 ^ 64 = omega arith in
    let back = decimal-digits_value own word digits some (leading word more.1) fits in
    record { spelled = sym back ∙ ap decimal e; few = omega arith }

of_test : (word : Text) (n : ℕ) (t : Bool) → is_number word ≡ t → (if t then Some (digits_value 10 word) else None) ≡ Some n → IsPrinted word n
of_test word n true e f = let value : digits_value 10 word ≡ n = cc in of_value word n e value
of_test word n false e f = cc

pub read : (word : Text) (n : ℕ) → number_in word ≡ Some n → IsPrinted word n
read word n e = of_test word n (is_number word) refl e

printed_leads : (n : ℕ) → n < 10000000000 → has_leading_zero (decimal n) ≡ false
printed_leads zero h = rw (decimal_digit 0 (omega arith)) refl
printed_leads (suc n) h = not_leading (decimal (suc n)) (first_decimal (suc n) (omega arith) (omega arith))

pub printed : (n : ℕ) → n < 10000000000 → number_in (decimal n) ≡ Some n
printed n h =
    let fits : n < 2 ^ 64 = omega arith in
    let digits = digits_decimal own n fits in
    let value = digits_value-decimal own n fits in
    let some = decimal_nonempty n fits in
    let few = length-decimal-le 10 n (omega arith) (omega arith) fits in
    let lead = printed_leads n h in
    let filled : nat_lt 0 (length (decimal n)) ≡ true = grind (arith, nat_tests) in
    let short : nat_le (length (decimal n)) 10 ≡ true = grind (arith, nat_tests) in
    let each : list_all is_ascii_digit (decimal n) ≡ true = digits in
    rw (filled, each, short, lead, value) refl
