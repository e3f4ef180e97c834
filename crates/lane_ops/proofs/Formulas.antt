-- The formulas of the operations, as one lane of a vector computes them.
use Rattle.std.proofs.Common.{◌≡◌, ℕ, suc, ◌+◌, ◌-◌, ◌*◌, ◌/◌, ◌%◌, ◌^◌, ◌<◌, ◌≤◌, min, bit_and, cond, inl, inr, arith, add-zero, ap, sym, ◌∙◌, refl, pos}
use Rattle.std.proofs.Common.{negsuc}
use Rattle.std.specs.Prelude.{◌-ℤ◌, nat_lt}
use Rattle.std.specs.Int.RustNames.{int_lt}
use Rattle.std.proofs.Math.Nat.{div-eq_of_lt, pow-le-pow_right, add-mul, one-mul, add-mul-div_right, div-le_self, mod-eq_of_lt, zero-mod}
use Rattle.std.proofs.lemmas.Bool.{cases_lt, cond-true, cond-false, lt-ltb, le-ltb}
use Rattle.std.proofs.lemmas.Bool.Decides.{nat_tests}
use Rattle.std.proofs.lemmas.Int.{ints}
use Rattle.std.proofs.lemmas.Nat.{and_mask, pow-add, pow_pos, div-mul-add, div-add-mod', mod_below, div_below}
use Rattle.am_base.specs.declared.word.Width.{Width}
use Rattle.am_base.specs.declared.word.Width.TheVariants.{W1, W8, W16, W32, W64}
use Rattle.am_base.specs.Word.{IsWord, bits_of, word_of, signed, floor_div}
use Rattle.am_base.proofs.Words.{shifted_out, shifted_down}

within : (w : Width) (n : ℕ) → n % 2 ^ 64 % 2 ^ bits_of w ≡ n % 2 ^ bits_of w
within W1 n = omega arith
within W8 n = omega arith
within W16 n = omega arith
within W32 n = omega arith
within W64 n = omega arith

-- 64 bits of a number, cut to a width
pub cut : (w : Width) (n : ℕ) → bit_and (n % 2 ^ 64) (2 ^ bits_of w - 1) ≡ n % 2 ^ bits_of w
cut w n = and_mask (n % 2 ^ 64) (bits_of w) ∙ within w n

-- Differences.

taken_from : (w : Width) (x y : ℕ) → IsWord w x → y ≤ x → (x + (2 ^ 64 - y)) % 2 ^ bits_of w ≡ (x - y) % 2 ^ bits_of w
taken_from W1 x y h l = omega arith
taken_from W8 x y h l = omega arith
taken_from W16 x y h l = omega arith
taken_from W32 x y h l = omega arith
taken_from W64 x y h l = omega arith

taken_below : (w : Width) (x y n : ℕ) → IsWord w y → n + x + 1 ≡ y → (x + (2 ^ 64 - y)) % 2 ^ bits_of w ≡ 2 ^ bits_of w - suc (n % 2 ^ bits_of w)
taken_below W1 x y n h e = omega arith
taken_below W8 x y n h e = omega arith
taken_below W16 x y n h e = omega arith
taken_below W32 x y n h e = omega arith
taken_below W64 x y n h e = omega arith

pub difference : (w : Width) (x y : ℕ) → IsWord w x → IsWord w y → bit_and ((x + (2 ^ 64 - y)) % 2 ^ 64) (2 ^ bits_of w - 1) ≡ word_of w (pos x -ℤ pos y)
difference w x y h k =
    let is : bit_and ((x + (2 ^ 64 - y)) % 2 ^ 64) (2 ^ bits_of w - 1) ≡ (x + (2 ^ 64 - y)) % 2 ^ bits_of w = cut w (x + (2 ^ 64 - y)) in
    elim (cases_lt x y) [
      | inl l ↦
          let z : pos x -ℤ pos y ≡ negsuc (y - x - 1) = omega (arith, ints) in
          is ∙ taken_below w x y (y - x - 1) k (omega arith) ∙ ap (word_of w) (sym z)
      | inr l ↦
          let z : pos x -ℤ pos y ≡ pos (x - y) = omega (arith, ints) in
          is ∙ taken_from w x y h l ∙ ap (word_of w) (sym z)
    ]

-- Shifts.

few : (y : ℕ) → y < 64 → bit_and y 63 ≡ y
few y l = let m : bit_and y 63 ≡ y % 64 = and_mask y 6 in omega (arith, m)

pub count_fits : (y : ℕ) → bit_and y 63 < 64
count_fits y = let m : bit_and y 63 ≡ y % 64 = and_mask y 6 in omega (arith, m)

pub left : (w : Width) (x y : ℕ) → bit_and (cond (nat_lt y 64) ((x * 2 ^ bit_and y 63) % 2 ^ 64) 0) (2 ^ bits_of w - 1) ≡ (x * 2 ^ y) % 2 ^ bits_of w
left w x y = elim (cases_lt y 64) [
  | inl l ↦ ap (λ n. bit_and n (2 ^ bits_of w - 1)) (cond-true (nat_lt y 64) _ _ (lt-ltb y 64 l) ∙ ap (λ n. (x * 2 ^ n) % 2 ^ 64) (few y l)) ∙ cut w (x * 2 ^ y)
  | inr l ↦ ap (λ n. bit_and n (2 ^ bits_of w - 1)) (cond-false (nat_lt y 64) _ _ (le-ltb y 64 l)) ∙ cut w 0 ∙ zero-mod (2 ^ bits_of w)
      ∙ sym (shifted_out w x y l)
]

word_small : (w : Width) (x : ℕ) → IsWord w x → x < 2 ^ 64
word_small W1 x h = omega arith
word_small W8 x h = omega arith
word_small W16 x h = omega arith
word_small W32 x h = omega arith
word_small W64 x h = h

pub right : (w : Width) (x y : ℕ) → IsWord w x → cond (nat_lt y 64) (x / 2 ^ bit_and y 63) 0 ≡ x / 2 ^ y
right w x y h = elim (cases_lt y 64) [
  | inl l ↦ cond-true (nat_lt y 64) _ _ (lt-ltb y 64 l) ∙ ap (λ n. x / 2 ^ n) (few y l)
  | inr l ↦ cond-false (nat_lt y 64) _ _ (le-ltb y 64 l) ∙ sym (shifted_down x y (word_small w x h) l)
]

-- a count past the bits of a number may be taken for their number
capped : (n y b : ℕ) → n < 2 ^ b → n / 2 ^ min y b ≡ n / 2 ^ y
capped n y b h = elim (cases_lt y b) [
  | inl l ↦ ap (λ c. n / 2 ^ c) (omega arith)
  | inr l ↦
      let m : min y b ≡ b = omega arith in
      let le : 2 ^ b ≤ 2 ^ y = pow-le-pow_right {n = 2} (omega arith) l in
      ap (λ c. n / 2 ^ c) m ∙ div-eq_of_lt h ∙ sym (div-eq_of_lt (omega (arith, h, le)))
]

-- a whole number of divisors more, and one less than that
above : (a q d h : ℕ) → 0 < d → h ≡ q * d → (a + h) / d ≡ a / d + q
above a q d h some is = ap (λ n. (a + n) / d) is ∙ add-mul-div_right a q some

spread : (k j d : ℕ) → ((k + 1) + j) * d ≡ k * d + d + j * d
spread k j d = add-mul (k + 1) j d ∙ ap (λ n. n + j * d) (add-mul k 1 d ∙ ap (λ n. k * d + n) (one-mul d))

under : (n q d h : ℕ) → 0 < d → h ≡ q * d → n < h → (h - 1 - n) / d + 1 + n / d ≡ q
under n q d h some is l =
    let lt : n / d < q = div_below n d q some (omega (arith, is, l)) in
    let split : n / d * d + n % d ≡ n = div-add-mod' n d in
    let short : n % d < d = mod_below n d some in
    let parts : q ≡ (n / d + 1) + (q - 1 - n / d) = omega arith in
    let sum : q * d ≡ n / d * d + d + (q - 1 - n / d) * d = ap (λ m. m * d) parts ∙ spread (n / d) (q - 1 - n / d) d in
    let rest : h - 1 - n ≡ (q - 1 - n / d) * d + (d - 1 - n % d) = omega (arith, is, split, short, sum, l) in
    let quotient : (h - 1 - n) / d ≡ q - 1 - n / d = ap (λ m. m / d) rest ∙ div-mul-add (q - 1 - n / d) d (d - 1 - n % d) (omega arith) in
    omega (arith, quotient, lt)

doubled : (w : Width) → 2 ^ bits_of w ≡ 2 * 2 ^ (bits_of w - 1)
doubled W1 = refl
doubled W8 = refl
doubled W16 = refl
doubled W32 = refl
doubled W64 = refl

-- a number and its taken part cancel, modulo 2 to the width
cancelled : (w : Width) (t q : ℕ) → t < 2 ^ bits_of w → q ≤ 2 ^ 64 → (t + q + (2 ^ 64 - q)) % 2 ^ bits_of w ≡ t
cancelled W1 t q h l = omega arith
cancelled W8 t q h l = omega arith
cancelled W16 t q h l = omega arith
cancelled W32 t q h l = omega arith
cancelled W64 t q h l = omega arith

raised_low : (w : Width) (x : ℕ) → x < 2 ^ (bits_of w - 1) → (x + 2 ^ (bits_of w - 1)) % 2 ^ bits_of w ≡ x + 2 ^ (bits_of w - 1)
raised_low W1 x h = omega arith
raised_low W8 x h = omega arith
raised_low W16 x h = omega arith
raised_low W32 x h = omega arith
raised_low W64 x h = omega arith

raised_high : (w : Width) (x : ℕ) → IsWord w x → 2 ^ (bits_of w - 1) ≤ x → (x + 2 ^ (bits_of w - 1)) % 2 ^ bits_of w ≡ x - 2 ^ (bits_of w - 1)
raised_high W1 x h l = omega arith
raised_high W8 x h l = omega arith
raised_high W16 x h l = omega arith
raised_high W32 x h l = omega arith
raised_high W64 x h l = omega arith

bits_few : (w : Width) → bits_of w ≤ 64
bits_few W1 = omega arith
bits_few W8 = omega arith
bits_few W16 = omega arith
bits_few W32 = omega arith
bits_few W64 = omega arith

pub least : (y k : ℕ) → cond (nat_lt y k) y k ≡ min y k
least y k = elim (cases_lt y k) [
  | inl l ↦ cond-true (nat_lt y k) _ _ (lt-ltb y k l) ∙ omega arith
  | inr l ↦ cond-false (nat_lt y k) _ _ (le-ltb y k l) ∙ omega arith
]

half_small : (w : Width) → 2 ^ (bits_of w - 1) ≤ 2 ^ 64
half_small W1 = omega arith
half_small W8 = omega arith
half_small W16 = omega arith
half_small W32 = omega arith
half_small W64 = omega arith

shifted_low : (w : Width) (x y q d h : ℕ) → h ≡ 2 ^ (bits_of w - 1) → 0 < d → h ≡ q * d → x < h → x / d ≡ x / 2 ^ y → q ≤ h
    → ((x + h) % 2 ^ bits_of w / d + (2 ^ 64 - q)) % 2 ^ bits_of w ≡ word_of w (floor_div (signed w x) (2 ^ y))
shifted_low w x y q d h half some is l same most =
    let twice = doubled w in
    let small = half_small w in
    let raised : (x + h) % 2 ^ bits_of w ≡ x + h = ap (λ n. (x + n) % 2 ^ bits_of w) half ∙ raised_low w x (omega (arith, half, l))
    ∙ ap (λ n. x + n) (sym half) in
    let below : x / 2 ^ y < 2 ^ bits_of w = omega (arith, div-le_self x (2 ^ y), twice, half, l) in
    let value : signed w x ≡ pos x = cond-true (nat_lt x (2 ^ (bits_of w - 1))) _ _ (lt-ltb x (2 ^ (bits_of w - 1)) (omega (arith, half, l))) in
    ap (λ n. (n / d + (2 ^ 64 - q)) % 2 ^ bits_of w) raised
    ∙ ap (λ n. (n + (2 ^ 64 - q)) % 2 ^ bits_of w) (above x q d h some is ∙ ap (λ n. n + q) same)
    ∙ cancelled w (x / 2 ^ y) q below (omega (arith, half, small, most))
    ∙ sym (mod-eq_of_lt below)
    ∙ ap (λ z. word_of w (floor_div z (2 ^ y))) (sym value)

shifted_high : (w : Width) (x y n q d h : ℕ) → IsWord w x → h ≡ 2 ^ (bits_of w - 1) → 0 < d → h ≡ q * d → h ≤ x → x + 1 + n ≡ 2 ^ bits_of w
    → n / d ≡ n / 2 ^ y → q ≤ h
    → ((x + h) % 2 ^ bits_of w / d + (2 ^ 64 - q)) % 2 ^ bits_of w ≡ word_of w (floor_div (signed w x) (2 ^ y))
shifted_high w x y n q d h word half some is l rest same most =
    let twice = doubled w in
    let small = half_small w in
    let raised : (x + h) % 2 ^ bits_of w ≡ h - 1 - n = ap (λ m. (x + m) % 2 ^ bits_of w) half ∙ raised_high w x word (omega (arith, half, l))
    ∙ omega (arith, half, twice, rest) in
    let parts : (h - 1 - n) / d + n / 2 ^ y + 1 ≡ q = omega (arith, under n q d h some is (omega (arith, half, twice, rest, l)), same) in
    let below : n / 2 ^ y < 2 ^ bits_of w = omega (arith, div-le_self n (2 ^ y), rest) in
    let value : signed w x ≡ negsuc n = cond-false (nat_lt x (2 ^ (bits_of w - 1))) _ _ (le-ltb x (2 ^ (bits_of w - 1)) (omega (arith, half, l)))
    ∙ omega (arith, ints, rest) in
    ap (λ m. (m / d + (2 ^ 64 - q)) % 2 ^ bits_of w) raised
    ∙ taken_below w ((h - 1 - n) / d) q (n / 2 ^ y) (omega (arith, most, half, twice, l, word)) (omega (arith, parts))
    ∙ ap (λ z. word_of w (floor_div z (2 ^ y))) (sym value)

pub capped_fits : (w : Width) (y k : ℕ) → k ≡ bits_of w → cond (nat_lt y (k - 1)) y (k - 1) < 64
capped_fits w y k e = let m = least y (k - 1) in omega (arith, m, bits_few w, e)

pub shifted_signed : (w : Width) (x y : ℕ) → IsWord w x
    → bit_and ((bit_and ((x + 2 ^ (bits_of w - 1)) % 2 ^ 64) (2 ^ bits_of w - 1) / 2 ^ min y (bits_of w - 1) + (2 ^ 64 - 2 ^ (bits_of w - 1) / 2 ^ min y
    (bits_of w - 1))) % 2 ^ 64) (2 ^ bits_of w - 1)
    ≡ word_of w (floor_div (signed w x) (2 ^ y))
shifted_signed w x y word =
    let h = 2 ^ (bits_of w - 1) in
    let c = min y (bits_of w - 1) in
    let d = 2 ^ min y (bits_of w - 1) in
    let q = 2 ^ (bits_of w - 1 - min y (bits_of w - 1)) in
    let some : 0 < d = pow_pos (min y (bits_of w - 1)) in
    let split : bits_of w - 1 ≡ (bits_of w - 1 - min y (bits_of w - 1)) + min y (bits_of w - 1) = omega arith in
    let is : h ≡ q * d = ap (λ n. 2 ^ n) split ∙ pow-add 2 (bits_of w - 1 - min y (bits_of w - 1)) (min y (bits_of w - 1)) in
    let quotient : h / d ≡ q = ap (λ n. n / d) (is ∙ sym (add-zero (q * d))) ∙ div-mul-add q d 0 some in
    let most : q ≤ h = pow-le-pow_right {n = 2} (omega arith) (omega arith) in
    let twice = doubled w in
    cut w (bit_and ((x + h) % 2 ^ 64) (2 ^ bits_of w - 1) / d + (2 ^ 64 - h / d))
    ∙ ap (λ n. (n / d + (2 ^ 64 - h / d)) % 2 ^ bits_of w) (cut w (x + h))
    ∙ ap (λ n. ((x + h) % 2 ^ bits_of w / d + (2 ^ 64 - n)) % 2 ^ bits_of w) quotient
    ∙ elim (cases_lt x h) [
      | inl l ↦ shifted_low w x y q d h refl some is l (capped x y (bits_of w - 1) l) most
      | inr l ↦ shifted_high w x y (2 ^ bits_of w - 1 - x) q d h word refl some is l (omega (arith, word)) (capped (2 ^ bits_of w - 1 - x) y
          (bits_of w - 1) (omega (arith, twice, word, l))) most
    ]

pub signed_order : (w : Width) (x y : ℕ) → IsWord w x → IsWord w y
    → nat_lt ((x + 2 ^ (bits_of w - 1)) % 2 ^ bits_of w) ((y + 2 ^ (bits_of w - 1)) % 2 ^ bits_of w) ≡ int_lt (signed w x) (signed w y)
signed_order W1 x y h k = grind (arith, ints, nat_tests)
signed_order W8 x y h k = grind (arith, ints, nat_tests)
signed_order W16 x y h k = grind (arith, ints, nat_tests)
signed_order W32 x y h k = grind (arith, ints, nat_tests)
signed_order W64 x y h k = grind (arith, ints, nat_tests)
