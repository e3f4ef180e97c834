use Rattle.std.proofs.Common.{◌≡◌, ℕ, ◌+◌, ◌-◌, ◌*◌, ◌/◌, ◌%◌, ◌^◌, ◌<◌, ◌≤◌, zero, suc, arith, ℤ, pos, negsuc, ap, ◌∙◌, refl, ◌≢◌, None, w64, to_z, of_z}
use Rattle.std.proofs.Common.{neg_ℤ}
use Rattle.std.specs.Int.RustNames.{int_div, int_rem}
use Rattle.std.specs.Int.Signed.{mag, mag_rem}
use mir.Val.{SFits}
use Rattle.std.proofs.lemmas.Int.{ints, to_z-of_z}
use Rattle.std.proofs.lemmas.Bool.Decides.{nat_tests}
use Rattle.std.proofs.Math.Nat.{div-eq_of_lt, pow-le-pow_right, mul-mod_left, mul_assoc, div-le_self, div-lt_self, div-one}
use Rattle.std.proofs.lemmas.Nat.{pow-add}
use Rattle.am_base.specs.declared.word.Width.{Width}
use Rattle.am_base.specs.declared.word.Width.TheVariants.{W1, W8, W16, W32, W64}
use Rattle.am_base.specs.Word.{bits_of, signed, division_trap, word_of}

pub shifted_down : (a b : ℕ) → a < 2 ^ 64 → 64 ≤ b → a / 2 ^ b ≡ 0
shifted_down a b h l = let m : 2 ^ 64 ≤ 2 ^ b = pow-le-pow_right (omega arith) l in div-eq_of_lt (omega arith)

pub floor_far : (n b : ℕ) → n < 2 ^ 63 → 63 ≤ b → n / 2 ^ b ≡ 0
floor_far n b h l = let m : 2 ^ 63 ≤ 2 ^ b = pow-le-pow_right (omega arith) l in div-eq_of_lt (omega arith)

le_bits : (w : Width) (b : ℕ) → 64 ≤ b → bits_of w ≤ b
le_bits W1 b l = omega arith
le_bits W8 b l = omega arith
le_bits W16 b l = omega arith
le_bits W32 b l = omega arith
le_bits W64 b l = l

pub shifted_out : (w : Width) (a b : ℕ) → 64 ≤ b → a * 2 ^ b % 2 ^ bits_of w ≡ 0
shifted_out w a b l =
    let k = bits_of w in
    let le : bits_of w ≤ b = le_bits w b l in
    let e : b ≡ (b - bits_of w) + bits_of w = omega arith in
    let p : 2 ^ b ≡ 2 ^ (b - bits_of w) * 2 ^ bits_of w = ap (λ n. 2 ^ n) e ∙ pow-add 2 (b - bits_of w) (bits_of w) in
    rw (p, ← mul_assoc) (mul-mod_left (a * 2 ^ (b - bits_of w)) (2 ^ bits_of w))

negated : (n : ℕ) → mag (neg_ℤ (pos n)) ≡ n - 1
negated zero = refl
negated (suc n) = omega arith

pub quotient_fits : (x y : ℤ) → mag x < 2 ^ 63 → (y ≡ negsuc 0 → x ≡ negsuc (2 ^ 63 - 1) → ⊥) → SFits w64 (int_div x y)
quotient_fits (pos a) (pos b) fx h = record { sfits = omega (arith, div-le_self a b) }
quotient_fits (pos a) (negsuc b) fx h = record { sfits = omega (arith, div-le_self a (suc b), negated (a / suc b)) }
quotient_fits (negsuc a) (pos b) fx h = record { sfits = omega (arith, div-le_self (suc a) b, negated (suc a / b)) }
quotient_fits (negsuc a) (negsuc zero) fx h =
    let no : a ≢ 2 ^ 63 - 1 = (λ e. h refl (ap negsuc e)) in
    record { sfits = omega (arith, no, div-one (suc a)) }
quotient_fits (negsuc a) (negsuc (suc b)) fx h = record { sfits = omega (arith, div-lt_self {n = suc a} {k = suc (suc b)} (omega arith) (omega arith)) }

pub nonzero : (w : Width) (a b : ℕ) (y : ℤ) → b < 2 ^ bits_of w → y ≡ signed w b → division_trap w a b ≡ None → 0 < of_z w64 y
nonzero W1 a b y h e t = grind (arith, ints, nat_tests)
nonzero W8 a b y h e t = grind (arith, ints, nat_tests)
nonzero W16 a b y h e t = grind (arith, ints, nat_tests)
nonzero W32 a b y h e t = grind (arith, ints, nat_tests)
nonzero W64 a b y h e t = grind (arith, ints, nat_tests)

pub no_overflow : (w : Width) (a b : ℕ) (x y : ℤ) → a < 2 ^ bits_of w → b < 2 ^ bits_of w → x ≡ signed w a → y ≡ signed w b → division_trap w a b ≡ None
    → y ≡ negsuc 0 → x ≡ negsuc (2 ^ 63 - 1) → ⊥
no_overflow W1 a b x y h k e f t p q = grind (arith, ints, nat_tests)
no_overflow W8 a b x y h k e f t p q = grind (arith, ints, nat_tests)
no_overflow W16 a b x y h k e f t p q = grind (arith, ints, nat_tests)
no_overflow W32 a b x y h k e f t p q = grind (arith, ints, nat_tests)
no_overflow W64 a b x y h k e f t p q = grind (arith, ints, nat_tests)

-- what `/` and `%` ask of the two signed values, as the code writes them
pub can_divide : (w : Width) (a b : ℕ) (x y : ℤ) → a < 2 ^ bits_of w → b < 2 ^ bits_of w → mag x < 2 ^ 63 → mag y < 2 ^ 63 → x ≡ signed w a → y ≡ signed w b
    → division_trap w a b ≡ None →
    (0 < of_z w64 y) × SFits w64 (int_div (to_z w64 (of_z w64 x)) (to_z w64 (of_z w64 y)))
can_divide w a b x y h k fx fy e f t = (
  nonzero w a b y k f t,
  rw (to_z-of_z w64 x (record { sfits = fx }), to_z-of_z w64 y (record { sfits = fy }))
      (quotient_fits x y fx (no_overflow w a b x y h k e f t)),
)

pub ok_quotient : (w : Width) (a b : ℕ) (x y : ℤ) (r : ℕ) → a < 2 ^ bits_of w → b < 2 ^ bits_of w → mag x < 2 ^ 63 → mag y < 2 ^ 63 → x ≡ signed w a
    → y ≡ signed w b → division_trap w a b ≡ None →
    r ≡ word_of w (to_z w64 (of_z w64 (int_div (to_z w64 (of_z w64 x)) (to_z w64 (of_z w64 y))))) → r ≡ word_of w (int_div (signed w a) (signed w b))
ok_quotient w a b x y r h k fx fy e f t g =
    let fits = quotient_fits x y fx (no_overflow w a b x y h k e f t) in
    let one : to_z w64 (of_z w64 x) ≡ x = to_z-of_z w64 x (record { sfits = fx }) in
    let two : to_z w64 (of_z w64 y) ≡ y = to_z-of_z w64 y (record { sfits = fy }) in
    let three : to_z w64 (of_z w64 (int_div x y)) ≡ int_div x y = to_z-of_z w64 (int_div x y) fits in
    cc

pub ok_remainder : (w : Width) (a b : ℕ) (x y : ℤ) (r : ℕ) → a < 2 ^ bits_of w → b < 2 ^ bits_of w → mag x < 2 ^ 63 → mag y < 2 ^ 63 → x ≡ signed w a
    → y ≡ signed w b → division_trap w a b ≡ None →
    r ≡ word_of w (to_z w64 (of_z w64 (int_rem (to_z w64 (of_z w64 x)) (to_z w64 (of_z w64 y))))) → r ≡ word_of w (int_rem (signed w a) (signed w b))
ok_remainder w a b x y r h k fx fy e f t g =
    let fits : SFits w64 (int_rem x y) = record { sfits = omega (arith, mag_rem x y) } in
    let one : to_z w64 (of_z w64 x) ≡ x = to_z-of_z w64 x (record { sfits = fx }) in
    let two : to_z w64 (of_z w64 y) ≡ y = to_z-of_z w64 y (record { sfits = fy }) in
    let three : to_z w64 (of_z w64 (int_rem x y)) ≡ int_rem x y = to_z-of_z w64 (int_rem x y) fits in
    cc
