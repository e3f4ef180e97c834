-- A word plus 1 and minus 1, modulo the number of words.
use Rattle.std.proofs.Common.{◌≡◌, ℕ, ◌+◌, ◌-◌, ◌*◌, ◌%◌, ◌<◌, ap, ◌∙◌, arith, mod-eq_of_lt}
use native.Mathlib.Nat.{add-mul-mod_self_right, zero-mod}

pub wrapped_up : (a m : ℕ) → a + 1 ≡ m → (a + 1) % m ≡ 0
wrapped_up a m e =
    let same : a + 1 ≡ 0 + 1 * m = omega arith in
    ap (λ x. x % m) same ∙ add-mul-mod_self_right 0 1 m ∙ zero-mod m

pub one_up : (a m : ℕ) → a + 1 < m → (a + 1) % m ≡ a + 1
one_up a m h = mod-eq_of_lt h

pub wrapped_down : (a m : ℕ) → a ≡ 0 → 0 < m → (a + (m - 1)) % m ≡ m - 1
wrapped_down a m e h =
    let same : a + (m - 1) ≡ m - 1 = omega arith in
    ap (λ x. x % m) same ∙ mod-eq_of_lt (omega arith)

pub one_down : (a m : ℕ) → 0 < a → a < m → (a + (m - 1)) % m ≡ a - 1
one_down a m p h =
    let same : a + (m - 1) ≡ (a - 1) + 1 * m = omega arith in
    ap (λ x. x % m) same ∙ add-mul-mod_self_right (a - 1) 1 m ∙ mod-eq_of_lt (omega arith)
