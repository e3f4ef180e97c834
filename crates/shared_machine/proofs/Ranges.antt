-- The bytes of a range, one after the other.
use Rattle.std.proofs.Common.{◌≡◌, ℕ, zero, suc, ◌+◌, ◌-◌, ◌*◌, ◌<◌, List, [], ◌∷◌, length, get_or, take, drop, arith, refl, ap, ◌∙◌, sym}
use Rattle.std.specs.Prelude.{slice_range, slice_index}
use Rattle.machine_form.specs.Straight.{number_of}

taken_more : (xs : List ℕ) (at k : ℕ) → at < length xs → take (suc k) (drop at xs) ≡ get_or xs at 0 ∷ take k (drop (suc at) xs)
taken_more [] at k h = absurd (omega (arith, h))
taken_more (x ∷ xs) zero k h = refl
taken_more (x ∷ xs) (suc at) k h = taken_more xs at k (omega (arith, h))

-- the range as a part of a list
pub range_taken : (xs : List ℕ) (at len : ℕ) → slice_range xs at (at + len) ≡ take len (drop at xs)
range_taken xs at len = let e : at + len - at ≡ len = omega arith in ap (λ (k : ℕ). take k (drop at xs)) e

pub number_none : (xs : List ℕ) (at len : ℕ) → len ≡ 0 → number_of (slice_range xs at (at + len)) ≡ 0
number_none xs at len e = ap number_of (range_taken xs at len ∙ ap (λ (k : ℕ). take k (drop at xs)) e)

pub number_more : (xs : List ℕ) (at len rest : ℕ) → at < length xs → len ≡ rest + 1
    → number_of (slice_range xs at (at + len)) ≡ slice_index xs at + 256 * number_of (slice_range xs (at + 1) (at + 1 + rest))
number_more xs at len rest h e =
    let next : at + 1 ≡ suc at = omega arith in
    let long : len ≡ suc rest = omega (arith, e) in
    ap number_of (range_taken xs at len ∙ ap (λ (k : ℕ). take k (drop at xs)) long ∙ taken_more xs at rest h)
    ∙ ap (λ ys. get_or xs at 0 + 256 * number_of ys) (ap (λ (k : ℕ). take rest (drop k xs)) (sym next) ∙ sym (range_taken xs (at + 1) rest))
