-- Masks of equal words, bit by bit.
use Rattle.std.proofs.Common.{◌≡◌, ℕ, suc, ◌+◌, ◌-◌, ◌*◌, ◌/◌, ◌%◌, ◌^◌, ◌<◌, ◌≤◌, List, [], ◌∷◌, ◌++◌, Bool, true, false, cond, inl, inr, length, map, take, drop}
use Rattle.std.proofs.Common.{get_or, bit_and, arith, ap, sym, subst, ◌∙◌, refl, drop-cons, drop-drop, length-drop, take-add, pow-suc, mul_assoc}
use Rattle.std.specs.Prelude.{nat_eq, IsBitSet, ◌↔◌}
use Rattle.std.specs.Simd.Lanes.{chunk, mask_l}
use Rattle.std.proofs.lemmas.List.{length-map, map-append, take_all, take-map, drop-map, get_or-map, get_or_past}
use Rattle.std.proofs.lemmas.Bool.{cases_Bool, eqb-true, eq-eqb}
use Rattle.std.proofs.lemmas.Nat.{and_mask, bit_set_by_shift}
use Rattle.std.proofs.lemmas.Simd.{mask_l-lt, bit_mask_l, get_or-chunk, length-chunk}
use Rattle.std.proofs.Math.Nat.{pow-le-pow_right}
use mir.Val.{bool_byte}
use Rattle.lane_ops.specs.Mask.{mask_of}

pub byte_of : (b : Bool) → bool_byte b ≡ cond b 1 0
byte_of true = refl
byte_of false = refl

pub byte_small : (b : Bool) → bool_byte b < 2
byte_small true = omega arith
byte_small false = omega arith

-- the mask of a list after another one is above that of the first
mask_append : (ms ns : List Bool) → mask_l (ms ++ ns) ≡ mask_l ms + mask_l ns * 2 ^ length ms
mask_append [] ns = omega arith
mask_append (m ∷ ms) ns =
    let rest : mask_l (ms ++ ns) ≡ mask_l ms + mask_l ns * 2 ^ length ms = mask_append ms ns in
    let above : mask_l ns * 2 ^ suc (length ms) ≡ mask_l ns * 2 ^ length ms * 2 = ap (λ n. mask_l ns * n) (pow-suc 2 (length ms)) ∙ sym (mul_assoc (mask_l ns) (2 ^ length ms) 2) in
    omega (arith, rest, above)

-- a mask of n lanes is below 2 ^ n
pub mask_below : (x : ℕ) (a : List ℕ) (at n : ℕ) → at + n ≤ length a → mask_of x (chunk at n a) < 2 ^ n
mask_below x a at n h =
    let long : length (map (λ y. nat_eq y x) (chunk at n a)) ≡ n = length-map (chunk at n a) (λ y. nat_eq y x) ∙ length-chunk at n a h in
    subst (λ k. mask_of x (chunk at n a) < 2 ^ k) long (mask_l-lt (map (λ y. nat_eq y x) (chunk at n a)))

-- the masks of n lanes and of the next m
pub mask_joined : (x : ℕ) (a : List ℕ) (at n m : ℕ) → at + n ≤ length a → mask_of x (chunk at (n + m) a) ≡ mask_of x (chunk at n a) + mask_of x (chunk (at + n) m a) * 2 ^ n
mask_joined x a at n m h =
    let p : ℕ → Bool = λ y. nat_eq y x in
    let long : length (map p (chunk at n a)) ≡ n = length-map (chunk at n a) p ∙ length-chunk at n a h in
    ap (mask_of x) (take-add n m (drop at a) ∙ ap (λ xs. chunk at n a ++ take m xs) (drop-drop n at a))
    ∙ ap mask_l (map-append p (chunk at n a) (chunk (at + n) m a))
    ∙ mask_append (map p (chunk at n a)) (map p (chunk (at + n) m a))
    ∙ ap (λ k. mask_of x (chunk at n a) + mask_of x (chunk (at + n) m a) * 2 ^ k) long

-- one more lane before the others
pub mask_more : (x : ℕ) (a : List ℕ) (i : ℕ) → i < length a → mask_of x (drop i a) ≡ cond (nat_eq (get_or a i 0) x) 1 0 + 2 * mask_of x (drop (i + 1) a)
mask_more x a i h =
    let next : suc i ≡ i + 1 = omega arith in
    ap (mask_of x) (drop-cons a i 0 h) ∙ ap (λ (j : ℕ). cond (nat_eq (get_or a i 0) x) 1 0 + 2 * mask_of x (drop j a)) next

-- fewer than 64 lanes leave the highest bit clear
pub mask_fits : (x : ℕ) (a : List ℕ) (i : ℕ) → length a ≤ 64 → 0 < i → mask_of x (drop i a) < 2 ^ 63
mask_fits x a i h some =
    let lt = mask_l-lt (map (λ y. nat_eq y x) (drop i a)) in
    let long : length (map (λ y. nat_eq y x) (drop i a)) ≡ length (drop i a) = simp length-map in
    let short = length-drop i a in
    let few : length (map (λ y. nat_eq y x) (drop i a)) ≤ 63 = omega (arith, long, short) in
    let le : 2 ^ length (map (λ y. nat_eq y x) (drop i a)) ≤ 2 ^ 63 = pow-le-pow_right {n = 2} (omega arith) few in
    omega (arith, lt, le)

-- the last lanes are all that are left
pub last_chunk : (a : List ℕ) (i : ℕ) → length a ≤ i + 64 → take (length a - i) (drop i a) ≡ chunk i 64 a
last_chunk a i h =
    let short = length-drop i a in
    take_all (length a - i) (drop i a) (omega (arith, short)) ∙ sym (take_all 64 (drop i a) (omega (arith, short)))

-- the bit of a word in the mask of its 64
bit_at : (x : ℕ) (a : List ℕ) (i : ℕ) → mask_of x (chunk (64 * (i / 64)) 64 a) / 2 ^ (i % 64) % 2 ≡ cond (get_or (map (λ y. nat_eq y x) a) i false) 1 0
bit_at x a i =
    let p : ℕ → Bool = λ y. nat_eq y x in
    let place : 64 * (i / 64) + i % 64 ≡ i = omega arith in
    let tests : map p (chunk (64 * (i / 64)) 64 a) ≡ chunk (64 * (i / 64)) 64 (map p a) = sym (take-map p 64 (drop (64 * (i / 64)) a))
    ∙ ap (take 64) (sym (drop-map p (64 * (i / 64)) a)) in
    bit_mask_l (map p (chunk (64 * (i / 64)) 64 a)) (i % 64)
    ∙ ap (λ ms. cond (get_or ms (i % 64) false) 1 0) tests
    ∙ ap (λ (b : Bool). cond b 1 0) (get_or-chunk (64 * (i / 64)) 64 (map p a) (i % 64) false (omega arith) ∙ ap (λ k. get_or (map p a) k false) place)

-- a bit is set where the shifted word is odd
odd : (n k : ℕ) → bit_and (n / 2 ^ k) 1 ≡ n / 2 ^ k % 2
odd n k = and_mask (n / 2 ^ k) 1

pub set_where_equal : (x : ℕ) (a : List ℕ) (i n : ℕ) → i < length a → n ≡ mask_of x (chunk (64 * (i / 64)) 64 a) → IsBitSet n (i % 64) ↔ (get_or a i 0 ≡ x)
set_where_equal x a i n h is =
    let bit : n / 2 ^ (i % 64) % 2 ≡ cond (nat_eq (get_or a i 0) x) 1 0 =
    ap (λ m. m / 2 ^ (i % 64) % 2) is ∙ bit_at x a i ∙ ap (λ (b : Bool). cond b 1 0) (get_or-map (λ y. nat_eq y x) a i 0 false h) in (
      λ set. elim (cases_Bool (nat_eq (get_or a i 0) x)) [
        | inl same ↦ eqb-true (get_or a i 0) x same
        | inr other ↦
            let one : bit_and (n / 2 ^ (i % 64)) 1 ≡ 1 = (bit_set_by_shift n (i % 64)).1 set in
            let none : ◌≡◌ {A = ℕ} (cond (nat_eq (get_or a i 0) x) 1 0) 0 = ap (λ (b : Bool). cond b 1 0) other in
            absurd (omega (arith, one, none, bit, odd n (i % 64)))
      ],
      λ same.
          let yes : ◌≡◌ {A = ℕ} (cond (nat_eq (get_or a i 0) x) 1 0) 1 = ap (λ (b : Bool). cond b 1 0) (eq-eqb (get_or a i 0) x same) in
          (bit_set_by_shift n (i % 64)).0 (odd n (i % 64) ∙ bit ∙ yes),
    )

pub clear_past_end : (x : ℕ) (a : List ℕ) (i n : ℕ) → length a ≤ i → n ≡ mask_of x (chunk (64 * (i / 64)) 64 a) → IsBitSet n (i % 64) → ⊥
clear_past_end x a i n h is set =
    let long : length (map (λ y. nat_eq y x) a) ≡ length a = length-map a (λ y. nat_eq y x) in
    let bit : ◌≡◌ {A = ℕ} (n / 2 ^ (i % 64) % 2) 0 =
    ap (λ m. m / 2 ^ (i % 64) % 2) is ∙ bit_at x a i ∙ ap (λ (b : Bool). cond b 1 0) (get_or_past (map (λ y. nat_eq y x) a) i false (omega (arith, long, h))) in
    let one : bit_and (n / 2 ^ (i % 64)) 1 ≡ 1 = (bit_set_by_shift n (i % 64)).1 set in
    omega (arith, one, bit, odd n (i % 64))
