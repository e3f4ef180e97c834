-- Sums and products modulo 2^64 are the words of the sums and products of whole numbers.
use Rattle.std.proofs.Common.{◌≡◌, ℕ, suc, ◌+◌, ◌-◌, ◌*◌, ◌/◌, ◌%◌, ◌^◌, ◌<◌, List, [], ◌∷◌, ◌++◌, map, take, get_or, length, arith, sym, ◌∙◌, ap, refl, ℤ, pos, negsuc}
use Rattle.std.specs.Prelude.{◌+ℤ◌, ◌-ℤ◌, ◌*ℤ◌}
use Rattle.std.specs.List.{fold}
use Rattle.std.proofs.lemmas.Int.{ints}
use Rattle.std.proofs.lemmas.List.{map_more}
use Rattle.am_base.specs.declared.word.Width.TheVariants.{W64}
use Rattle.am_base.specs.Word.{word_of, floor_div}
use Rattle.ir_rules.specs.Memory.{total}

-- a whole number is its word and a multiple of 2^64
word-and-rest : (z : ℤ) → z ≡ pos (word_of W64 z) +ℤ (pos (2 ^ 64) *ℤ floor_div z (2 ^ 64))
word-and-rest (pos n) = omega (arith, ints)
word-and-rest (negsuc n) = omega (arith, ints)

-- and no other word goes with it
only-word : (z q : ℤ) (n : ℕ) → n < 2 ^ 64 → z ≡ pos n +ℤ (pos (2 ^ 64) *ℤ q) → word_of W64 z ≡ n
only-word (pos a) (pos b) n l e = omega (arith, ints)
only-word (pos a) (negsuc b) n l e = omega (arith, ints)
only-word (negsuc a) (pos b) n l e = omega (arith, ints)
only-word (negsuc a) (negsuc b) n l e = omega (arith, ints)

pub word-sum : (y z : ℤ) → word_of W64 (y +ℤ z) ≡ (word_of W64 y + word_of W64 z) % 2 ^ 64
word-sum y z =
    let q : ℤ = floor_div y (2 ^ 64) +ℤ floor_div z (2 ^ 64) +ℤ pos ((word_of W64 y + word_of W64 z) / 2 ^ 64) in
    only-word (y +ℤ z) q ((word_of W64 y + word_of W64 z) % 2 ^ 64) (omega arith) (omega (arith, ints, word-and-rest y, word-and-rest z))

pub word-scaled : (k : ℕ) (z : ℤ) → word_of W64 (pos k *ℤ z) ≡ (k * word_of W64 z) % 2 ^ 64
word-scaled k (pos n) =
    let e : n ≡ 2 ^ 64 * (n / 2 ^ 64) + n % 2 ^ 64 = omega arith in
    let q : ℤ = pos (k * (n % 2 ^ 64) / 2 ^ 64 + k * (n / 2 ^ 64)) in
    only-word (pos k *ℤ pos n) q (k * (n % 2 ^ 64) % 2 ^ 64) (omega arith) (omega (arith, ints, ap (λ x. k * x) e))
word-scaled k (negsuc a) =
    let e : suc a + (2 ^ 64 - suc (a % 2 ^ 64)) ≡ 2 ^ 64 * (a / 2 ^ 64) + 2 ^ 64 = omega arith in
    let q : ℤ = pos (k * (2 ^ 64 - suc (a % 2 ^ 64)) / 2 ^ 64) -ℤ pos (k * (a / 2 ^ 64) + k) in
    only-word (pos k *ℤ negsuc a) q (k * (2 ^ 64 - suc (a % 2 ^ 64)) % 2 ^ 64) (omega arith) (omega (arith, ints, ap (λ x. k * x) e))

swapped : (k : ℕ) (z : ℤ) → z *ℤ pos k ≡ pos k *ℤ z
swapped k z = omega (arith, ints)

-- a product, the number first
pub number-scaled : (k m : ℕ) (z : ℤ) → m ≡ word_of W64 z → (k * m) % 2 ^ 64 ≡ word_of W64 (z *ℤ pos k)
number-scaled k m z e = ap (λ (n : ℕ). (k * n) % 2 ^ 64) e ∙ sym (word-scaled k z) ∙ ap (word_of W64) (sym (swapped k z))

sum-last : (zs : List ℤ) (a z : ℤ) → fold (λ a b. a +ℤ b) a (zs ++ z ∷ []) ≡ fold (λ a b. a +ℤ b) a zs +ℤ z
sum-last [] a z = refl
sum-last (y ∷ zs) a z = sum-last zs (a +ℤ y) z

-- one more number of a sum
pub total-more : {X : Type 0} (f : X → ℤ) (xs : List X) (i : ℕ) (x : X) (sum more new : ℕ) → i < length xs → x ≡ get_or xs i x
    → sum ≡ word_of W64 (total (map f (take i xs))) → more ≡ word_of W64 (f x) → new ≡ (sum + more) % 2 ^ 64 → new ≡ word_of W64 (total (map f (take (i + 1) xs)))
total-more f xs i x sum more new l e before here added =
    added ∙ ap (λ (n : ℕ). (n + more) % 2 ^ 64) before ∙ ap (λ (n : ℕ). (word_of W64 (total (map f (take i xs))) + n) % 2 ^ 64) (here ∙ ap (λ x. word_of W64 (f x)) e)
    ∙ sym (word-sum (total (map f (take i xs))) (f (get_or xs i x)))
    ∙ ap (word_of W64) (sym (sum-last (map f (take i xs)) (pos 0) (f (get_or xs i x))) ∙ ap total (sym (map_more f xs i x l)))

pub map-map : {X Y Z : Type 0} (g : Y → Z) (f : X → Y) (xs : List X) → map g (map f xs) ≡ map (λ x. g (f x)) xs
map-map g f [] = refl
map-map g f (x ∷ xs) = ap (λ r. g (f x) ∷ r) (map-map g f xs)
