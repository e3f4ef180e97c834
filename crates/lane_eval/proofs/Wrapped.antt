-- Sums and products modulo 2^64 are the words of the sums and products of whole numbers; the offset of a `getelementptr` is put together so.
use Rattle.std.proofs.Common.{◌≡◌, ℕ, suc, ◌+◌, ◌-◌, ◌*◌, ◌/◌, ◌%◌, ◌^◌, ◌<◌, List, ◌∷◌, map, Option, Some, None, arith, sym, ◌∙◌, ap, ℤ, pos, negsuc}
use Rattle.std.specs.Prelude.{◌+ℤ◌, ◌-ℤ◌, ◌*ℤ◌}
use Rattle.std.specs.Option.{option_map}
use Rattle.std.proofs.lemmas.Int.{ints}
use Rattle.am_base.specs.declared.word.Width.{Width}
use Rattle.am_base.specs.declared.word.Width.TheVariants.{W64}
use Rattle.am_base.specs.Word.{signed, word_of, floor_div}
use Rattle.code_form.specs.declared.instr.Operand.{Operand}
use Rattle.machine_form.specs.State.{State}
use Rattle.machine_form.specs.Straight.{value_of, values_of, joined, scaled_sum}

-- a whole number is its word and a multiple of 2^64
word_and_rest : (z : ℤ) → z ≡ pos (word_of W64 z) +ℤ (pos (2 ^ 64) *ℤ floor_div z (2 ^ 64))
word_and_rest (pos n) = omega (arith, ints)
word_and_rest (negsuc n) = omega (arith, ints)

-- and no other word goes with it
only_word : (z q : ℤ) (n : ℕ) → n < 2 ^ 64 → z ≡ pos n +ℤ (pos (2 ^ 64) *ℤ q) → word_of W64 z ≡ n
only_word (pos a) (pos b) n l e = omega (arith, ints)
only_word (pos a) (negsuc b) n l e = omega (arith, ints)
only_word (negsuc a) (pos b) n l e = omega (arith, ints)
only_word (negsuc a) (negsuc b) n l e = omega (arith, ints)

pub word-sum : (y z : ℤ) → word_of W64 (y +ℤ z) ≡ (word_of W64 y + word_of W64 z) % 2 ^ 64
word-sum y z =
    let n = word_of W64 y + word_of W64 z in
    let q : ℤ = floor_div y (2 ^ 64) +ℤ floor_div z (2 ^ 64) +ℤ pos ((word_of W64 y + word_of W64 z) / 2 ^ 64) in
    only_word (y +ℤ z) q ((word_of W64 y + word_of W64 z) % 2 ^ 64) (omega arith) (omega (arith, ints, word_and_rest y, word_and_rest z))

pub word-scaled : (k : ℕ) (z : ℤ) → word_of W64 (pos k *ℤ z) ≡ (k * word_of W64 z) % 2 ^ 64
word-scaled k (pos n) =
    let e : n ≡ 2 ^ 64 * (n / 2 ^ 64) + n % 2 ^ 64 = omega arith in
    let q : ℤ = pos (k * (n % 2 ^ 64) / 2 ^ 64 + k * (n / 2 ^ 64)) in
    only_word (pos k *ℤ pos n) q (k * (n % 2 ^ 64) % 2 ^ 64) (omega arith) (omega (arith, ints, ap (λ x. k * x) e))
word-scaled k (negsuc a) =
    let m : ℕ = 2 ^ 64 - suc (a % 2 ^ 64) in
    let e : suc a + (2 ^ 64 - suc (a % 2 ^ 64)) ≡ 2 ^ 64 * (a / 2 ^ 64) + 2 ^ 64 = omega arith in
    let q : ℤ = pos (k * (2 ^ 64 - suc (a % 2 ^ 64)) / 2 ^ 64) -ℤ pos (k * (a / 2 ^ 64) + k) in
    only_word (pos k *ℤ negsuc a) q (k * (2 ^ 64 - suc (a % 2 ^ 64)) % 2 ^ 64) (omega arith) (omega (arith, ints, ap (λ x. k * x) e))

-- one more index
pub scaled_more : (s : State) (indices rest : List (ℕ × Width × Operand)) (i : ℕ × Width × Operand) (x more index : ℕ) → indices ≡ i ∷ rest → value_of s i.2 ≡ Some x
    → Some more ≡ option_map (λ xs. word_of W64 (scaled_sum rest xs)) (values_of s (map (λ i. i.2) rest)) → index ≡ word_of W64 (signed i.1 x)
    → Some ((i.0 * index % 2 ^ 64 + more) % 2 ^ 64) ≡ option_map (λ xs. word_of W64 (scaled_sum indices xs)) (values_of s (map (λ i. i.2) indices))
scaled_more s indices rest i x more index is read sum word =
    by (values_of s (map (λ i. i.2) rest)) sum
    ∙ ap (λ o. option_map (λ xs. word_of W64 (scaled_sum (i ∷ rest) xs)) (joined o (values_of s (map (λ i. i.2) rest)))) (sym read)
    ∙ ap (λ (js : List (ℕ × Width × Operand)). option_map (λ xs. word_of W64 (scaled_sum js xs)) (values_of s (map (λ i. i.2) js))) (sym is)
  where
    by : (o : Option (List ℕ)) → Some more ≡ option_map (λ xs. word_of W64 (scaled_sum rest xs)) o
        → Some ((i.0 * index % 2 ^ 64 + more) % 2 ^ 64) ≡ option_map (λ xs. word_of W64 (scaled_sum (i ∷ rest) xs)) (joined (Some x) o)
    by None e = cc
    by (Some xs) e =
        let sum : more ≡ word_of W64 (scaled_sum rest xs) = cc in
        let product : word_of W64 (pos i.0 *ℤ signed i.1 x) ≡ i.0 * index % 2 ^ 64 = word-scaled i.0 (signed i.1 x) ∙ ap (λ (n : ℕ). i.0 * n % 2 ^ 64) (sym word) in
        ap Some (ap (λ (n : ℕ). (i.0 * index % 2 ^ 64 + n) % 2 ^ 64) sum ∙ ap (λ (n : ℕ). (n + word_of W64 (scaled_sum rest xs)) % 2 ^ 64) (sym product)
        ∙ sym (word-sum (pos i.0 *ℤ signed i.1 x) (scaled_sum rest xs)))
