-- The steps of the loops over blocks and over single lanes, for any operation.
use Rattle.std.proofs.Common.{◌≡◌, ℕ, zero, suc, ◌+◌, ◌<◌, ◌≤◌, List, [], ◌∷◌, ◌++◌, length, take, replicate, get_or, set, arith, ap, sym, ◌∙◌, refl}
use Rattle.std.proofs.Math.Seq.{take-add}
use Rattle.std.proofs.lemmas.List.{take_more, length-take-le}
use Rattle.std.proofs.lemmas.Grind.{take-set_at}
use Rattle.std.proofs.lemmas.Simd.{length-chunk, length-zip2, take_more_put_chunk}
use Rattle.std.specs.Simd.Lanes.{zip2, chunk, put_chunk}

zip2-append : (f : ℕ → ℕ → ℕ) (xs ys cs ds : List ℕ) → length xs ≡ length ys → zip2 f (xs ++ cs) (ys ++ ds) ≡ zip2 f xs ys ++ zip2 f cs ds
zip2-append f [] [] cs ds e = refl
zip2-append f [] (b ∷ ys) cs ds e = absurd (omega arith)
zip2-append f (a ∷ xs) [] cs ds e = absurd (omega arith)
zip2-append f (a ∷ xs) (b ∷ ys) cs ds e = ap (λ zs. f a b ∷ zs) (zip2-append f xs ys cs ds (omega arith))

-- the first lanes of two lists and the next n lanes, of which one more list has the results
zip2_more : (f : ℕ → ℕ → ℕ) (at n : ℕ) (a b : List ℕ) → at ≤ length a → length b ≡ length a
    → zip2 f (take at a) (take at b) ++ zip2 f (chunk at n a) (chunk at n b) ≡ zip2 f (take (at + n) a) (take (at + n) b)
zip2_more f at n a b h e =
    let same : length (take at a) ≡ length (take at b) = length-take-le at a h ∙ sym (length-take-le at b (omega arith)) in
    sym (zip2-append f (take at a) (take at b) (chunk at n a) (chunk at n b) same)
    ∙ ap (λ xs. zip2 f xs (take at b ++ chunk at n b)) (sym (take-add at n a))
    ∙ ap (λ xs. zip2 f (take (at + n) a) xs) (sym (take-add at n b))

pub block_more : (f : ℕ → ℕ → ℕ) (at : ℕ) (a b out next : List ℕ) → at + 8 ≤ length a → length b ≡ length a → length out ≡ length a
    → next ≡ put_chunk at out (zip2 f (chunk at 8 a) (chunk at 8 b)) → take at out ≡ zip2 f (take at a) (take at b)
    → take (at + 8) next ≡ zip2 f (take (at + 8) a) (take (at + 8) b)
block_more f at a b out next h e k is done =
    let lanes = zip2 f (chunk at 8 a) (chunk at 8 b) in
    let left : length (chunk at 8 a) ≡ 8 = length-chunk at 8 a h in
    let right : length (chunk at 8 b) ≡ 8 = length-chunk at 8 b (omega arith) in
    let long : length lanes ≡ 8 = length-zip2 f (chunk at 8 a) (chunk at 8 b) (left ∙ sym right) ∙ left in
    ap (take (at + 8)) is
    ∙ take_more_put_chunk at out lanes (at + 8) (omega arith) (omega arith)
    ∙ ap (λ xs. xs ++ lanes) done
    ∙ zip2_more f at 8 a b (omega arith) e

pub lane_more : (f : ℕ → ℕ → ℕ) (i v : ℕ) (a b out : List ℕ) → i < length a → length b ≡ length a → length out ≡ length a → v ≡ f (get_or a i 0) (get_or b i 0)
    → take i out ≡ zip2 f (take i a) (take i b) → take (i + 1) (set out i v) ≡ zip2 f (take (i + 1) a) (take (i + 1) b)
lane_more f i v a b out h e k is done =
    let same : length (take i a) ≡ length (take i b) = length-take-le i a (omega arith) ∙ sym (length-take-le i b (omega arith)) in
    take-set_at out i (i + 1) v refl (omega arith)
    ∙ ap (λ xs. xs ++ (v ∷ [])) done
    ∙ ap (λ (x : ℕ). zip2 f (take i a) (take i b) ++ (x ∷ [])) is
    ∙ sym (zip2-append f (take i a) (take i b) (get_or a i 0 ∷ []) (get_or b i 0 ∷ []) same)
    ∙ ap (λ xs. zip2 f xs (take i b ++ (get_or b i 0 ∷ []))) (sym (take_more a i 0 h))
    ∙ ap (λ xs. zip2 f (take (i + 1) a) xs) (sym (take_more b i 0 (omega arith)))

-- the operands of each lane change places
pub zip2_turned : (f g : ℕ → ℕ → ℕ) (xs ys : List ℕ) → ((x y : ℕ) → f y x ≡ g x y) → zip2 f ys xs ≡ zip2 g xs ys
zip2_turned f g [] [] h = refl
zip2_turned f g [] (y ∷ ys) h = refl
zip2_turned f g (x ∷ xs) [] h = refl
zip2_turned f g (x ∷ xs) (y ∷ ys) h = let first = h x y in let rest = zip2_turned f g xs ys h in λ i. first i ∷ rest i

pub zip2_same : (f g : ℕ → ℕ → ℕ) (xs ys : List ℕ) → ((x y : ℕ) → f x y ≡ g x y) → zip2 f xs ys ≡ zip2 g xs ys
zip2_same f g [] ys h = refl
zip2_same f g (x ∷ xs) [] h = refl
zip2_same f g (x ∷ xs) (y ∷ ys) h = let first = h x y in let rest = zip2_same f g xs ys h in λ i. first i ∷ rest i

-- lanes that are all 0
pub zip2_zero : (f : ℕ → ℕ → ℕ) (n : ℕ) (xs ys : List ℕ) → length xs ≡ n → length ys ≡ n → (0 < n → (x y : ℕ) → f x y ≡ 0) → replicate n 0 ≡ zip2 f xs ys
zip2_zero f zero [] ys hx hy h = refl
zip2_zero f zero (x ∷ xs) ys hx hy h = absurd (omega arith)
zip2_zero f (suc n) [] ys hx hy h = absurd (omega arith)
zip2_zero f (suc n) (x ∷ xs) [] hx hy h = absurd (omega arith)
zip2_zero f (suc n) (x ∷ xs) (y ∷ ys) hx hy h =
    let first : 0 ≡ f x y = sym (h (omega arith) x y) in
    let rest = zip2_zero f n xs ys (omega arith) (omega arith) (λ some. h (omega arith)) in
    λ i. first i ∷ rest i
