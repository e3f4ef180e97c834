-- Lists of pairs whose addresses rise.
use Rattle.std.proofs.Common.{◌≡◌, ℕ, zero, suc, ◌+◌, ◌<◌, List, [], ◌∷◌, ◌++◌, length, map, take, get_or, arith, subst}
use Rattle.std.specs.List.{All}
use Rattle.std.specs.List.Sorted.{IsStrictlyIncreasing}
use Rattle.std.proofs.lemmas.List.Elements.{All-nil, All-cons, All-tail}

-- a number below the first of rising numbers
pub first_below : (x y : ℕ) (xs : List ℕ) → x < y → IsStrictlyIncreasing (y ∷ xs) → IsStrictlyIncreasing (x ∷ y ∷ xs)
first_below x y xs l r zero h = l
first_below x y xs l r (suc k) h =
    let P : ℕ → Type 0 = λ n. get_or (y ∷ xs) k 0 < get_or (x ∷ y ∷ xs) n 0 in
    let e : suc (k + 1) ≡ suc k + 1 = omega arith in
    subst P e (r k (omega arith))

-- the rest of rising numbers rises
pub rest_rises : (x : ℕ) (xs : List ℕ) → IsStrictlyIncreasing (x ∷ xs) → IsStrictlyIncreasing xs
rest_rises x xs r k h =
    let P : ℕ → Type 0 = λ n. get_or xs k 0 < get_or (x ∷ xs) n 0 in
    let e : suc k + 1 ≡ suc (k + 1) = omega arith in
    subst P e (r (suc k) (omega arith))

abbrev addresses : List (ℕ × ℕ) → List ℕ
addresses bytes = map (λ b. b.0) bytes

-- one more pair at the end, at an address above all others
pub push_rises : (xs : List (ℕ × ℕ)) (a b : ℕ) → IsStrictlyIncreasing (addresses xs) → All (λ w. w.0 < a) xs
    → IsStrictlyIncreasing (addresses (xs ++ (a, b) ∷ []))
push_rises [] a b r h = λ k l. absurd (omega arith)
push_rises (x ∷ []) a b r h = first_below x.0 a [] (h 0 x (omega arith)) (λ k l. absurd (omega arith))
push_rises (x ∷ y ∷ xs) a b r h =
    first_below x.0 y.0 (addresses (xs ++ (a, b) ∷ [])) (r 0 (omega arith))
    (push_rises (y ∷ xs) a b (rest_rises x.0 (addresses (y ∷ xs)) r) (All-tail (λ w. w.0 < a) x (y ∷ xs) h))

-- the addresses before an index are below the one at the index
first_least : (x : ℕ × ℕ) (xs : List (ℕ × ℕ)) (i : ℕ) (d : ℕ × ℕ) → IsStrictlyIncreasing (x.0 ∷ addresses xs) → i < length xs → x.0 < (get_or xs i d).0
first_least x [] i d r l = absurd (omega arith)
first_least x (y ∷ xs) zero d r l = r 0 (omega arith)
first_least x (y ∷ xs) (suc i) d r l =
    let near : x.0 < y.0 = r 0 (omega arith) in
    let far : y.0 < (get_or xs i d).0 = first_least y xs i d (rest_rises x.0 (y.0 ∷ addresses xs) r) (omega arith) in
    omega arith

pub before_below : (xs : List (ℕ × ℕ)) (i : ℕ) (d : ℕ × ℕ) → IsStrictlyIncreasing (addresses xs) → i < length xs
    → All (λ w. w.0 < (get_or xs i d).0) (take i xs)
before_below [] i d r l = absurd (omega arith)
before_below (x ∷ xs) zero d r l = All-nil (λ w. w.0 < x.0)
before_below (x ∷ xs) (suc i) d r l =
    All-cons (λ w. w.0 < (get_or xs i d).0) x (take i xs) (first_least x xs i d r (omega arith))
    (before_below xs i d (rest_rises x.0 (addresses xs) r) (omega arith))
