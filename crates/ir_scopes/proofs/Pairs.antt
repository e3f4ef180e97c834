-- A test of two lists, element by element.
use Rattle.std.proofs.Common.{◌≡◌, ℕ, zero, suc, ◌+◌, ◌<◌, ◌≤◌, Bool, true, false, ◌&&◌, List, [], ◌∷◌, length, drop, get_or, refl, sym, ap, ◌∙◌, arith}
use Rattle.std.specs.Cmp.Lexicographic.{pointwise}
use Rattle.std.proofs.lemmas.List.{drop_more, drop_all}

module _ {X Y : Type 0} (p : X → Y → Bool) where
  -- lists of different lengths don't pass
  pub pairs-long : (xs : List X) (ys : List Y) → (length xs ≡ length ys → ⊥) → pointwise p xs ys ≡ false
  pairs-long [] [] h = absurd (h refl)
  pairs-long [] (y ∷ ys) h = refl
  pairs-long (x ∷ xs) [] h = refl
  pairs-long (x ∷ xs) (y ∷ ys) h = by (p x y) (pairs-long xs ys (λ e. h (ap suc e)))
    where
      by : (b : Bool) → pointwise p xs ys ≡ false → (b && pointwise p xs ys) ≡ false
      by true rest = rest
      by false rest = refl

  -- the elements at an index, and the rest
  pub pairs-here : (xs : List X) (ys : List Y) (i : ℕ) (x : X) (y : Y) → i < length xs → i < length ys
      → pointwise p (drop i xs) (drop i ys) ≡ (p (get_or xs i x) (get_or ys i y) && pointwise p (drop (i + 1) xs) (drop (i + 1) ys))
  pairs-here xs ys i x y h k = ap (λ l. pointwise p l (drop i ys)) (drop_more xs i x h) ∙ ap (pointwise p (get_or xs i x ∷ drop (i + 1) xs)) (drop_more ys i y k)

  pub pairs-fail : (xs : List X) (ys : List Y) (i : ℕ) (x : X) (y : Y) → i < length xs → i < length ys → p (get_or xs i x) (get_or ys i y) ≡ false
      → pointwise p (drop i xs) (drop i ys) ≡ false
  pairs-fail xs ys i x y h k e = pairs-here xs ys i x y h k ∙ ap (λ b. b && pointwise p (drop (i + 1) xs) (drop (i + 1) ys)) e

  pub pairs-pass : (xs : List X) (ys : List Y) (i : ℕ) (x : X) (y : Y) → i < length xs → i < length ys → p (get_or xs i x) (get_or ys i y) ≡ true
      → pointwise p (drop i xs) (drop i ys) ≡ pointwise p (drop (i + 1) xs) (drop (i + 1) ys)
  pairs-pass xs ys i x y h k e = pairs-here xs ys i x y h k ∙ ap (λ b. b && pointwise p (drop (i + 1) xs) (drop (i + 1) ys)) e

  -- nothing is left
  pub pairs-end : (xs : List X) (ys : List Y) (i : ℕ) → length xs ≤ i → length ys ≤ i → pointwise p (drop i xs) (drop i ys) ≡ true
  pairs-end xs ys i h k = ap (λ l. pointwise p l (drop i ys)) (drop_all i xs h) ∙ ap (pointwise p []) (drop_all i ys k)
