-- Tests, and lists one element at a time.
use Rattle.std.proofs.Common.{◌≡◌, ℕ, ◌+◌, ◌<◌, Bool, true, false, ◌&&◌, List, [], ◌∷◌, ◌++◌, length, map, take, get_or, refl, sym, ap, ◌∙◌, arith}
use Rattle.std.proofs.lemmas.List.{take_more, length-take-le}
use Rattle.ir_rules.specs.Types.{all_agree}

pub and-assoc : (a b c : Bool) → (a && (b && c)) ≡ ((a && b) && c)
and-assoc true b c = refl
and-assoc false b c = refl

pub and-true : (a : Bool) → (a && true) ≡ a
and-true true = refl
and-true false = refl

pub both : {x y : Bool} → x ≡ true → y ≡ true → (x && y) ≡ true
both {x = true} {y = true} g h = refl
both {x = true} {y = false} g h = cc
both {x = false} g h = cc

-- ---- two lists, one test for each place

agree-append : (f : ℕ → ℕ → Bool) (is js : List ℕ) (i j : ℕ) → length is ≡ length js
    → all_agree (map f (is ++ i ∷ [])) (js ++ j ∷ []) ≡ (all_agree (map f is) js && f i j)
agree-append f [] [] i j e = and-true (f i j)
agree-append f [] (y ∷ js) i j e = absurd (omega arith)
agree-append f (x ∷ is) [] i j e = absurd (omega arith)
agree-append f (x ∷ is) (y ∷ js) i j e = ap (λ b. f x y && b) (agree-append f is js i j (omega arith)) ∙ and-assoc (f x y) (all_agree (map f is) js) (f i j)

pub agree-more : (f : ℕ → ℕ → Bool) (is js : List ℕ) (k : ℕ) → k < length is → k < length js
    → all_agree (map f (take (k + 1) is)) (take (k + 1) js) ≡ (all_agree (map f (take k is)) (take k js) && f (get_or is k 0) (get_or js k 0))
agree-more f is js k g h =
    (λ l. all_agree (map f (take_more is k 0 g l)) (take_more js k 0 h l))
    ∙ agree-append f (take k is) (take k js) (get_or is k 0) (get_or js k 0) (length-take-le k is (omega arith) ∙ sym (length-take-le k js (omega arith)))

pub agree-none : (f : ℕ → ℕ → Bool) (is js : List ℕ) → (length is ≡ length js → ⊥) → all_agree (map f is) js ≡ false
agree-none f [] [] h = absurd (h refl)
agree-none f [] (y ∷ js) h = refl
agree-none f (x ∷ is) [] h = refl
agree-none f (x ∷ is) (y ∷ js) h = ap (λ b. f x y && b) (agree-none f is js (λ e. h (omega arith))) ∙ and-false (f x y)
  where
    and-false : (b : Bool) → (b && false) ≡ false
    and-false true = refl
    and-false false = refl
