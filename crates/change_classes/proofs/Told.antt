-- What a call tells of the test that a closure acts as, and a list of numbers that grows by one.
use Rattle.std.proofs.Common.{◌≡◌, ℕ, ◌+◌, ◌<◌, Bool, List, [], ◌∷◌, ◌++◌, length, map, take, get_or, refl, sym, ap, ◌∙◌, Bor}
use Rattle.std.specs.Fn.{Shared, Called}
use Rattle.std.specs.Iterator.Order.{ActsAsAtTwo}
use Rattle.std.proofs.lemmas.Fn.{Called-at_two}
use Rattle.std.proofs.lemmas.List.{get_or_default, take_more, map-append}

pub told : {F A : Type 0} (g : Shared F (Bor A × (Bor A × Unit {0})) Bool) (f : F) (y z : Bor A) (r : Bool)
    → (f' : F) × Called g f (y, (z, tt)) r f' → (equal : A → A → Bool) → ActsAsAtTwo g f equal → r ≡ equal y.now z.now
told g f y z r (f', p) equal acts = (acts y.now z.now r f' (Called-at_two _ p refl)).1

-- what was told of an item, at its place
pub at_place : {A : Type 0} (test : A → Bool) (items : List A) (i : ℕ) (item other : A) (r b : Bool)
    → i < length items → other ≡ get_or items i other → r ≡ test other → r ≡ b → test (get_or items i item) ≡ b
at_place test items i item other r b l at t e = ap test (get_or_default items i item other l ∙ sym at) ∙ sym t ∙ e

pub one_more : {X : Type 0} (f : X → ℕ) (xs : List X) (i : ℕ) (x : X) (ns ms : List ℕ) (n : ℕ) → i < length xs → x ≡ get_or xs i x
    → ns ≡ map f (take i xs) → n ≡ f x → ms ≡ ns ++ n ∷ [] → ms ≡ map f (take (i + 1) xs)
one_more f xs i x ns ms n l at e m p =
    p ∙ ap (λ z. z ++ n ∷ []) e ∙ ap (λ k. map f (take i xs) ++ k ∷ []) (m ∙ ap f at) ∙ sym (map-append f (take i xs) (get_or xs i x ∷ []))
    ∙ ap (map f) (sym (take_more xs i x l))
