-- Lists that a loop gathers, one element more.
use Rattle.std.proofs.Common.{◌≡◌, ℕ, ◌+◌, ◌<◌, List, [], ◌∷◌, ◌++◌, map, take, get_or, length, refl, sym, ap, ◌∙◌}
use Rattle.std.specs.List.{fold, flat_map}
use Rattle.std.proofs.lemmas.List.{map_more, take_more}
use Rattle.std.proofs.lemmas.List.Concat.{flat_map-append}

pub map-one-more : {X Y : Type 0} (f : X → Y) (xs : List X) (i : ℕ) (x : X) (old new : List Y) (y : Y) → i < length xs → x ≡ get_or xs i x
    → old ≡ map f (take i xs) → y ≡ f x → new ≡ old ++ y ∷ [] → new ≡ map f (take (i + 1) xs)
map-one-more f xs i x old new y l e before here pushed =
    pushed ∙ ap (λ os. os ++ y ∷ []) before ∙ ap (λ z. map f (take i xs) ++ z ∷ []) (here ∙ ap f e) ∙ sym (map_more f xs i x l)

append-none : {Y : Type 0} (ys : List Y) → ys ++ [] ≡ ys
append-none [] = refl
append-none (y ∷ ys) = ap (λ r. y ∷ r) (append-none ys)

pub flat-one-more : {X Y : Type 0} (f : X → List Y) (xs : List X) (i : ℕ) (x : X) (old new : List Y) → i < length xs → x ≡ get_or xs i x
    → old ≡ flat_map f (take i xs) → new ≡ old ++ f x → new ≡ flat_map f (take (i + 1) xs)
flat-one-more f xs i x old new l e before added =
    added ∙ ap (λ os. os ++ f x) before ∙ ap (λ z. flat_map f (take i xs) ++ z) (ap f e ∙ sym (append-none (f (get_or xs i x))))
    ∙ sym (flat_map-append f (take i xs) (get_or xs i x ∷ [])) ∙ ap (flat_map f) (sym (take_more xs i x l))

fold-last : {X Y : Type 0} (f : Y → X → Y) (a : Y) (xs : List X) (x : X) → fold f a (xs ++ x ∷ []) ≡ f (fold f a xs) x
fold-last f a [] x = refl
fold-last f a (y ∷ xs) x = fold-last f (f a y) xs x

pub fold-one-more : {X Y Z : Type 0} (g : Z → Y → Z) (a : Z) (f : X → Y) (xs : List X) (i : ℕ) (x : X) (old new : Z) (y : Y) → i < length xs → x ≡ get_or xs i x
    → old ≡ fold g a (map f (take i xs)) → y ≡ f x → new ≡ g old y → new ≡ fold g a (map f (take (i + 1) xs))
fold-one-more g a f xs i x old new y l e before here stepped =
    stepped ∙ ap (λ o. g o y) before ∙ ap (g (fold g a (map f (take i xs)))) (here ∙ ap f e)
    ∙ sym (fold-last g a (map f (take i xs)) (f (get_or xs i x))) ∙ ap (fold g a) (sym (map_more f xs i x l))
