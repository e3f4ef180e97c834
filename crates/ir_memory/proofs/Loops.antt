-- Lists that a loop gathers, one element more.
use Rattle.std.proofs.Common.{◌≡◌, ℕ, ◌+◌, ◌<◌, List, [], ◌∷◌, ◌++◌, map, take, get_or, length, refl, sym, ap, ◌∙◌}
use Rattle.std.specs.List.{fold, flat_map}
use Rattle.std.proofs.lemmas.List.{append_assoc, append-nil, map_more, take_more}
use Rattle.std.proofs.lemmas.List.Concat.{flat_map-append}
use Rattle.std.proofs.lemmas.List.Sums.{fold-append}

pub flat-more : {X Y : Type 0} (f : X → List Y) (xs : List X) (i : ℕ) (x : X) (start old new : List Y) → i < length xs → x ≡ get_or xs i x
    → old ≡ start ++ flat_map f (take i xs) → new ≡ old ++ f x → new ≡ start ++ flat_map f (take (i + 1) xs)
flat-more f xs i x start old new l e before added =
    let y = get_or xs i x in
    let here : flat_map f (take i xs) ++ f x ≡ flat_map f (take (i + 1) xs) =
    ap (λ z. flat_map f (take i xs) ++ f z) e
    ∙ ap (λ r. flat_map f (take i xs) ++ r) (sym (append-nil (f y)))
    ∙ sym (flat_map-append f (take i xs) (y ∷ []))
    ∙ ap (flat_map f) (sym (take_more xs i x l)) in
    added ∙ ap (λ o. o ++ f x) before ∙ append_assoc start (flat_map f (take i xs)) (f x) ∙ ap (λ r. start ++ r) here

pub fold-more : {X Y Z : Type 0} (g : Z → Y → Z) (f : X → Y) (a : Z) (xs : List X) (i : ℕ) (x : X) → i < length xs → x ≡ get_or xs i x
    → g (fold g a (map f (take i xs))) (f x) ≡ fold g a (map f (take (i + 1) xs))
fold-more g f a xs i x l e =
    ap (λ z. g (fold g a (map f (take i xs))) (f z)) e
    ∙ sym (fold-append g a (map f (take i xs)) (f (get_or xs i x) ∷ []))
    ∙ ap (fold g a) (sym (map_more f xs i x l))
