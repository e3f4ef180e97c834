-- What a turn leaves in a list whose order is kept: the list without the element at an index, or with another element there.
use Rattle.std.proofs.Common.{◌≡◌, ◌≢◌, ℕ, suc, ◌+◌, ◌-◌, ◌<◌, ◌≤◌, List, [], ◌∷◌, ◌++◌, length, map, take, drop, get_or, slice_get, Some, set, sym, ap, ◌∙◌, subst, arith}
use Rattle.std.proofs.Common.{append-nil, ⊎_elim, refl}
use Rattle.std.specs.List.{swap_remove, remove, swap, take-map, drop-map}
use Rattle.std.specs.List.Sorted.{IsPermutation, IsNonDecreasingBy}
use Rattle.std.proofs.lemmas.List.Sorted.{IsPermutation-trans, IsPermutation-sym, IsPermutation-to_front, IsPermutation-swap_remove}
use Rattle.std.proofs.lemmas.Option.{get_or_from_slice_get, slice_get_read}
use Rattle.std.proofs.lemmas.Bool.{cases_lt, cases_eq}
use Rattle.std.proofs.lemmas.List.{same_lists, length-set, length-take-le, length-append, length-map, map-append, map-set, get_or-map, get_or-take}
use Rattle.std.proofs.lemmas.List.{get_or-set_same, get_or-set_other, get_or_append_left, get_or_at, get_or_default}
use Rattle.std.proofs.lemmas.List.Edits.{length-remove, get_or-remove_below, get_or-remove_above, length-swap, swapped_from_swap}
use Rattle.std.proofs.Math.Seq.{map-set_same}
use Rattle.picker.specs.declared.picker.Offer.{Offer}
use Rattle.exec_core.specs.Picked.{offer_of, AreOffered, IsReplaced}
use Rattle.exec_core.specs.declared.in_place.Taken.{Taken}
use Rattle.exec_core.specs.declared.in_place.Taken.TheVariants.{GoesOn, Ended}
use Rattle.exec_core.specs.declared.execution.Execution.{Execution as Concrete}

-- the order by a number of each element is that of these numbers
pub same_order : {X : Type 0} (n : X → ℕ) (xs ys : List X) → map n xs ≡ map n ys → IsNonDecreasingBy n ys → IsNonDecreasingBy n xs
same_order n xs ys e up i j d h l =
    let many : length xs ≡ length ys = sym (length-map xs n) ∙ ap length e ∙ length-map ys n in
    let at : (k : ℕ) → k < length xs → n (get_or xs k d) ≡ n (get_or ys k d) = (λ k b. sym (get_or-map n xs k d 0 b) ∙ ap (λ zs. get_or zs k 0) e
    ∙ get_or-map n ys k d 0 (omega arith)) in
    let a = at i (omega arith) in let b = at j l in let c = up i j d h (omega arith) in omega arith

pub rising_without : {X : Type 0} (n : X → ℕ) (xs : List X) (at : ℕ) → at < length xs → IsNonDecreasingBy n xs → IsNonDecreasingBy n (remove xs at)
rising_without n xs at l up i j d h m =
    let k = length-remove xs at l in
    ⊎_elim
    (λ (b : j < at). let p = ap n (get_or-remove_below xs at d i (omega arith) l) in let q = ap n (get_or-remove_below xs at d j b l) in
    let c = up i j d h (omega arith) in omega arith)
    (λ (b : at ≤ j). let q = ap n (get_or-remove_above xs at d j b l) in ⊎_elim
    (λ (a : i < at). let p = ap n (get_or-remove_below xs at d i a l) in let c = up i (j + 1) d (omega arith) (omega arith) in omega arith)
    (λ (a : at ≤ i). let p = ap n (get_or-remove_above xs at d i a l) in let c = up (i + 1) (j + 1) d (omega arith) (omega arith) in omega arith)
    (cases_lt i at)) (cases_lt j at)

pub map-remove : {X Y : Type 0} (f : X → Y) (xs : List X) (at : ℕ) → map f (remove xs at) ≡ remove (map f xs) at
map-remove f xs at = map-append f (take at xs) (drop (suc at) xs) ∙ ap (λ ys. ys ++ map f (drop (suc at) xs)) (sym (take-map f at xs))
    ∙ ap (λ ys. take at (map f xs) ++ ys) (sym (drop-map f (suc at) xs))

-- the element at an index left, and the last one took its place
module _ {X : Type 0} (before : List X) (at : ℕ) (l : at < length before) (taken : X) where
  abbrev rest : List X
  rest = swap_remove before at taken

  moved : List X
  moved = set before at (get_or before (length before - 1) taken)

  pub length_rest : length (swap_remove before at taken) + 1 ≡ length before
  length_rest =
      let n = length-set before at (get_or before (length before - 1) taken) in
      let t = length-take-le (length before - 1) (set before at (get_or before (length before - 1) taken)) (omega arith) in omega arith

  rest_other : (k : ℕ) (d : X) → k ≢ at → k + 1 < length before → get_or rest k d ≡ get_or before k d
  rest_other k d ne b = get_or-take (length before - 1) (set before at (get_or before (length before - 1) taken)) k d (omega arith)
      ∙ get_or-set_other before at k (get_or before (length before - 1) taken) d ne

  rest_at : (d : X) → at + 1 < length before → get_or rest at d ≡ get_or before (length before - 1) d
  rest_at d b = get_or-take (length before - 1) (set before at (get_or before (length before - 1) taken)) at d (omega arith)
      ∙ get_or-set_same before at (get_or before (length before - 1) taken) d l ∙ get_or_default before (length before - 1) taken d (omega arith)

  -- where it was the last one, the list is without it
  pub last_left : length (swap_remove before at taken) ≤ at → swap_remove before at taken ≡ remove before at
  last_left h =
      let n = length_rest in let m = length-remove before at l in
      same_lists rest (remove before at) (omega arith) (λ k d b.
      rest_other k d (λ e. absurd (omega arith)) (omega arith) ∙ sym (get_or-remove_below before at d k (omega arith) l))

  -- the one that took its place goes back behind the others
  pub put_behind : (y : X) → at < length (swap_remove before at taken) → y ≡ get_or (swap_remove before at taken) at y
      → remove (swap_remove before at taken) at ++ y ∷ [] ≡ remove before at
  put_behind y h r =
      let n = length_rest in let m = length-remove before at l in let p = length-remove rest at h in let q = length-append (remove rest at) (y ∷ []) in
      same_lists (remove rest at ++ y ∷ []) (remove before at) (omega arith) (λ k d b.
      ⊎_elim
      (λ (c : k < at). get_or_append_left (remove rest at) (y ∷ []) d k (omega arith) ∙ get_or-remove_below rest at d k c h
      ∙ rest_other k d (λ e. absurd (omega arith)) (omega arith) ∙ sym (get_or-remove_below before at d k c l))
      (λ (c : at ≤ k). ⊎_elim
      (λ (e : k < length (remove rest at)). get_or_append_left (remove rest at) (y ∷ []) d k e ∙ get_or-remove_above rest at d k c h
      ∙ rest_other (k + 1) d (λ f. absurd (omega arith)) (omega arith) ∙ sym (get_or-remove_above before at d k c l))
      (λ (e : length (remove rest at) ≤ k).
      let last : k ≡ length (remove rest at) = omega arith in
      let here : k + 1 ≡ length before - 1 = omega arith in
      get_or_at (remove rest at) y [] d k (sym last) ∙ r ∙ get_or_default rest at y d h ∙ rest_at d (omega arith)
      ∙ ap (λ i. get_or before i d) (sym here) ∙ sym (get_or-remove_above before at d k c l)) (cases_lt k (length (remove rest at)))) (cases_lt k at))

-- where another element stood at the index, the same is left
pub left_same : {X : Type 0} (xs : List X) (at : ℕ) → at < length xs → (x y : X) → swap_remove (set xs at y) at y ≡ swap_remove xs at x
left_same xs at l x y =
    let k = length-set xs at y in let m : at < length (set xs at y) = omega arith in
    let n = length_rest xs at l x in let o = length_rest (set xs at y) at m y in
    same_lists (swap_remove (set xs at y) at y) (swap_remove xs at x) (omega arith) (λ i d b.
    ⊎_elim
    (λ (c : i ≡ at). ap (λ j. get_or (swap_remove (set xs at y) at y) j d) c ∙ rest_at (set xs at y) at m y d (omega arith)
    ∙ ap (λ j. get_or (set xs at y) (j - 1) d) k ∙ get_or-set_other xs at (length xs - 1) y d (λ e. absurd (omega arith))
    ∙ sym (ap (λ j. get_or (swap_remove xs at x) j d) c ∙ rest_at xs at l x d (omega arith)))
    (λ (c : i ≢ at). rest_other (set xs at y) at m y i d c (omega arith) ∙ get_or-set_other xs at i y d c
    ∙ sym (rest_other xs at l x i d c (omega arith))) (cases_eq i at))

-- those that are left and another element are the list with that element at the index
pub set_moved : {X : Type 0} (xs : List X) (at : ℕ) → at < length xs → (x y : X) → IsPermutation (swap_remove xs at x ++ y ∷ []) (set xs at y)
set_moved xs at l x y =
    let k = length-set xs at y in
    let out = IsPermutation-swap_remove (set xs at y) at y (omega arith) (sym (get_or-set_same xs at y y l)) in
    IsPermutation-trans _ _ _ (IsPermutation-to_front (swap_remove xs at x) y) (IsPermutation-sym _ _
    (subst (λ ys. IsPermutation (set xs at y) (y ∷ ys)) (left_same xs at l x y) out))

-- what stands at an index
pub set_there : {X : Type 0} (xs : List X) (at : ℕ) (y : X) → at < length xs → slice_get (set xs at y) at ≡ Some y
set_there xs at y l = let k = length-set xs at y in slice_get_read (set xs at y) (length (set xs at y)) at y refl (omega arith) (sym (get_or-set_same xs at y y l))

pub there_now : {X : Type 0} (xs : List X) (at : ℕ) (y e : X) → at < length xs → slice_get (set xs at y) at ≡ Some e → e ≡ y
there_now xs at y e l h = sym (get_or_from_slice_get (set xs at y) at e e h) ∙ get_or-set_same xs at y e l

pub same_there : {X : Type 0} (xs : List X) (at : ℕ) (x y : X) → slice_get xs at ≡ Some x → slice_get xs at ≡ Some y → x ≡ y
same_there xs at x y g h = sym (get_or_from_slice_get xs at x x g) ∙ get_or_from_slice_get xs at y x h

-- what a picker sees of the executions after a turn of the one at an index
module _ {S : Type 0} (before lives after : List (Concrete S)) (offers offers_after : List Offer) (at : ℕ)
    (seen : AreOffered before offers) (l : at < length offers) where
  abbrev least : Concrete S → ℕ
  least x = get_or x.members 0 0

  here : at < length before
  here = let n = ap length seen.are in let m = length-map before offer_of in omega arith

  -- it has ended
  pub offered_without : IsReplaced Ended at before lives
      → ((xs : List (Concrete S)) (taken : Concrete S) → at < length xs → lives ≡ swap_remove xs at taken → after ≡ remove xs at)
      → offers_after ≡ remove offers at → AreOffered after offers_after
  offered_without left order gone =
      let o : after ≡ remove before at = order before left.0 here left.1 in
      record {
        rising = subst (IsNonDecreasingBy least) (sym o) (rising_without least before at here seen.rising);
        are = gone ∙ ap (λ xs. remove xs at) seen.are ∙ sym (map-remove offer_of before at) ∙ ap (map offer_of) (sym o);
      }

  -- it goes on in its place
  pub offered_there : IsReplaced GoesOn at before lives → (x : Concrete S) (now : Offer) → x ≡ get_or lives at x → now ≡ offer_of x
      → offers_after ≡ set offers at now → AreOffered lives offers_after
  offered_there left x now there is written =
      let made = left.0 in let o = left.2 in
      let found : x ≡ made = there ∙ ap (λ zs. get_or zs at x) o ∙ get_or-set_same before at made x here in
      record {
        rising = subst (IsNonDecreasingBy least) (sym o) (same_order least (set before at made) before
            (map-set_same least before at made made (ap (λ ms. get_or ms 0 0) left.1)) seen.rising);
        are = written ∙ ap (λ zs. set zs at now) seen.are ∙ ap (set (map offer_of before) at) (is ∙ ap offer_of found) ∙ sym (map-set offer_of before at made)
            ∙ ap (map offer_of) (sym o);
      }

pub there_still : {S : Type 0} (before lives : List (Concrete S)) (offers : List Offer) (at : ℕ) (taken : Taken) → taken ≡ GoesOn
    → IsReplaced taken at before lives → AreOffered before offers → at < length offers → at < length lives
there_still {S} before lives offers at taken is left seen l =
    let r : IsReplaced GoesOn at before lives = subst (λ (t : Taken). IsReplaced {S = S} t at before lives) is left in
    let n = ap length seen.are in let m = length-map before offer_of in let k = ap length r.2 in let j = length-set before at r.0 in omega arith
