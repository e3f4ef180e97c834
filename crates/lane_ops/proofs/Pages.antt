-- Differences of lists, found by vectors.
use Rattle.std.proofs.Common.{◌≡◌, ◌≢◌, ℕ, ◌+◌, ◌*◌, ◌-◌, ◌%◌, ◌^◌, List, [], ◌∷◌, ◌++◌, Bool, not, cond, inl, inr, length, map, take, drop, arith, ap, sym}
use Rattle.std.proofs.Common.{◌∙◌, refl, length-drop}
use Rattle.std.specs.Prelude.{nat_eq, IsTrue, ◌↔◌}
use Rattle.std.proofs.Math.Seq.{take-add}
use Rattle.std.proofs.lemmas.Bool.{both_ways, cases_Bool, eqb-true, eq-eqb, not-true, ne_eqb, cases_eq}
use Rattle.std.proofs.lemmas.List.{take_all, take-append-drop}
use Rattle.std.proofs.lemmas.Slice.Eq.{bytes_eq-Decides}
use Rattle.std.specs.Str.{bytes_eq}
use Rattle.std.proofs.lemmas.Simd.{tops_compared, mask_l-mod, length-zip2}
use Rattle.std.specs.Simd.Lanes.{zip2, mask_l, chunk, top}
use mir.Syntax.{w8}

-- lists that are equal so far, and the next n elements are
pub equal_more : (at n : ℕ) (a b : List ℕ) → take at a ≡ take at b → chunk at n a ≡ chunk at n b → take (at + n) a ≡ take (at + n) b
equal_more at n a b done next = take-add at n a ∙ ap (λ xs. xs ++ chunk at n a) done ∙ ap (λ xs. take at b ++ xs) next ∙ sym (take-add at n b)

-- no lane differs
clear_from_same : (xs ys : List ℕ) → xs ≡ ys → mask_l (zip2 (λ x y. not (nat_eq x y)) xs ys) ≡ 0
clear_from_same xs ys e = ap (λ zs. mask_l (zip2 (λ x y. not (nat_eq x y)) xs zs)) (sym e) ∙ itself xs where
  itself : (xs : List ℕ) → mask_l (zip2 (λ x y. not (nat_eq x y)) xs xs) ≡ 0
  itself [] = refl
  itself (x ∷ xs) = ap (λ (b : Bool). cond (not b) 1 0 + 2 * mask_l (zip2 (λ x y. not (nat_eq x y)) xs xs)) (eq-eqb x x refl) ∙ ap (λ n. 0 + 2 * n) (itself xs)

same_from_clear : (xs ys : List ℕ) → length xs ≡ length ys → mask_l (zip2 (λ x y. not (nat_eq x y)) xs ys) ≡ 0 → xs ≡ ys
same_from_clear [] [] e h = refl
same_from_clear [] (y ∷ ys) e h = absurd (omega arith)
same_from_clear (x ∷ xs) [] e h = absurd (omega arith)
same_from_clear (x ∷ xs) (y ∷ ys) e h =
    let rest : xs ≡ ys = same_from_clear xs ys (omega arith) (omega (arith, h)) in
    elim (cases_eq x y) [
      | inl same ↦ λ i. same i ∷ rest i
      | inr other ↦
          let set : ◌≡◌ {A = ℕ} (cond (not (nat_eq x y)) 1 0) 1 = ap (λ (b : Bool). cond (not b) 1 0) (ne_eqb x y other) in
          absurd (omega (arith, h, set))
    ]

-- what a vector tells of lanes that are equal
pub equal_lanes : (xs ys : List ℕ) → length xs ≡ 32 → length ys ≡ 32
    → IsTrue (nat_eq (mask_l (map (top 7) (zip2 (λ a b. cond (not (nat_eq a b)) (2 ^ 8 - 1) 0) xs ys)) % 2 ^ 64) 0) ↔ (xs ≡ ys)
equal_lanes xs ys hx hy =
    let test : ℕ → ℕ → Bool = λ a b. not (nat_eq a b) in
    let long : length (zip2 test xs ys) ≡ 32 = length-zip2 test xs ys (hx ∙ sym hy) ∙ hx in
    let is : mask_l (map (top 7) (zip2 (λ a b. cond (not (nat_eq a b)) (2 ^ 8 - 1) 0) xs ys)) % 2 ^ 64 ≡ mask_l (zip2 (λ a b. not (nat_eq a b)) xs ys) =
    ap (λ ms. mask_l ms % 2 ^ 64) (tops_compared w8 test xs ys) ∙ mask_l-mod (zip2 test xs ys) 64 (omega (arith, long)) in
    (λ t. same_from_clear xs ys (hx ∙ sym hy) (sym is ∙ eqb-true _ 0 t), λ e. eq-eqb _ 0 (is ∙ clear_from_same xs ys e))

-- lists that are equal so far differ where the rest of them does
pub rest_differs : (at : ℕ) (a b : List ℕ) (r : Bool) → take at a ≡ take at b
    → r ≡ not (bytes_eq (take (length a - at) (drop at a)) (take (length b - at) (drop at b))) → IsTrue r ↔ (a ≢ b)
rest_differs at a b r front is =
    let xs = take (length a - at) (drop at a) in
    let ys = take (length b - at) (drop at b) in
    let left : take (length a - at) (drop at a) ≡ drop at a = take_all (length a - at) (drop at a) (omega (arith, length-drop at a)) in
    let right : take (length b - at) (drop at b) ≡ drop at b = take_all (length b - at) (drop at b) (omega (arith, length-drop at b)) in (
      λ t e. both_ways (bytes_eq xs ys) (not-true (bytes_eq xs ys) (sym is ∙ t)) ((bytes_eq-Decides xs ys).1 (ap (λ zs. take (length zs - at) (drop at zs)) e)),
      λ other. elim (cases_Bool (bytes_eq xs ys)) [
        | inl same ↦
            let rest : drop at a ≡ drop at b = sym left ∙ (bytes_eq-Decides xs ys).0 same ∙ right in
            absurd (other (sym (take-append-drop at a) ∙ ap (λ zs. zs ++ drop at a) front ∙ ap (λ zs. take at b ++ zs) rest ∙ take-append-drop at b))
        | inr differ ↦ is ∙ ap not differ
      ],
    )
