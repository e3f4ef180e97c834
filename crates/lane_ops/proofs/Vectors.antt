-- What vectors give, as one map over the pairs of the words in their lanes.
use Rattle.std.proofs.Common.{◌≡◌, ℕ, suc, ◌-◌, ◌^◌, ◌<◌, List, [], ◌∷◌, Bool, cond, length, map, replicate, bit_and, arith, ap, sym, subst, ◌∙◌, refl}
use Rattle.std.specs.Prelude.{nat_lt}
use Rattle.std.specs.List.{All}
use Rattle.std.specs.Simd.Lanes.{zip2, sel_l, Each2, top}
use Rattle.std.proofs.lemmas.Simd.{zip2_of_maps, splat_is_map, length-zip2, tops_compared, zip2_splat}
use Rattle.am_base.specs.declared.word.Width.{Width}
use Rattle.am_base.specs.Word.{IsWord, bits_of}
use Rattle.lane_ops.proofs.Formulas.{count_fits}
use mir.Syntax.{w64}

abbrev pub pairs : List ℕ → List ℕ → List (ℕ × ℕ)
pairs xs ys = zip2 (λ x y. (x, y)) xs ys

pub lefts : (xs ys : List ℕ) → length xs ≡ length ys → xs ≡ map (λ v. v.0) (pairs xs ys)
lefts [] ys e = refl
lefts (x ∷ xs) [] e = absurd (omega arith)
lefts (x ∷ xs) (y ∷ ys) e = ap (λ zs. x ∷ zs) (lefts xs ys (omega arith))

pub rights : (xs ys : List ℕ) → length xs ≡ length ys → ys ≡ map (λ v. v.1) (pairs xs ys)
rights [] [] e = refl
rights [] (y ∷ ys) e = absurd (omega arith)
rights (x ∷ xs) [] e = absurd (omega arith)
rights (x ∷ xs) (y ∷ ys) e = ap (λ zs. y ∷ zs) (rights xs ys (omega arith))

-- a vector whose lanes are all one number
pub splats : (xs ys : List ℕ) (n m : ℕ) → length xs ≡ n → length xs ≡ length ys → replicate n m ≡ map (λ _. m) (pairs xs ys)
splats xs ys n m long e = splat_is_map (pairs xs ys) n m (length-zip2 (λ x y. (x, y)) xs ys e ∙ long)

chosen : {V : Type 0} (t : V → Bool) (g h : V → ℕ) (vs : List V) → sel_l (map t vs) (map g vs) (map h vs) ≡ map (λ v. cond (t v) (g v) (h v)) vs
chosen t g h [] = refl
chosen t g h (v ∷ vs) = ap (λ zs. cond (t v) (g v) (h v) ∷ zs) (chosen t g h vs)

-- a choice by the comparison of two vectors
pub chosen_by : {V : Type 0} (test : ℕ → ℕ → Bool) (f k g h : V → ℕ) (vs : List V) (xs ys on off : List ℕ) → xs ≡ map f vs → ys ≡ map k vs
    → on ≡ map g vs → off ≡ map h vs
    → sel_l (map (top 63) (zip2 (λ a b. cond (test a b) (2 ^ 64 - 1) 0) xs ys)) on off ≡ map (λ v. cond (test (f v) (k v)) (g v) (h v)) vs
chosen_by test f k g h vs xs ys on off ex ey eg eh =
    ap (λ (ms : List Bool). sel_l ms on off) (tops_compared w64 test xs ys ∙ zip2_of_maps test f k vs ex ey)
    ∙ ap (λ zs. sel_l (map (λ v. test (f v) (k v)) vs) zs off) eg
    ∙ ap (λ zs. sel_l (map (λ v. test (f v) (k v)) vs) (map g vs) zs) eh
    ∙ chosen (λ v. test (f v) (k v)) g h vs

-- two formulas that agree on words give equal lanes
pub lanes_are : (w : Width) (f : ℕ → ℕ → ℕ) (G : ℕ × ℕ → ℕ) (xs ys : List ℕ) → length xs ≡ length ys → All (IsWord w) xs → All (IsWord w) ys
    → ((x y : ℕ) → IsWord w x → IsWord w y → G (x, y) ≡ f x y) → map G (pairs xs ys) ≡ zip2 f xs ys
lanes_are w f G [] ys e hx hy agree = refl
lanes_are w f G (x ∷ xs) [] e hx hy agree = absurd (omega arith)
lanes_are w f G (x ∷ xs) (y ∷ ys) e hx hy agree =
    let first : G (x, y) ≡ f x y = agree x y (hx 0 0 (omega arith)) (hy 0 0 (omega arith)) in
    let rest : map G (pairs xs ys) ≡ zip2 f xs ys = lanes_are w f G xs ys (omega arith) (λ k d h. hx (suc k) d (omega arith)) (λ k d h. hy (suc k) d
    (omega arith)) agree in
    λ i. first i ∷ rest i

-- an operation whose lanes are cut to the width
pub masked : (w : Width) (op f : ℕ → ℕ → ℕ) (xs ys : List ℕ) (m : ℕ) → length xs ≡ 8 → length ys ≡ 8 → All (IsWord w) xs → All (IsWord w) ys
    → m ≡ 2 ^ bits_of w - 1
    → ((x y : ℕ) → IsWord w x → IsWord w y → bit_and (op x y) (2 ^ bits_of w - 1) ≡ f x y) → zip2 bit_and (zip2 op xs ys) (replicate 8 m) ≡ zip2 f xs ys
masked w op f xs ys m hx hy wx wy is agree =
    let e : length xs ≡ length ys = hx ∙ sym hy in
    let vs = pairs xs ys in
    zip2_of_maps bit_and (λ v. op v.0 v.1) (λ _. m) vs (zip2_of_maps op (λ v. v.0) (λ v. v.1) vs (lefts xs ys e) (rights xs ys e)) (splats xs ys 8 m hx e)
    ∙ lanes_are w f (λ v. bit_and (op v.0 v.1) m) xs ys e wx wy (λ x y p q. ap (bit_and (op x y)) is ∙ agree x y p q)

-- a choice between two numbers by a test of the two words
pub tested : (w : Width) (test : ℕ → ℕ → Bool) (xs ys : List ℕ) (on off : ℕ) → length xs ≡ 8 → length ys ≡ 8 → All (IsWord w) xs → All (IsWord w) ys
    → sel_l (map (top 63) (zip2 (λ a b. cond (test a b) (2 ^ 64 - 1) 0) xs ys)) (replicate 8 on) (replicate 8 off) ≡ zip2 (λ x y. cond (test x y) on off) xs ys
tested w test xs ys on off hx hy wx wy =
    let e : length xs ≡ length ys = hx ∙ sym hy in
    chosen_by test (λ v. v.0) (λ v. v.1) (λ _. on) (λ _. off) (pairs xs ys) xs ys _ _ (lefts xs ys e) (rights xs ys e) (splats xs ys 8 on hx e)
    (splats xs ys 8 off hx e)
    ∙ lanes_are w (λ x y. cond (test x y) on off) _ xs ys e wx wy (λ x y p q. refl)

-- an operation of the words in one vector and what a function makes of those in another
pub of_second : (f : ℕ → ℕ → ℕ) (g : ℕ → ℕ) (xs ys : List ℕ) → zip2 f xs (map g ys) ≡ zip2 (λ x y. f x (g y)) xs ys
of_second f g [] ys = refl
of_second f g (x ∷ xs) [] = refl
of_second f g (x ∷ xs) (y ∷ ys) = ap (λ zs. f x (g y) ∷ zs) (of_second f g xs ys)

-- counts below 64
pub counts_fit : {V : Type 0} (xs : List ℕ) (vs : List V) (count : V → ℕ) → ((v : V) → count v < 64) → Each2 (λ (a b : ℕ). b < 64) xs (map count vs)
counts_fit [] vs count fits = tt
counts_fit (x ∷ xs) [] count fits = tt
counts_fit (x ∷ xs) (v ∷ vs) count fits = (fits v, counts_fit xs vs count fits)

pub few_counts : (xs ys : List ℕ) → length ys ≡ 8 → Each2 (λ (a b : ℕ). b < 64) xs (zip2 bit_and ys (replicate 8 63))
few_counts xs ys long =
    let P : List ℕ → Type 0 = λ zs. Each2 (λ (a b : ℕ). b < 64) xs zs in
    subst P (sym (zip2_splat bit_and ys 8 63 long)) (counts_fit xs ys (λ y. bit_and y 63) count_fits)

-- a shift by the count where that is below 64, and else 0
pub shifted : (w : Width) (op f : ℕ → ℕ → ℕ) (xs ys : List ℕ) → length xs ≡ 8 → length ys ≡ 8 → All (IsWord w) xs → All (IsWord w) ys
    → ((x y : ℕ) → IsWord w x → cond (nat_lt y 64) (op x (bit_and y 63)) 0 ≡ f x y)
    → sel_l (map (top 63) (zip2 (λ a b. cond (nat_lt a b) (2 ^ 64 - 1) 0) ys (replicate 8 64))) (zip2 op xs (zip2 bit_and ys (replicate 8 63)))
    (replicate 8 0) ≡ zip2 f xs ys
shifted w op f xs ys hx hy wx wy agree =
    let e : length xs ≡ length ys = hx ∙ sym hy in
    let vs = pairs xs ys in
    let counts = zip2_of_maps bit_and (λ v. v.1) (λ _. 63) vs (rights xs ys e) (splats xs ys 8 63 hx e) in
    let all = zip2_of_maps op (λ v. v.0) (λ v. bit_and v.1 63) vs (lefts xs ys e) counts in
    chosen_by nat_lt (λ v. v.1) (λ _. 64) (λ v. op v.0 (bit_and v.1 63)) (λ _. 0) vs ys _ _ _ (rights xs ys e) (splats xs ys 8 64 hx e) all
    (splats xs ys 8 0 hx e)
    ∙ lanes_are w f _ xs ys e wx wy (λ x y p q. agree x y p)
