-- Parts by class numbers are parts by equal changes, where a class number is the place of the first equal change.
use Rattle.std.proofs.Common.{one-add, ◌≡◌, ℕ, suc, ◌<◌, Bool, true, false, ◌&&◌, not, ◌==◌, nat_lt, List, [], ◌∷◌, map, get_or, refl, sym, ap, ◌∙◌, subst}
use Rattle.std.proofs.Common.{arith, ⊎_elim}
use Rattle.std.specs.List.{filter, list_any, position_or_len, Contains}
use Rattle.std.proofs.lemmas.Bool.{eqb-true, eq-eqb, true≢false}
use Rattle.traces.proofs.Bools.{on_bool, same_bools}
use Rattle.traces.proofs.Lists.{contains_here, contains_there, contains_cases, from_filter}

module _ {X : Type 0} where
  place_here : (p : X → Bool) (x : X) (xs : List X) → p x ≡ true → position_or_len p (x ∷ xs) ≡ 0
  place_here p x xs t = rw t refl

  place_behind : (p : X → Bool) (x : X) (xs : List X) → p x ≡ false → position_or_len p (x ∷ xs) ≡ suc (position_or_len p xs)
  place_behind p x xs f = rw f (one-add (position_or_len p xs))

  -- the element at the first place that passes passes
  passes_there : (p : X → Bool) (xs : List X) (x d : X) → Contains xs x → p x ≡ true → p (get_or xs (position_or_len p xs) d) ≡ true
  passes_there p [] x d c h = absurd (let l : c.0 < 0 = c.1 in omega arith)
  passes_there p (y ∷ ys) x d c h = on_bool (p y)
      (λ t. ap (λ i. p (get_or (y ∷ ys) i d)) (place_here p y ys t) ∙ t)
      (λ f. ap (λ i. p (get_or (y ∷ ys) i d)) (place_behind p y ys f)
      ∙ ⊎_elim
      (λ e. absurd (true≢false (sym h ∙ ap p (sym e) ∙ f)))
      (λ k. passes_there p ys x d k h)
      (contains_cases y x ys c))

  module _ (same : X → X → Bool) (sound : (x y : X) → same x y ≡ true → x ≡ y) (complete : (x : X) → same x x ≡ true) where
    -- two elements have one place of their first equal exactly where they are equal
    pub same_place : (xs : List X) (x y : X) → Contains xs x → Contains xs y
        → (position_or_len (λ z. same z x) xs == position_or_len (λ z. same z y) xs) ≡ same x y
    same_place xs x y c d = same_bools _ _
        (λ h. let e = eqb-true _ _ h in
        let a = sound _ _ (passes_there (λ z. same z x) xs x x c (complete x)) in
        let b = sound _ _ (passes_there (λ z. same z y) xs y x d (complete y)) in
        let f : x ≡ y = (sym a ∙ ap (λ i. get_or xs i x) e ∙ b) in
        subst (λ z. same x z ≡ true) f (complete x))
        (λ h. let f = sound x y h in eq-eqb _ _ (ap (λ w. position_or_len (λ z. same z w) xs) f))

  pub filter_where : (p q : X → Bool) (xs : List X) → ((x : X) → Contains xs x → p x ≡ q x) → filter p xs ≡ filter q xs
  filter_where p q [] h = refl
  filter_where p q (x ∷ xs) h =
      let a = h x (contains_here x xs) in let i = filter_where p q xs (λ y c. h y (contains_there x y xs c)) in
      on_bool (p x) (λ t. rw (t, sym a ∙ t) (ap (λ ys. x ∷ ys) i)) (λ f. rw (f, sym a ∙ f) i)

  any_contained : (p q : X → Bool) (xs : List X) → ((x : X) → Contains xs x → p x ≡ q x) → list_any p xs ≡ list_any q xs
  any_contained p q [] h = refl
  any_contained p q (x ∷ xs) h = let a = h x (contains_here x xs) in let i = any_contained p q xs (λ y c. h y (contains_there x y xs c)) in cc

  map_contained : {Y : Type 0} (f g : X → Y) (xs : List X) → ((x : X) → Contains xs x → f x ≡ g x) → map f xs ≡ map g xs
  map_contained f g [] h = refl
  map_contained f g (x ∷ xs) h = let a = h x (contains_here x xs) in let i = map_contained f g xs (λ y c. h y (contains_there x y xs c)) in cc

-- parts by two tests that say the same of the members
pub parts_same : (test other : ℕ → ℕ → Bool) (members : List ℕ) → ((m k : ℕ) → Contains members m → Contains members k → test m k ≡ other m k)
    → map (λ m. filter (test m) members) (filter (λ m. not (list_any (λ k. nat_lt k m && test k m) members)) members)
    ≡ map (λ m. filter (other m) members) (filter (λ m. not (list_any (λ k. nat_lt k m && other k m) members)) members)
parts_same test other members h =
    map_contained (λ m. filter (test m) members) (λ m. filter (other m) members) _
    (λ m c. filter_where (test m) (other m) members (λ k d. h m k (from_filter _ members m c).0 d))
    ∙ ap (map (λ m. filter (other m) members))
    (filter_where (λ m. not (list_any (λ k. nat_lt k m && test k m) members)) (λ m. not (list_any (λ k. nat_lt k m && other k m) members)) members
    (λ m c. ap not (any_contained (λ k. nat_lt k m && test k m) (λ k. nat_lt k m && other k m) members (λ k d. ap (λ b. nat_lt k m && b) (h k m d c)))))
