-- Lists, tests and options.
use Rattle.std.proofs.Common.{◌≡◌, ◌⊎◌, inl, inr, ℕ, zero, suc, ◌+◌, ◌<◌, Bool, true, false, not, ◌&&◌, ◌||◌, List, [], ◌∷◌, ◌++◌, length, map}
use Rattle.std.proofs.Common.{take, drop, slice_get, Option, Some, refl, sym, ap, ◌∙◌, subst, arith}
use Rattle.std.specs.List.{fold, list_any, flat_map, slice_index_or, Contains, All}

-- ---- tests

pub no : (b : Bool) → not b ≡ false → b ≡ true
no true h = refl
no false h = cc

pub neither : (a b : Bool) → (a || b) ≡ false → (a ≡ false) × (b ≡ false)
neither true b h = cc
neither false b h = (refl, h)

pub both : (a b : Bool) → (a && b) ≡ true → (a ≡ true) × (b ≡ true)
both true b h = (refl, h)
both false b h = cc

-- ---- what holds of each element

abbrev pub Each : {X : Type 0} → (X → Type 0) → List X → Type 0
Each P [] = Unit {0}
Each P (x ∷ xs) = P x × Each P xs

pub none-each : {X : Type 0} (p : X → Bool) (xs : List X) → list_any p xs ≡ false → Each (λ x. p x ≡ false) xs
none-each p [] h = tt
none-each p (x ∷ xs) h = let two = neither (p x) (list_any p xs) h in (two.0, none-each p xs two.1)

pub each-weaker : {X : Type 0} (P Q : X → Type 0) → ((x : X) → P x → Q x) → (xs : List X) → Each P xs → Each Q xs
each-weaker P Q h [] all = tt
each-weaker P Q h (x ∷ xs) all = (h x all.0, each-weaker P Q h xs all.1)

pub each-both : {X : Type 0} (P Q : X → Type 0) (xs : List X) → Each P xs → Each Q xs → Each (λ x. P x × Q x) xs
each-both P Q [] a b = tt
each-both P Q (x ∷ xs) a b = ((a.0, b.0), each-both P Q xs a.1 b.1)

pub each-left : {X : Type 0} (P : X → Type 0) (xs ys : List X) → Each P (xs ++ ys) → Each P xs
each-left P [] ys h = tt
each-left P (x ∷ xs) ys h = (h.0, each-left P xs ys h.1)

pub each-right : {X : Type 0} (P : X → Type 0) (xs ys : List X) → Each P (xs ++ ys) → Each P ys
each-right P [] ys h = h
each-right P (x ∷ xs) ys h = each-right P xs ys h.1

pub each-append : {X : Type 0} (P : X → Type 0) (xs ys : List X) → Each P xs → Each P ys → Each P (xs ++ ys)
each-append P [] ys g h = h
each-append P (x ∷ xs) ys g h = (g.0, each-append P xs ys g.1 h)

pub each-map : {X Y : Type 0} (P : Y → Type 0) (f : X → Y) (xs : List X) → Each P (map f xs) → Each (λ x. P (f x)) xs
each-map P f [] h = tt
each-map P f (x ∷ xs) h = (h.0, each-map P f xs h.1)

pub map-each : {X Y : Type 0} (P : Y → Type 0) (f : X → Y) (xs : List X) → Each (λ x. P (f x)) xs → Each P (map f xs)
map-each P f [] h = tt
map-each P f (x ∷ xs) h = (h.0, map-each P f xs h.1)

pub each-flat : {X Y : Type 0} (P : Y → Type 0) (f : X → List Y) (xs : List X) → Each P (flat_map f xs) → Each (λ x. Each P (f x)) xs
each-flat P f [] h = tt
each-flat P f (x ∷ xs) h = (each-left P (f x) (flat_map f xs) h, each-flat P f xs (each-right P (f x) (flat_map f xs) h))

pub each-at : {X : Type 0} (P : X → Type 0) (xs : List X) (i : ℕ) (x : X) → Each P xs → slice_get xs i ≡ Some x → P x
each-at P [] i x all h = cc
each-at P (y ∷ xs) zero x all h = let same : y ≡ x = cc in subst P same all.0
each-at P (y ∷ xs) (suc i) x all h = each-at P xs i x all.1 h

pub all-each : {X : Type 0} (P : X → Type 0) (xs : List X) → Each P xs → All P xs
all-each P [] h k d l = absurd (omega arith)
all-each P (x ∷ xs) h zero d l = h.0
all-each P (x ∷ xs) h (suc k) d l = all-each P xs h.1 k d (omega arith)

-- ---- elements by their places

pub get-left : {X : Type 0} (xs ys : List X) (i : ℕ) (x : X) → slice_get xs i ≡ Some x → slice_get (xs ++ ys) i ≡ Some x
get-left [] ys i x h = cc
get-left (y ∷ xs) ys zero x h = h
get-left (y ∷ xs) ys (suc i) x h = get-left xs ys i x h

pub get-right : {X : Type 0} (xs ys : List X) (i j : ℕ) → j ≡ length xs + i → slice_get (xs ++ ys) j ≡ slice_get ys i
get-right [] ys i j e = let same : j ≡ i = omega arith in ap (slice_get ys) same
get-right (x ∷ xs) ys i zero e = absurd (omega arith)
get-right (x ∷ xs) ys i (suc j) e = get-right xs ys i j (omega arith)

pub get-last : {X : Type 0} (xs : List X) (x : X) → slice_get (xs ++ x ∷ []) (length xs) ≡ Some x
get-last [] x = refl
get-last (y ∷ xs) x = get-last xs x

pub get-cases : {X : Type 0} (xs : List X) (x : X) (i : ℕ) (y : X) → slice_get (xs ++ x ∷ []) i ≡ Some y → (slice_get xs i ≡ Some y)
    ⊎ ((i ≡ length xs) × (x ≡ y))
get-cases [] x zero y h = inr (refl, cc)
get-cases [] x (suc i) y h = cc
get-cases (z ∷ xs) x zero y h = inl h
get-cases (z ∷ xs) x (suc i) y h = elim (get-cases xs x i y h) [ inl e ↦ inl e | inr e ↦ inr (ap suc e.0, e.1) ]

pub get-some : {X : Type 0} (xs : List X) (i : ℕ) → i < length xs → (x : X) × (slice_get xs i ≡ Some x)
get-some [] i l = absurd (omega arith)
get-some (x ∷ xs) zero l = (x, refl)
get-some (x ∷ xs) (suc i) l = get-some xs i (omega arith)

pub get-one : {X : Type 0} (xs : List X) (i : ℕ) (x y : X) → slice_get xs i ≡ Some x → slice_get xs i ≡ Some y → x ≡ y
get-one {X} xs i x y g h = let same : ◌≡◌ {A = Option X} (Some x) (Some y) = sym g ∙ h in cc

pub contains-at : {X : Type 0} (xs : List X) (x : X) → Contains xs x → (k : ℕ) × (slice_get xs k ≡ Some x)
contains-at [] x c = absurd (let l = c.1 in omega arith)
contains-at {X} (y ∷ xs) x (k, l, e) = by k l e (contains-at xs x)
  where
    by : (k : ℕ) → k < length (y ∷ xs) → slice_index_or (y ∷ xs) k x ≡ x → (Contains xs x → (k : ℕ) × (slice_get xs k ≡ Some x)) → (k : ℕ)
        × (slice_get (y ∷ xs) k ≡ Some x)
    by zero l e rest = (0, ap Some e)
    by (suc k) l e rest = let there = rest (k, omega arith, e) in (suc there.0, there.1)

pub at-contains : {X : Type 0} (xs : List X) (x : X) (k : ℕ) → slice_get xs k ≡ Some x → Contains xs x
at-contains [] x k h = cc
at-contains (y ∷ xs) x zero h = (0, omega arith, (let same : y ≡ x = cc in same))
at-contains (y ∷ xs) x (suc k) h = let there = at-contains xs x k h in let l = there.1 in (suc there.0, omega arith, there.2)

-- ---- fronts

pub fold-append : {A B : Type 0} (f : B → A → B) (s : B) (xs ys : List A) → fold f s (xs ++ ys) ≡ fold f (fold f s xs) ys
fold-append f s [] ys = refl
fold-append f s (x ∷ xs) ys = fold-append f (f s x) xs ys

pub take-snoc : {X : Type 0} (xs : List X) (k : ℕ) (x : X) → slice_get xs k ≡ Some x → take (suc k) xs ≡ take k xs ++ x ∷ []
take-snoc [] k x h = cc
take-snoc (y ∷ xs) zero x h = let same : y ≡ x = cc in ap (λ z. z ∷ []) same
take-snoc (y ∷ xs) (suc k) x h = ap (λ l. y ∷ l) (take-snoc xs k x h)

pub drop-get : {X : Type 0} (xs : List X) (h k j : ℕ) → j ≡ h + k → slice_get (drop h xs) k ≡ slice_get xs j
drop-get [] zero k j e = refl
drop-get [] (suc h) k j e = refl
drop-get (x ∷ xs) zero k j e = let same : k ≡ j = omega arith in ap (slice_get (x ∷ xs)) same
drop-get (x ∷ xs) (suc h) k zero e = absurd (omega arith)
drop-get (x ∷ xs) (suc h) k (suc j) e = drop-get xs h k j (omega arith)
