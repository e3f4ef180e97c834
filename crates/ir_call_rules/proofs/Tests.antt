-- Tests of some or of all elements of a list.
use Rattle.std.proofs.Common.{◌≡◌, ℕ, Bool, true, false, ◌||◌, ◌&&◌, List, [], ◌∷◌, ◌++◌, nat_eq, refl, sym, ap, ◌∙◌}
use Rattle.std.specs.List.{list_any, list_all}
use Rattle.std.proofs.lemmas.Bool.Decides.{Decides-eqb}

pub nor : (a : Bool) → (a || false) ≡ a
nor true = refl
nor false = refl

pub or-true : (a : Bool) → (a || true) ≡ true
or-true true = refl
or-true false = refl

pub or_assoc : (a b c : Bool) → ((a || b) || c) ≡ (a || (b || c))
or_assoc true b c = refl
or_assoc false b c = refl

pub exchanged : (a b c d : Bool) → ((a || b) || (c || d)) ≡ ((a || c) || (b || d))
exchanged true b c d = refl
exchanged false true true d = refl
exchanged false true false d = refl
exchanged false false c d = refl

and-all : (a b c : Bool) → ((a && b) && c) ≡ (a && (b && c))
and-all true b c = refl
and-all false b c = refl

yes-and : (a : Bool) → (a && true) ≡ a
yes-and true = refl
yes-and false = refl

pub any-append : {X : Type 0} (p : X → Bool) (xs ys : List X) → list_any p (xs ++ ys) ≡ (list_any p xs || list_any p ys)
any-append p [] ys = refl
any-append p (x ∷ xs) ys = ap (λ b. p x || b) (any-append p xs ys) ∙ sym (or_assoc (p x) (list_any p xs) (list_any p ys))

pub any-last : {X : Type 0} (p : X → Bool) (xs : List X) (x : X) → list_any p (xs ++ x ∷ []) ≡ (list_any p xs || p x)
any-last p xs x = any-append p xs (x ∷ []) ∙ ap (λ b. list_any p xs || b) (nor (p x))

pub all-last : {X : Type 0} (p : X → Bool) (xs : List X) (x : X) → list_all p (xs ++ x ∷ []) ≡ (list_all p xs && p x)
all-last p [] x = yes-and (p x)
all-last p (y ∷ xs) x = ap (λ b. p y && b) (all-last p xs x) ∙ sym (and-all (p y) (list_all p xs) (p x))

-- an element that passes is one of those of which some pass
pub eq-sym : (m n : ℕ) → nat_eq m n ≡ nat_eq n m
eq-sym m n = by (nat_eq m n) refl (nat_eq n m) refl
  where
    by : (p : Bool) → nat_eq m n ≡ p → (q : Bool) → nat_eq n m ≡ q → p ≡ q
    by true e true f = refl
    by false e false f = refl
    by true e false f = sym ((Decides-eqb n m).1 (sym ((Decides-eqb m n).0 e))) ∙ f
    by false e true f = sym e ∙ (Decides-eqb m n).1 (sym ((Decides-eqb n m).0 f))
