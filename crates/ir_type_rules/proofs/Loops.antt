-- A test of some element of a list, one element more.
use Rattle.std.proofs.Common.{Bor, map, ◌≡◌, ℕ, ◌+◌, ◌<◌, Bool, true, false, ◌||◌, List, [], ◌∷◌, ◌++◌, length, take, get_or, refl, sym, ap, ◌∙◌}
use Rattle.std.specs.List.{list_any}
use Rattle.std.proofs.lemmas.List.{take_more}
use Rattle.ir_tree.specs.declared.type_text.TyText.{TyText}
use Rattle.ir_tree.specs.declared.operand.Opd.{Opd}
use Rattle.ir_rules.specs.Parts.{Typed}

or_assoc : (a b c : Bool) → ((a || b) || c) ≡ (a || (b || c))
or_assoc true b c = refl
or_assoc false b c = refl

or_false : (a : Bool) → (a || false) ≡ a
or_false true = refl
or_false false = refl

any-append : {X : Type 0} (p : X → Bool) (xs ys : List X) → list_any p (xs ++ ys) ≡ (list_any p xs || list_any p ys)
any-append p [] ys = refl
any-append p (x ∷ xs) ys = ap (λ b. p x || b) (any-append p xs ys) ∙ sym (or_assoc (p x) (list_any p xs) (list_any p ys))

pub any-more : {X : Type 0} (p : X → Bool) (xs : List X) (i : ℕ) (x : X) (f r : Bool) → i < length xs → x ≡ get_or xs i x → f ≡ list_any p (take i xs)
    → r ≡ (f || p x) → r ≡ list_any p (take (i + 1) xs)
any-more p xs i x f r h e before here =
    here ∙ (λ j. before j || (ap p e ∙ sym (or_false (p (get_or xs i x)))) j) ∙ sym (any-append p (take i xs) (get_or xs i x ∷ []))
    ∙ sym (ap (list_any p) (take_more xs i x h))

-- a test of what is lent
pub any-now : (p : TyText → Bool) (bs : List (Bor TyText)) (ts : List TyText) → map (λ b. b.now) bs ≡ ts → list_any (λ b. p b.now) bs ≡ list_any p ts
any-now p bs ts e = by bs ∙ ap (list_any p) e
  where
    by : (bs : List (Bor TyText)) → list_any (λ b. p b.now) bs ≡ list_any p (map (λ b. b.now) bs)
    by [] = refl
    by (b ∷ bs) = ap (λ r. p b.now || r) (by bs)

-- a test of operands that are lent
pub any-typed : (p : Typed → Bool) (bs : List (Bor TyText × Bor Opd)) (ops : List Typed) → map {B = Typed} (λ v. (v.0.now, v.1.now)) bs ≡ ops
    → list_any (λ v. p (v.0.now, v.1.now)) bs ≡ list_any p ops
any-typed p bs ops e = by bs ∙ ap (list_any p) e
  where
    by : (bs : List (Bor TyText × Bor Opd)) → list_any (λ v. p (v.0.now, v.1.now)) bs ≡ list_any p (map {B = Typed} (λ v. (v.0.now, v.1.now)) bs)
    by [] = refl
    by (b ∷ bs) = ap (λ r. p (b.0.now, b.1.now) || r) (by bs)
