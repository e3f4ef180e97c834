-- What definitions of which the first counts say of a name.
use Rattle.std.proofs.Common.{◌≡◌, Bool, true, false, ◌||◌, List, [], ◌∷◌, ◌++◌, Option, None, Some, is_some, if◌then◌else◌, cond, refl, ap, sym, subst, ◌∙◌}
use Rattle.std.specs.List.{fold}
use Rattle.std.proofs.lemmas.Bool.Decides.{Decides-eqb}
use Rattle.std.proofs.lemmas.Slice.Eq.{bytes_eq-Decides}
use Rattle.ir_tree.specs.declared.name.Name.{Name}
use Rattle.ir_tree.specs.declared.name.Name.TheVariants.{Text, Number}
use Rattle.ir_names.specs.Names.{same_name, defined, with_first}

-- the test says that two names are one exactly where they are
pub same-eq : (a b : Name) → same_name a b ≡ true → a ≡ b
same-eq (Text a) (Text b) h = ap Text ((bytes_eq-Decides a b).0 h)
same-eq (Text a) (Number n) h = cc
same-eq (Number n) (Text b) h = cc
same-eq (Number m) (Number n) h = ap Number ((Decides-eqb m n).0 h)

pub same-self : (a : Name) → same_name a a ≡ true
same-self (Text a) = (bytes_eq-Decides a a).1 refl
same-self (Number n) = (Decides-eqb n n).1 refl

pub same-sym : (a b : Name) → same_name a b ≡ same_name b a
same-sym a b = by (same_name a b) refl (same_name b a) refl
  where
    by : (p : Bool) → same_name a b ≡ p → (q : Bool) → same_name b a ≡ q → p ≡ q
    by true e true f = refl
    by false e false f = refl
    by true e false f = let P : Name → Type 0 = λ c. same_name c a ≡ true in sym (subst P (same-eq a b e) (same-self a)) ∙ f
    by false e true f = let P : Name → Type 0 = λ c. same_name c b ≡ true in sym e ∙ subst P (same-eq b a f) (same-self b)

-- one more definition behind others
abbrev pub or_else : {X : Type 0} → Option X → Option X → Option X
or_else (Some x) y = Some x
or_else None y = y

pub defined-append : {X : Type 0} (t : List (Name × X)) (d : Name × X) (m : Name) → defined (t ++ d ∷ []) m ≡ or_else (defined t m) (defined (d ∷ []) m)
defined-append [] d m = refl
defined-append (e ∷ t) d m = by (same_name m e.0) (defined-append t d m)
  where
    by : (b : Bool) → defined (t ++ d ∷ []) m ≡ or_else (defined t m) (defined (d ∷ []) m)
        → cond b (Some e.1) (defined (t ++ d ∷ []) m) ≡ or_else (cond b (Some e.1) (defined t m)) (defined (d ∷ []) m)
    by true rest = refl
    by false rest = rest

-- a name that is defined stays as it is, and a new one is what its definition says
pub defined-first : {X : Type 0} (t : List (Name × X)) (d : Name × X) (m : Name) → defined (with_first t d) m ≡ or_else (defined t m) (defined (d ∷ []) m)
defined-first {X} t d m = by (defined t d.0) refl
  where
    behind : (o : Option X) → defined t d.0 ≡ o → is_some o ≡ true → (b : Bool) → same_name m d.0 ≡ b
        → defined t m ≡ or_else (defined t m) (cond b (Some d.1) None)
    behind o e s true q = known (defined t m) refl
      where
        known : (p : Option X) → defined t m ≡ p → p ≡ or_else p (Some d.1)
        known (Some x) f = refl
        known None f =
            let P : Name → Type 0 = λ c. is_some (defined t c) ≡ true in
            let here : is_some (defined t m) ≡ true = subst P (sym (same-eq m d.0 q)) (ap is_some e ∙ s) in
            let no : false ≡ true = sym (ap is_some f) ∙ here in cc
    behind o e s false q = same (defined t m)
      where
        same : (p : Option X) → p ≡ or_else p None
        same (Some x) = refl
        same None = refl

    by : (o : Option X) → defined t d.0 ≡ o → defined (if is_some o then t else t ++ d ∷ []) m ≡ or_else (defined t m) (defined (d ∷ []) m)
    by (Some x) e = behind (Some x) e refl (same_name m d.0) refl
    by None e = defined-append t d m

-- definitions of which only the first counts are all that a look-up needs
pub defined-firsts : {X : Type 0} (ds t : List (Name × X)) (m : Name) → defined (fold with_first t ds) m ≡ or_else (defined t m) (defined ds m)
defined-firsts {X} [] t m = by (defined t m)
  where
    by : (o : Option X) → o ≡ or_else o None
    by (Some x) = refl
    by None = refl
defined-firsts {X} (d ∷ ds) t m = defined-firsts ds (with_first t d) m ∙ ap (λ o. or_else o (defined ds m)) (defined-first t d m)
    ∙ by (defined t m) (same_name m d.0)
  where
    by : (o : Option X) (b : Bool) → or_else (or_else o (cond b (Some d.1) None)) (defined ds m) ≡ or_else o (cond b (Some d.1) (defined ds m))
    by (Some x) b = refl
    by None true = refl
    by None false = refl

-- whether a name is defined once one more is
pub has-first : {X : Type 0} (t : List (Name × X)) (d : Name × X) (m : Name) → is_some (defined (with_first t d) m) ≡ (is_some (defined t m) || same_name m d.0)
has-first {X} t d m = ap is_some (defined-first t d m) ∙ by (defined t m) (same_name m d.0)
  where
    by : (o : Option X) (b : Bool) → is_some (or_else o (cond b (Some d.1) None)) ≡ (is_some o || b)
    by (Some x) b = refl
    by None true = refl
    by None false = refl
