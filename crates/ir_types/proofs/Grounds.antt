-- Flags of definitions, and those from which no way leads to one that leads to itself.
use Rattle.std.proofs.Common.{◌≡◌, ◌⊎◌, inl, inr, ℕ, zero, suc, ◌+◌, ◌<◌, ◌≤◌, nat_eq, Bool, true, false, not, ◌||◌, cond, if◌then◌else◌, List, [], ◌∷◌, length, get_or, replicate, Some}
use Rattle.std.proofs.Common.{slice_get, slice_set, unwrap_or, refl, sym, ap, subst, ◌∙◌, arith, length-set}
use mathlib.Core.Logic.{⊎_elim}
use Rattle.std.specs.List.{list_any, list_all}
use Rattle.std.proofs.lemmas.Bool.{cases_lt}
use Rattle.std.proofs.lemmas.Bool.Decides.{Decides-eqb}
use Rattle.std.proofs.lemmas.Option.{slice_get_past, unwrap_or-slice_get}
use Rattle.std.proofs.lemmas.List.Sums.{sum_by-set}
use Rattle.std.proofs.lemmas.List.{length-replicate, get_or-set_same, get_or-set_other}
use Rattle.ir_types.specs.Graph.{next_of, reaches, held, some_left, tally, SetsFlag, AreGrounded}

pub or-cases : (x y : Bool) → (x || y) ≡ true → (x ≡ true) ⊎ (y ≡ true)
or-cases true y h = inl refl
or-cases false y h = inr h

pub or-right : (x y : Bool) → y ≡ true → (x || y) ≡ true
or-right true y h = refl
or-right false y h = h

pub same-number : (n : ℕ) → nat_eq n n ≡ true
same-number n = (Decides-eqb n n).1 refl

pub one-number : (m n : ℕ) → nat_eq m n ≡ true → m ≡ n
one-number m n h = (Decides-eqb m n).0 h

-- ---- some of a list

pub any-at : {X : Type 0} (p : X → Bool) (xs : List X) (j : ℕ) (x : X) → slice_get xs j ≡ Some x → p x ≡ true → list_any p xs ≡ true
any-at p [] j x h e = cc
any-at p (y ∷ xs) zero x h e =
    let same : y ≡ x = cc in ap (λ z. p z || list_any p xs) same ∙ ap (λ b. b || list_any p xs) e
any-at p (y ∷ xs) (suc j) x h e = or-right (p y) (list_any p xs) (any-at p xs j x h e)

pub any-some : {X : Type 0} (p : X → Bool) (xs : List X) → list_any p xs ≡ true → (j : ℕ) × (x : X) × (slice_get xs j ≡ Some x) × (p x ≡ true)
any-some p [] h = cc
any-some p (y ∷ xs) h =
    ⊎_elim (λ (e : p y ≡ true). (0, y, refl, e)) (λ (e : list_any p xs ≡ true). let r = any-some p xs e in (suc r.0, r.1, r.2, r.3)) (or-cases (p y) (list_any p xs) h)

left-parts : (b r : Bool) → (not b || r) ≡ false → (b ≡ true) × (r ≡ false)
left-parts true r h = (refl, h)
left-parts false r h = cc

pub left-at : (flags : List Bool) (list : List ℕ) (j c : ℕ) → some_left flags list ≡ false → slice_get list j ≡ Some c → held flags c ≡ true
left-at flags [] j c h e = cc
left-at flags (x ∷ list) zero c h e =
    let same : x ≡ c = cc in ap (held flags) (sym same) ∙ (left-parts (held flags x) (some_left flags list) h).0
left-at flags (x ∷ list) (suc j) c h e = left-at flags list j c (left-parts (held flags x) (some_left flags list) h).1 e

pub left-less : (old new : List Bool) → ((c : ℕ) → held old c ≡ true → held new c ≡ true) → (list : List ℕ) → some_left old list ≡ false
    → some_left new list ≡ false
left-less old new grows [] h = refl
left-less old new grows (c ∷ list) h =
    let p = left-parts (held old c) (some_left old list) h in λ i. not (grows c p.0 i) || left-less old new grows list p.1 i

pub all-held : (flags : List Bool) → list_all (λ b. b) flags ≡ true → (d : ℕ) → held flags d ≡ true
all-held [] h d = refl
all-held (true ∷ flags) h zero = refl
all-held (false ∷ flags) h d = cc
all-held (true ∷ flags) h (suc d) = all-held flags h d

-- ---- one flag more

pub set-at : {X : Type 0} (xs : List X) (d c : ℕ) (x y : X) → d < length xs
    → unwrap_or (slice_get (slice_set xs d x) c) y ≡ (if nat_eq c d then x else unwrap_or (slice_get xs c) y)
set-at {X} xs d c x y h = unwrap_or-slice_get (slice_set xs d x) c y ∙ by (nat_eq c d) refl
  where
    by : (b : Bool) → nat_eq c d ≡ b → get_or (slice_set xs d x) c y ≡ (if b then x else unwrap_or (slice_get xs c) y)
    by true e = ap (λ n. get_or (slice_set xs d x) n y) (one-number c d e) ∙ get_or-set_same xs d x y h
    by false e =
        get_or-set_other xs d c x y (λ same. let no : false ≡ true = sym e ∙ (Decides-eqb c d).1 same in cc) ∙ sym (unwrap_or-slice_get xs c y)

held-set : (flags : List Bool) (d c : ℕ) → d < length flags → held (slice_set flags d true) c ≡ (nat_eq c d || held flags c)
held-set flags d c h = set-at flags d c true true h ∙ by (nat_eq c d)
  where
    by : (b : Bool) → (if b then true else held flags c) ≡ (b || held flags c)
    by true = refl
    by false = refl

abbrev one : Bool → ℕ
one b = cond b 1 0

tally-set : (flags : List Bool) (d : ℕ) → d < length flags
    → tally (slice_set flags d true) ≡ (if held flags d then tally flags else tally flags + 1)
tally-set flags d h = by (held flags d) (ap one (sym (unwrap_or-slice_get flags d true)))
  where
    by : (b : Bool) → one (get_or flags d true) ≡ one b → tally (slice_set flags d true) ≡ (if b then tally flags else tally flags + 1)
    by true e = (let s = sum_by-set one flags d true true h in omega (arith, s, e))
    by false e = (let s = sum_by-set one flags d true true h in omega (arith, s, e))

pub held-past : (flags : List Bool) (d : ℕ) → length flags ≤ d → held flags d ≡ true
held-past flags d h = ap (λ o. unwrap_or o true) (slice_get_past flags d h)

pub sets-here : (old new : List Bool) (d : ℕ) → d < length old → new ≡ slice_set old d true → SetsFlag old d new
sets-here old new d h e =
    subst (λ (l : List Bool). SetsFlag old d l) (sym e)
    (record { flags = λ c. held-set old d c h; long = length-set old d true; count = tally-set old d h })

-- a flag that counts as set
sets-none : (flags : List Bool) (d : ℕ) → held flags d ≡ true → SetsFlag flags d flags
sets-none flags d h =
    record { flags = λ c. by c (nat_eq c d) refl; long = refl; count = ap (λ b. if b then tally flags else tally flags + 1) (sym h) }
  where
    by : (c : ℕ) (b : Bool) → nat_eq c d ≡ b → held flags c ≡ (b || held flags c)
    by c true e = ap (held flags) (one-number c d e) ∙ h
    by c false e = refl

pub sets-past : (flags : List Bool) (d : ℕ) → length flags ≤ d → SetsFlag flags d flags
sets-past flags d h = sets-none flags d (held-past flags d h)

pub flag-grows : (old new : List Bool) (d : ℕ) → SetsFlag old d new → (c : ℕ) → held old c ≡ true → held new c ≡ true
flag-grows old new d s c h = s.flags c ∙ or-right (nat_eq c d) (held old c) h

pub flag-here : (old new : List Bool) (d : ℕ) → SetsFlag old d new → held new d ≡ true
flag-here old new d s = s.flags d ∙ ap (λ b. b || held old d) (same-number d)

pub flag-cases : (old new : List Bool) (d c : ℕ) → SetsFlag old d new → held new c ≡ true → (c ≡ d) ⊎ (held old c ≡ true)
flag-cases old new d c s h =
    ⊎_elim (λ e. inl (one-number c d e)) (λ e. inr e) (or-cases (nat_eq c d) (held old c) (sym (s.flags c) ∙ h))

-- ---- ways along the definitions

module _ (es : List (List ℕ)) (flags : List Bool) (closed : (d : ℕ) → held flags d ≡ true → some_left flags (next_of es d) ≡ false) where
  -- flagged definitions lead to flagged ones alone
  pub stays : (k a b : ℕ) → some_left flags (next_of es a) ≡ false → reaches es k a b ≡ true → held flags b ≡ true
  unfolding reaches
  stays zero a b f h = cc
  stays (suc k) a b f h =
      let p = any-some (λ c. nat_eq c b || reaches es k c b) (next_of es a) h in
      let c = p.1 in
      let own = left-at flags (next_of es a) p.0 c f p.2 in
      ⊎_elim (λ e. ap (held flags) (sym (one-number c b e)) ∙ own) (λ r. stays k c b (closed c own) r) (or-cases (nat_eq c b) (reaches es k c b) p.3)

  no-way : (k a b : ℕ) → some_left flags (next_of es a) ≡ false → held flags b ≡ false → reaches es k a b ≡ false
  no-way k a b f h = by (reaches es k a b) refl
    where
      by : (x : Bool) → reaches es k a b ≡ x → x ≡ false
      by false e = refl
      by true e = (let no = stays k a b f e in cc)

pub past-none : (es : List (List ℕ)) (a k b : ℕ) → length es ≤ a → reaches es k a b ≡ false
unfolding reaches
past-none es a zero b h = refl
past-none es a (suc k) b h = ap (λ o. list_any (λ c. nat_eq c b || reaches es k c b) (unwrap_or o [])) (slice_get_past es a h)

-- ---- grounded definitions

pub none-held : (n d : ℕ) → held (replicate n false) d ≡ true → n ≤ d
none-held zero d h = omega arith
none-held (suc n) zero h = cc
none-held (suc n) (suc d) h = (let rest = none-held n d h in omega arith)

pub none-grounded : (es : List (List ℕ)) (flags : List Bool) → flags ≡ replicate (length es) false → AreGrounded es flags
none-grounded es flags e =
    subst (λ (l : List Bool). AreGrounded es l) (sym e)
    (record {
      long = length-replicate (length es) false;
      closed = λ d h. ap (λ o. some_left (replicate (length es) false) (unwrap_or o [])) (slice_get_past es d (none-held (length es) d h));
      none = λ k d h. past-none es d k d (none-held (length es) d h);
    })

-- a definition more, if all that it names are grounded
pub one-grounded : (es : List (List ℕ)) (old new : List Bool) (d : ℕ) → AreGrounded es old → SetsFlag old d new → some_left old (next_of es d) ≡ false
    → AreGrounded es new
one-grounded es old new d g s h = record {
  long = s.long ∙ g.long;
  closed = λ c f. left-less old new (flag-grows old new d s) (next_of es c)
      (⊎_elim (λ e. ap (λ x. some_left old (next_of es x)) e ∙ h) (λ f. g.closed c f) (flag-cases old new d c s f));
  none = λ k c f. by k c (held old c) refl (flag-cases old new d c s f);
}
  where
    by : (k c : ℕ) (b : Bool) → held old c ≡ b → (c ≡ d) ⊎ (held old c ≡ true) → reaches es k c c ≡ false
    by k c true e f = g.none k c e
    by k c false e (inl f) = no-way es old g.closed k c c (ap (λ x. some_left old (next_of es x)) f ∙ h) e
    by k c false e (inr f) = cc

-- flags for all definitions
pub flags-exact : (es : List (List ℕ)) (flags : List Bool) → length flags ≡ length es
    → ((d : ℕ) → d < length es → unwrap_or (slice_get flags d) false ≡ reaches es (length es) d d) → (d : ℕ)
    → unwrap_or (slice_get flags d) false ≡ reaches es (length es) d d
flags-exact es flags long each d =
    ⊎_elim (λ h. each d h)
    (λ h. ap (λ o. unwrap_or o false) (slice_get_past flags d (omega arith)) ∙ sym (past-none es d (length es) d h))
    (cases_lt d (length es))
