-- That a rule is read as it means, in one way, and how this follows for what is made of rules.
use Rattle.std.proofs.Common.{◌≡◌, ℕ, zero, suc, ◌<◌, ◌≤◌, Bool, true, false, cond, List, [], ◌∷◌, ◌++◌, length, Option, Some, None, refl, sym, ap, ◌∙◌, subst}
use Rattle.std.proofs.Common.{arith}
use Rattle.std.proofs.lemmas.List.{append_assoc, append-nil}
use Rattle.ir_grammar.specs.Lexeme.{Lexeme, Lexemes}
use Rattle.ir_grammar.specs.Rule.{Rule, and_then, ◌>>=◌, ◌>>◌, pure, refuse, one, take_first, look, either, where_it, many, many_from, ReadsMany, skip_many}
use Rattle.ir_grammar.specs.Rule.{sign, further, some_listed, listed, onto}

pub record Exact {A : Type 0} (p : Rule A) : Type 0 where
  pub sound : (ts : Lexemes) (x : A) (rest : Lexemes) → p.parse ts ≡ Some (x, rest) → p.reads ts x rest
  pub only : (ts : Lexemes) (x : A) (rest : Lexemes) → p.reads ts x rest → p.parse ts ≡ Some (x, rest)
  pub shorter : (ts : Lexemes) (x : A) (rest : Lexemes) → p.reads ts x rest → length rest ≤ length ts

-- what a chain that succeeds went through
pub through : {A B : Type 0} (o : Option A) (f : A → Option B) (y : B) → and_then o f ≡ Some y → (x : A) × (o ≡ Some x) × (f x ≡ Some y)
through None f y e = cc
through (Some x) f y e = (x, refl, e)

pub exact-bind : {A B : Type 0} (p : Rule A) (f : A → Rule B) → Exact p → ((x : A) → Exact (f x)) → Exact (p >>= f)
exact-bind p f e g = record {
  sound = λ ts y rest h. let t = through (p.parse ts) (λ x. (f x.0).parse x.1) (y, rest) h in
      (t.0.0, t.0.1, e.sound ts t.0.0 t.0.1 t.1, (g t.0.0).sound t.0.1 y rest t.2);
  only = λ ts y rest h. ap (λ o. and_then o (λ x. (f x.0).parse x.1)) (e.only ts h.0 h.1 h.2) ∙ (g h.0).only h.1 y rest h.3;
  shorter = λ ts y rest h. let a = e.shorter ts h.0 h.1 h.2 in let b = (g h.0).shorter h.1 y rest h.3 in omega arith;
}

abbrev pub some_or : {X : Type 0} → X → Option X → X
some_or d None = d
some_or d (Some x) = x

-- equal answers have equal parts
pub parts : {A : Type 0} (x y : A) (ts rest : Lexemes) → ◌≡◌ {A = Option (A × Lexemes)} (Some (x, ts)) (Some (y, rest)) → (x ≡ y) × (ts ≡ rest)
parts {A} x y ts rest e = (ap (λ (o : Option (A × Lexemes)). (some_or (x, ts) o).0) e, ap (λ (o : Option (A × Lexemes)). (some_or (x, ts) o).1) e)

pub exact-pure : {A : Type 0} (x : A) → Exact (pure x)
exact-pure x = record {
  sound = λ ts y rest h. let e = parts x y ts rest h in (sym e.0, sym e.1);
  only = λ ts y rest h. ap (λ v. Some (v, ts)) (sym h.0) ∙ ap (λ v. Some (y, v)) (sym h.1);
  shorter = λ ts y rest h. let e = ap length h.1 in omega arith;
}

pub exact-refuse : {A : Type 0} → Exact (refuse {A = A})
exact-refuse = record { sound = λ ts y rest h. cc; only = λ ts y rest h. absurd h; shorter = λ ts y rest h. absurd h }

one-sound : {A : Type 0} (f : Lexeme → Option A) (ts : Lexemes) (x : A) (rest : Lexemes) → take_first f ts ≡ Some (x, rest) → (one f).reads ts x rest
one-sound f [] x rest h = cc
one-sound f (l ∷ ts) x rest h = let t = through (f l) (λ y. Some (y, ts)) (x, rest) h in let e = parts t.0 x ts rest t.2 in
    (l, ap (λ c. l ∷ c) e.1, t.1 ∙ ap (λ y. Some y) e.0)

pub exact-one : {A : Type 0} (f : Lexeme → Option A) → Exact (one f)
exact-one f = record {
  sound = one-sound f;
  only = λ ts x rest h. ap (λ c. take_first f c) h.1 ∙ ap (λ o. and_then o (λ y. Some (y, rest))) h.2;
  shorter = λ ts x rest h. let e = ap length h.1 in omega arith;
}

pub exact-look : {A C : Type 0} (f : Lexemes → C) (k : C → Rule A) → ((c : C) → Exact (k c)) → Exact (look f k)
exact-look f k e = record {
  sound = λ ts x rest h. (e (f ts)).sound ts x rest h;
  only = λ ts x rest h. (e (f ts)).only ts x rest h;
  shorter = λ ts x rest h. (e (f ts)).shorter ts x rest h;
}

pub exact-either : {A : Type 0} (p q : Rule A) → Exact p → Exact q → (b : Bool) → Exact (either p q b)
exact-either p q e f true = e
exact-either p q e f false = f

module _ {A : Type 0} (begins : Lexemes → Bool) (p : Rule A) where
  abbrev more : ℕ → Lexemes → Option (List A × Lexemes)
  more n ts = and_then (p.parse ts) (λ x. and_then (many_from begins p.parse n x.1) (λ xs. Some (x.0 ∷ xs.0, xs.1)))

  ended : (ts : Lexemes) (xs : List A) (rest : Lexemes) → begins ts ≡ false → ◌≡◌ {A = Option (List A × Lexemes)} (Some ([], ts)) (Some (xs, rest))
      → ReadsMany begins p ts xs rest
  ended ts xs rest b h = let q = parts [] xs ts rest h in subst (λ v. ReadsMany begins p ts v rest) q.0 (b, sym q.1)

  many-sound : Exact p → (n : ℕ) (ts : Lexemes) (b : Bool) → begins ts ≡ b → (xs : List A) (rest : Lexemes) → many_from begins p.parse n ts ≡ Some (xs, rest)
      → ReadsMany begins p ts xs rest
  many-sound e zero ts true same xs rest h = let k : ◌≡◌ {A = Option (List A × Lexemes)} None (Some (xs, rest)) = ap (λ v. cond v None (Some ([], ts)))
      (sym same) ∙ h in cc
  many-sound e zero ts false same xs rest h = ended ts xs rest same (ap (λ v. cond v None (Some ([], ts))) (sym same) ∙ h)
  many-sound e (suc n) ts false same xs rest h = ended ts xs rest same (ap (λ v. cond v (more n ts) (Some ([], ts))) (sym same) ∙ h)
  many-sound e (suc n) ts true same xs rest h =
      let t = through (p.parse ts) (λ x. and_then (many_from begins p.parse n x.1) (λ xs. Some (x.0 ∷ xs.0, xs.1))) (xs, rest)
      (ap (λ v. cond v (more n ts) (Some ([], ts))) (sym same) ∙ h) in
      let u = through (many_from begins p.parse n t.0.1) (λ xs. Some (t.0.0 ∷ xs.0, xs.1)) (xs, rest) t.2 in
      let q = parts (t.0.0 ∷ u.0.0) xs u.0.1 rest u.2 in
      subst (λ v. ReadsMany begins p ts v rest) q.0
      (same, t.0.1, e.sound ts t.0.0 t.0.1 t.1, many-sound e n t.0.1 (begins t.0.1) refl u.0.0 rest (u.1 ∙ ap (λ w. Some (u.0.0, w)) q.1))

-- each value takes a lexeme
abbrev pub Strict : {A : Type 0} → Rule A → Type 0
Strict {A} p = (ts : Lexemes) (x : A) (rest : Lexemes) → p.reads ts x rest → length rest < length ts

onto-onto : {A : Type 0} (front : List A) (x : A) (o : Option (List A × Lexemes)) → onto front (and_then o (λ xs. Some (x ∷ xs.0, xs.1))) ≡ onto
    (front ++ (x ∷ [])) o
onto-onto front x None = refl
onto-onto front x (Some xs) = ap (λ ys. Some (ys, xs.1)) (sym (append_assoc front (x ∷ []) xs.0))

module _ {A : Type 0} (begins : Lexemes → Bool) (p : Rule A) (e : Exact p) (strict : Strict p) where
  many-only : (n : ℕ) (ts : Lexemes) (xs : List A) (rest : Lexemes) → length ts ≤ n → ReadsMany begins p ts xs rest → many_from begins p.parse n ts ≡ Some
      (xs, rest)
  many-only zero ts [] rest small (b, r) = ap (λ v. cond v None (Some ([], ts))) b ∙ ap (λ w. Some ([], w)) (sym r)
  many-only (suc n) ts [] rest small (b, r) = ap (λ v. cond v (more begins p n ts) (Some ([], ts))) b ∙ ap (λ w. Some ([], w)) (sym r)
  many-only zero ts (x ∷ xs) rest small (b, mid, r, m) = absurd (let s = strict ts x mid r in omega arith)
  many-only (suc n) ts (x ∷ xs) rest small (b, mid, r, m) =
      let s = strict ts x mid r in
      ap (λ v. cond v (more begins p n ts) (Some ([], ts))) b
      ∙ ap (λ o. and_then o (λ x. and_then (many_from begins p.parse n x.1) (λ xs. Some (x.0 ∷ xs.0, xs.1)))) (e.only ts x mid r)
      ∙ ap (λ o. and_then o (λ xs. Some (x ∷ xs.0, xs.1))) (many-only n mid xs rest (omega arith) m)

  many-shorter : (ts : Lexemes) (xs : List A) (rest : Lexemes) → ReadsMany begins p ts xs rest → length rest ≤ length ts
  many-shorter ts [] rest (b, r) = let l = ap length r in omega arith
  many-shorter ts (x ∷ xs) rest (b, mid, r, m) = let s = strict ts x mid r in let t = many-shorter mid xs rest m in omega arith

  pub exact-many : Exact (many begins p)
  exact-many = record {
    sound = λ ts xs rest h. many-sound begins p e (length ts) ts (begins ts) refl xs rest h;
    only = λ ts xs rest h. many-only (length ts) ts xs rest (omega arith) h;
    shorter = many-shorter;
  }

  -- enough turns are enough
  fuel-at : (n m : ℕ) (ts : Lexemes) → length ts ≤ n → length ts ≤ m → (o o' : Option (List A × Lexemes)) → many_from begins p.parse n ts ≡ o
      → many_from begins p.parse m ts ≡ o' → o ≡ o'
  fuel-at n m ts a b None None f g = refl
  fuel-at n m ts a b (Some x) o' f g = sym (many-only m ts x.0 x.1 b (many-sound begins p e n ts (begins ts) refl x.0 x.1 f)) ∙ g
  fuel-at n m ts a b None (Some y) f g = sym f ∙ many-only n ts y.0 y.1 a (many-sound begins p e m ts (begins ts) refl y.0 y.1 g)

  pub fuel : (n m : ℕ) (ts : Lexemes) → length ts ≤ n → length ts ≤ m → many_from begins p.parse n ts ≡ many_from begins p.parse m ts
  fuel n m ts a b = fuel-at n m ts a b _ _ refl refl

  abbrev goes : Option (A × Lexemes) → Option (List A × Lexemes)
  goes o = and_then o (λ x. and_then ((many begins p).parse x.1) (λ xs. Some (x.0 ∷ xs.0, xs.1)))

  one_more : (n : ℕ) (ts : Lexemes) → length ts ≡ n → (o : Option (A × Lexemes)) → p.parse ts ≡ o → begins ts ≡ true → many_from begins p.parse n ts ≡ goes o
  one_more zero ts same None f b = ap (λ v. cond v None (Some ([], ts))) b
  one_more zero ts same (Some x) f b = absurd (let s = strict ts x.0 x.1 (e.sound ts x.0 x.1 f) in omega arith)
  one_more (suc n) ts same None f b = ap (λ v. cond v (more begins p n ts) (Some ([], ts))) b
      ∙ ap (λ o. and_then o (λ x. and_then (many_from begins p.parse n x.1) (λ xs. Some (x.0 ∷ xs.0, xs.1)))) f
  one_more (suc n) ts same (Some x) f b =
      let s = strict ts x.0 x.1 (e.sound ts x.0 x.1 f) in
      ap (λ v. cond v (more begins p n ts) (Some ([], ts))) b
      ∙ ap (λ o. and_then o (λ x. and_then (many_from begins p.parse n x.1) (λ xs. Some (x.0 ∷ xs.0, xs.1)))) f
      ∙ ap (λ o. and_then o (λ xs. Some (x.0 ∷ xs.0, xs.1))) (fuel n (length x.1) x.1 (omega arith) (omega arith))

  -- where it begins, one and then more; else none
  pub many-more : (ts : Lexemes) → begins ts ≡ true → (many begins p).parse ts ≡ goes (p.parse ts)
  many-more ts b = one_more (length ts) ts refl _ refl b

  no_more : (n : ℕ) (ts : Lexemes) → begins ts ≡ false → many_from begins p.parse n ts ≡ Some ([], ts)
  no_more zero ts b = ap (λ v. cond v None (Some ([], ts))) b
  no_more (suc n) ts b = ap (λ v. cond v (more begins p n ts) (Some ([], ts))) b

  pub many-none : (ts : Lexemes) → begins ts ≡ false → (many begins p).parse ts ≡ Some ([], ts)
  many-none ts b = no_more (length ts) ts b

  -- the loop that adds to a list
  pub onto-more : (front : List A) (ts : Lexemes) (x : A) (mid : Lexemes) → begins ts ≡ true → p.parse ts ≡ Some (x, mid)
      → onto front ((many begins p).parse ts) ≡ onto (front ++ (x ∷ [])) ((many begins p).parse mid)
  onto-more front ts x mid b f = ap (onto front) (many-more ts b ∙ ap goes f) ∙ onto-onto front x ((many begins p).parse mid)

  pub onto-fails : (front : List A) (ts : Lexemes) → begins ts ≡ true → p.parse ts ≡ None → onto front ((many begins p).parse ts) ≡ None
  onto-fails front ts b f = ap (onto front) (many-more ts b ∙ ap goes f)

  pub onto-none : (front : List A) (ts : Lexemes) → begins ts ≡ false → onto front ((many begins p).parse ts) ≡ Some (front, ts)
  onto-none front ts b = ap (onto front) (many-none ts b) ∙ ap (λ xs. Some (xs, ts)) (append-nil front)

-- ---- rules that take a lexeme at least

pub record Firm {A : Type 0} (p : Rule A) : Type 0 where
  pub exact : Exact p
  pub strict : Strict p

pub firm-one : {A : Type 0} (f : Lexeme → Option A) → Firm (one f)
firm-one f = record { exact = exact-one f; strict = λ ts x rest h. let l = ap length h.1 in omega arith }

pub firm-refuse : {A : Type 0} → Firm (refuse {A = A})
firm-refuse = record { exact = exact-refuse; strict = λ ts x rest h. absurd h }

pub firm-bind : {A B : Type 0} (p : Rule A) (f : A → Rule B) → Firm p → ((x : A) → Exact (f x)) → Firm (p >>= f)
firm-bind p f a e = record {
  exact = exact-bind p f a.exact e;
  strict = λ ts y rest h. let l = a.strict ts h.0 h.1 h.2 in let s = (e h.0).shorter h.1 y rest h.3 in omega arith;
}

pub firm-look : {A C : Type 0} (f : Lexemes → C) (k : C → Rule A) → ((c : C) → Firm (k c)) → Firm (look f k)
firm-look f k a = record { exact = exact-look f k (λ c. (a c).exact); strict = λ ts x rest h. (a (f ts)).strict ts x rest h }

pub firm-either : {A : Type 0} (p q : Rule A) → Firm p → Firm q → (b : Bool) → Firm (either p q b)
firm-either p q a c true = a
firm-either p q a c false = c

pub firm-where_it : {A : Type 0} (begins : Lexemes → Bool) (p q : Rule A) → Firm p → Firm q → Firm (where_it begins p q)
firm-where_it begins p q a c = firm-look begins (either p q) (firm-either p q a c)

-- ---- what is made of others

pub exact-where_it : {A : Type 0} (begins : Lexemes → Bool) (p q : Rule A) → Exact p → Exact q → Exact (where_it begins p q)
exact-where_it begins p q e f = exact-look begins (either p q) (exact-either p q e f)

-- as long as it begins, where each one takes a lexeme
pub exact-repeated : {A : Type 0} (begins : Lexemes → Bool) (p : Rule A) → Firm p → Exact (many begins p)
exact-repeated begins p a = exact-many begins p a.exact a.strict

pub exact-skip_many : (begins : Lexemes → Bool) (p : Rule (Unit {0})) → Firm p → Exact (skip_many begins p)
exact-skip_many begins p a = exact-bind _ _ (exact-repeated begins p a) (λ _. exact-pure _)

pub firm-comma : {A : Type 0} (p : Rule A) → Exact p → Firm (sign 44 >> p)
firm-comma p e = firm-bind _ _ (firm-one _) (λ _. e)

pub exact-further : {A : Type 0} (begins : Lexemes → Bool) (p : Rule A) → Exact p → Exact (further begins p)
exact-further begins p e = exact-repeated _ _ (firm-comma p e)

pub exact-some_listed : {A : Type 0} (begins : Lexemes → Bool) (p : Rule A) → Exact p → Exact (some_listed begins p)
exact-some_listed begins p e = exact-bind _ _ e (λ _. exact-bind _ _ (exact-further begins p e) (λ _. exact-pure _))

pub exact-listed : {A : Type 0} (begins : Lexemes → Bool) (p : Rule A) → Exact p → Exact (listed begins p)
exact-listed begins p e = exact-where_it _ _ _ (exact-some_listed begins p e) (exact-pure _)
