-- Rules of a grammar. Each has a meaning, a relation, and a way to read it. `proofs/` shows for each rule of the grammar that the two are the same.
use Rattle.std.specs.Prelude.{◌≡◌, ℕ, zero, suc, Bool, true, false, if◌then◌else◌, ◌&&◌, List, [], ◌∷◌, ◌++◌, length, Option, Some, None}
use Rattle.ir_grammar.specs.Lexeme.{Lexeme, Lexemes, sees_sign, behind}

pub record Rule (A : Type 0) : Type 1 where
  -- the lexemes begin with a spelling of the value, and the last ones are left
  pub reads : Lexemes → A → Lexemes → Type 0
  pub parse : Lexemes → Option (A × Lexemes)

abbrev pub and_then : {A B : Type 0} → Option A → (A → Option B) → Option B
and_then None f = None
and_then (Some x) f = f x

-- one after the other
infixl 10 ◌>>=◌
abbrev pub ◌>>=◌ : {A B : Type 0} → Rule A → (A → Rule B) → Rule B
◌>>=◌ {A} {B} p f = record {
  reads = λ ts y rest. (x : A) × (mid : Lexemes) × p.reads ts x mid × (f x).reads mid y rest;
  parse = λ ts. and_then (p.parse ts) (λ x. (f x.0).parse x.1);
}

infixl 10 ◌>>◌
abbrev pub ◌>>◌ : {A B : Type 0} → Rule A → Rule B → Rule B
p >> q = p >>= (λ _. q)

-- nothing, for this value
abbrev pub pure : {A : Type 0} → A → Rule A
pure x = record { reads = λ ts y rest. (y ≡ x) × (rest ≡ ts); parse = λ ts. Some (x, ts) }

abbrev pub refuse : {A : Type 0} → Rule A
refuse = record { reads = λ ts y rest. ⊥; parse = λ ts. None }

abbrev pub take_first : {A : Type 0} → (Lexeme → Option A) → Lexemes → Option (A × Lexemes)
take_first f [] = None
take_first f (l ∷ ts) = and_then (f l) (λ x. Some (x, ts))

-- the next lexeme, where it has a value
abbrev pub one : {A : Type 0} → (Lexeme → Option A) → Rule A
one f = record { reads = λ ts x rest. (l : Lexeme) × (ts ≡ l ∷ rest) × (f l ≡ Some x); parse = take_first f }

-- any lexeme
abbrev pub next : Rule (Unit {0})
next = one (λ l. Some tt)

-- the rule that what comes next decides, which takes none of it
abbrev pub look : {A C : Type 0} → (Lexemes → C) → (C → Rule A) → Rule A
look f k = record { reads = λ ts x rest. (k (f ts)).reads ts x rest; parse = λ ts. (k (f ts)).parse ts }

abbrev pub either : {A : Type 0} → Rule A → Rule A → Bool → Rule A
either p q true = p
either p q false = q

-- the first rule where the test holds of what comes next, and else the second
abbrev pub where_it : {A : Type 0} → (Lexemes → Bool) → Rule A → Rule A → Rule A
where_it begins p q = look begins (either p q)

abbrev pub ReadsMany : {A : Type 0} → (Lexemes → Bool) → Rule A → Lexemes → List A → Lexemes → Type 0
ReadsMany begins p ts [] rest = (begins ts ≡ false) × (rest ≡ ts)
ReadsMany begins p ts (x ∷ xs) rest = (begins ts ≡ true) × (mid : Lexemes) × p.reads ts x mid × ReadsMany begins p mid xs rest

abbrev pub many_from : {A : Type 0} → (Lexemes → Bool) → (Lexemes → Option (A × Lexemes)) → ℕ → Lexemes → Option (List A × Lexemes)
many_from begins p zero ts = if begins ts then None else Some ([], ts)
many_from begins p (suc n) ts = if begins ts then and_then (p ts) (λ x. and_then (many_from begins p n x.1) (λ xs. Some (x.0 ∷ xs.0, xs.1))) else Some ([], ts)

-- the rule again and again, as long as it begins
abbrev pub many : {A : Type 0} → (Lexemes → Bool) → Rule A → Rule (List A)
many begins p = record { reads = ReadsMany begins p; parse = λ ts. many_from begins p.parse (length ts) ts }

-- the same, of which no value is kept
abbrev pub skip_many : (Lexemes → Bool) → Rule (Unit {0}) → Rule (Unit {0})
skip_many begins p = many begins p >> pure tt

-- ---- lists with commas

abbrev pub sign_of : ℕ → Lexeme → Option (Unit {0})
sign_of b l = if sees_sign b (l ∷ []) then Some tt else None

-- the sign with this byte
abbrev pub sign : ℕ → Rule (Unit {0})
sign b = one (sign_of b)

-- a comma comes next, and what follows it begins so
abbrev pub comma_then : (Lexemes → Bool) → Lexemes → Bool
comma_then begins ts = sees_sign 44 ts && begins (behind ts)

-- , X, .. as long as a comma comes and an X begins after it
abbrev pub further : {A : Type 0} → (Lexemes → Bool) → Rule A → Rule (List A)
further begins p = many (comma_then begins) (sign 44 >> p)

-- X (, X)*
abbrev pub some_listed : {A : Type 0} → (Lexemes → Bool) → Rule A → Rule (List A)
some_listed begins p = do
  first ← p
  others ← further begins p
  pure (first ∷ others)

-- X,*
abbrev pub listed : {A : Type 0} → (Lexemes → Bool) → Rule A → Rule (List A)
listed begins p = where_it begins (some_listed begins p) (pure [])

-- ---- readings of a loop

-- the same list after some values that were read before
abbrev pub onto : {A : Type 0} → List A → Option (List A × Lexemes) → Option (List A × Lexemes)
onto front o = and_then o (λ xs. Some (front ++ xs.0, xs.1))
