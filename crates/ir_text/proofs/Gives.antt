-- What holds of each value that a rule reads from the tokens of a text, and that bytes are left of it.
use Rattle.std.proofs.Common.{◌≡◌, ℕ, Bool, true, false, nat_lt, List, [], ◌∷◌, ◌++◌, Option, Some, sym, subst}
use Rattle.ir_tokens.specs.Bytes.{Text, Each}
use Rattle.ir_grammar.specs.Lexeme.{Lexeme, Lexemes}
use Rattle.ir_grammar.specs.Rule.{Rule, ◌>>=◌, pure, refuse, one, look, either, where_it, many, ReadsMany, skip_many, further, some_listed, listed}
use Rattle.ir_grammar.specs.Groups.{group_closed_by}
use Rattle.ir_text.specs.ReadBack.{EachOf, SomeOf}

-- each number of the text is a byte
abbrev pub Bytes : Text → Type 0
Bytes s = Each (λ b. nat_lt b 256) s

abbrev pub AllBytes : Lexemes → Type 0
AllBytes [] = Unit {0}
AllBytes (l ∷ ls) = Bytes l.1 × AllBytes ls

pub record Gives {A : Type 0} (p : Rule A) (P : A → Type 0) : Type 0 where
  pub gives : (ts : Lexemes) (x : A) (rest : Lexemes) → AllBytes ts → p.reads ts x rest → P x × AllBytes rest

-- nothing is said of the value
abbrev pub Any : {A : Type 0} → A → Type 0
Any x = Unit {0}

pub gives-bind : {A B : Type 0} (p : Rule A) (f : A → Rule B) (P : A → Type 0) (Q : B → Type 0) → Gives p P → ((x : A) → P x → Gives (f x) Q)
    → Gives (p >>= f) Q
gives-bind p f P Q g h = record { gives = λ ts y rest k r. let a = g.gives ts r.0 r.1 k r.2 in (h r.0 a.0).gives r.1 y rest a.1 r.3 }

pub gives-map : {A : Type 0} (p : Rule A) (P Q : A → Type 0) → ((x : A) → P x → Q x) → Gives p P → Gives p Q
gives-map p P Q f g = record { gives = λ ts x rest k r. let a = g.gives ts x rest k r in (f x a.0, a.1) }

pub gives-pure : {A : Type 0} (x : A) (P : A → Type 0) → P x → Gives (pure x) P
gives-pure x P h = record { gives = λ ts y rest k r. (subst P (sym r.0) h, subst AllBytes (sym r.1) k) }

pub gives-one : {A : Type 0} (f : Lexeme → Option A) (P : A → Type 0) → ((l : Lexeme) (x : A) → Bytes l.1 → f l ≡ Some x → P x) → Gives (one f) P
gives-one f P h = record { gives = λ ts x rest k r. let b = subst AllBytes r.1 k in (h r.0 x b.0 r.2, b.1) }

pub gives-refuse : {A : Type 0} (P : A → Type 0) → Gives (refuse {A = A}) P
gives-refuse P = record { gives = λ ts x rest k r. absurd r }

pub gives-look : {A C : Type 0} (f : Lexemes → C) (k : C → Rule A) (P : A → Type 0) → ((c : C) → Gives (k c) P) → Gives (look f k) P
gives-look f k P g = record { gives = λ ts x rest b r. (g (f ts)).gives ts x rest b r }

gives-either : {A : Type 0} (p q : Rule A) (P : A → Type 0) → Gives p P → Gives q P → (b : Bool) → Gives (either p q b) P
gives-either p q P g h true = g
gives-either p q P g h false = h

pub gives-where_it : {A : Type 0} (begins : Lexemes → Bool) (p q : Rule A) (P : A → Type 0) → Gives p P → Gives q P → Gives (where_it begins p q) P
gives-where_it begins p q P g h = gives-look begins (either p q) P (gives-either p q P g h)

module _ {A : Type 0} (begins : Lexemes → Bool) (p : Rule A) (P : A → Type 0) (g : Gives p P) where
  each : (ts : Lexemes) (xs : List A) (rest : Lexemes) → AllBytes ts → ReadsMany begins p ts xs rest → EachOf P xs × AllBytes rest
  each ts [] rest k (b, e) = (tt, subst AllBytes (sym e) k)
  each ts (x ∷ xs) rest k (b, mid, r, m) = let a = g.gives ts x mid k r in let c = each mid xs rest a.1 m in ((a.0, c.0), c.1)

  pub gives-many : Gives (many begins p) (EachOf P)
  gives-many = record { gives = each }

pub gives-further : {A : Type 0} (begins : Lexemes → Bool) (p : Rule A) (P : A → Type 0) → Gives p P → Gives (further begins p) (EachOf P)
gives-further begins p P g = gives-many _ _ P (gives-bind _ _ Any P (gives-one _ Any (λ _ _ _ _. tt)) (λ _ _. g))

pub gives-some_listed : {A : Type 0} (begins : Lexemes → Bool) (p : Rule A) (P : A → Type 0) → Gives p P → Gives (some_listed begins p) (SomeOf P)
gives-some_listed begins p P g = gives-bind _ _ P (SomeOf P) g (λ x a. gives-bind _ _ (EachOf P) (SomeOf P) (gives-further begins p P g)
    (λ xs b. gives-pure _ (SomeOf P) (a, b)))

pub gives-listed : {A : Type 0} (begins : Lexemes → Bool) (p : Rule A) (P : A → Type 0) → Gives p P → Gives (listed begins p) (EachOf P)
gives-listed begins p P g = gives-where_it begins _ _ (EachOf P) (gives-map (some_listed begins p) (SomeOf P) (EachOf P) (some_of P)
    (gives-some_listed begins p P g)) (gives-pure _ (EachOf P) tt) where
      some_of : {A : Type 0} (P : A → Type 0) (xs : List A) → SomeOf P xs → EachOf P xs
      some_of P [] h = tt
      some_of P (x ∷ xs) h = h

-- ---- nothing is said of the value

pub any-one : {A : Type 0} (f : Lexeme → Option A) → Gives (one f) Any
any-one f = gives-one f Any (λ _ _ _ _. tt)

pub any-bind : {A B : Type 0} (p : Rule A) (f : A → Rule B) → Gives p Any → ((x : A) → Gives (f x) Any) → Gives (p >>= f) Any
any-bind p f g h = gives-bind p f Any Any g (λ x _. h x)

pub any-pure : {A : Type 0} (x : A) → Gives (pure x) Any
any-pure x = gives-pure x Any tt

pub any-where_it : {A : Type 0} (begins : Lexemes → Bool) (p q : Rule A) → Gives p Any → Gives q Any → Gives (where_it begins p q) Any
any-where_it begins p q g h = gives-where_it begins p q Any g h

pub any-skip_many : (begins : Lexemes → Bool) (p : Rule (Unit {0})) → Gives p Any → Gives (skip_many begins p) Any
any-skip_many begins p g = gives-bind _ _ (EachOf Any) Any (gives-many begins p Any g) (λ _ _. any-pure tt)

behind-bytes : (a b : Lexemes) → AllBytes (a ++ b) → AllBytes b
behind-bytes [] b k = k
behind-bytes (l ∷ a) b k = behind-bytes a b k.1

pub any-group : (class : ℕ → Bool) → Gives (group_closed_by class) Any
any-group class = record { gives = λ ts x rest k g. (tt, (behind-bytes g.body (g.last ∷ rest) (subst AllBytes g.whole k).1).1) }
