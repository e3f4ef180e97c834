-- Lexemes that a rule reads again as the value that they were written for, whatever follows them.
use Rattle.std.proofs.Common.{◌≡◌, ℕ, Bool, true, false, ◌||◌, [], ◌∷◌, ◌++◌, Option, Some, refl, sym, subst}
use Rattle.std.proofs.lemmas.List.{append_assoc}
use Rattle.ir_tokens.specs.Bytes.{Text, NotFirst, is_run_byte, is_quote, is_colon}
use Rattle.ir_tokens.specs.Tokens.{IsToken}
use Rattle.ir_tokens.specs.declared.token.TokenKind.{TokenKind}
use Rattle.ir_tokens.specs.declared.token.TokenKind.TheVariants as kind
use Rattle.ir_grammar.specs.Lexeme.{Lexeme, Lexemes}
use Rattle.ir_grammar.specs.Rule.{Rule, ◌>>=◌, pure, one, look, either, where_it}
use Rattle.ir_text.proofs.Gives.{Bytes}

-- ---- tokens that stay what they are

-- what would go on with a token, or make it another
abbrev pub goes_on : ℕ → Bool
goes_on b = (is_run_byte b || is_quote b) || is_colon b

-- a token of the kind ends here
abbrev pub Ends : TokenKind → Text → Type 0
Ends (kind.Sign b) rest = Unit {0}
Ends _ rest = NotFirst goes_on rest

-- its spelling is of bytes, and it is a token wherever it may end
abbrev pub Fixed : Lexeme → Type 0
Fixed l = Bytes l.1 × ((rest : Text) → Ends l.0 rest → IsToken l.0 l.1 rest)

abbrev pub AllFixed : Lexemes → Type 0
AllFixed [] = Unit {0}
AllFixed (l ∷ ls) = Fixed l × AllFixed ls

pub fixed-append : (a b : Lexemes) → AllFixed a → AllFixed b → AllFixed (a ++ b)
fixed-append [] b f g = g
fixed-append (l ∷ a) b f g = (f.0, fixed-append a b f.1 g)

-- ---- lexemes that are read again

-- a condition on what follows
abbrev pub Follow : Type 1
Follow = Lexemes → Type 0

abbrev pub Always : Follow
Always after = Unit {0}

pub record Back {A : Type 0} (p : Rule A) (a : Lexemes) (x : A) (F : Lexemes → Type 0) : Type 0 where
  pub fixed : AllFixed a
  pub again : (after : Lexemes) → F after → p.reads (a ++ after) x after

pub back-pure : {A : Type 0} (x : A) (F : Lexemes → Type 0) → Back (pure x) [] x F
back-pure x F = record { fixed = tt; again = λ after h. (refl, refl) }

pub back-one : {A : Type 0} (f : Lexeme → Option A) (l : Lexeme) (x : A) (F : Lexemes → Type 0) → Fixed l → f l ≡ Some x → Back (one f) (l ∷ []) x F
back-one f l x F i e = record { fixed = (i, tt); again = λ after h. (l, refl, e) }

-- a lexeme, and then more
pub back-step : {A B : Type 0} (f : Lexeme → Option A) (g : A → Rule B) (l : Lexeme) (x : A) (b : Lexemes) (y : B) (F : Lexemes → Type 0) → Fixed l
    → f l ≡ Some x → Back (g x) b y F → Back (one f >>= g) (l ∷ b) y F
back-step f g l x b y F i e k = record { fixed = (i, k.fixed); again = λ after h. (x, b ++ after, (l, refl, e), k.again after h) }

-- a part, and then more, of which the part is told
pub back-then_if : {A B : Type 0} (p : Rule A) (f : A → Rule B) (a : Lexemes) (x : A) (b : Lexemes) (y : B) (G F : Lexemes → Type 0)
    → Back p a x G → ((after : Lexemes) → F after → G (b ++ after)) → Back (f x) b y F → Back (p >>= f) (a ++ b) y F
back-then_if p f a x b y G F h t k = record {
  fixed = fixed-append a b h.fixed k.fixed;
  again = λ after c. (
    x,
    b ++ after,
    subst (λ ts. p.reads ts x (b ++ after)) (sym (append_assoc a b after)) (h.again (b ++ after) (t after c)),
    k.again after c,
  );
}

pub back-then : {A B : Type 0} (p : Rule A) (f : A → Rule B) (a : Lexemes) (x : A) (b : Lexemes) (y : B) (F : Lexemes → Type 0) → Back p a x Always
    → Back (f x) b y F → Back (p >>= f) (a ++ b) y F
back-then p f a x b y F h k = back-then_if p f a x b y Always F h (λ _ _. tt) k

-- a part, and the value is made of it
pub back-last : {A B : Type 0} (p : Rule A) (g : A → B) (a : Lexemes) (x : A) (F : Lexemes → Type 0) → Back p a x F → Back (p >>= (λ v. pure (g v))) a (g x) F
back-last p g a x F h = record { fixed = h.fixed; again = λ after c. (x, after, h.again after c, (refl, refl)) }

-- a part of which nothing is written
pub back-none : {B : Type 0} (q : Rule (Unit {0})) (f : Unit {0} → Rule B) (b : Lexemes) (y : B) (F : Lexemes → Type 0)
    → ((after : Lexemes) → F after → q.reads (b ++ after) tt (b ++ after)) → Back (f tt) b y F → Back (q >>= f) b y F
back-none q f b y F h k = record { fixed = k.fixed; again = λ after c. (tt, b ++ after, h after c, k.again after c) }

-- by what comes next
pub back-look : {A C : Type 0} (f : Lexemes → C) (k : C → Rule A) (s : C) (a : Lexemes) (x : A) (F : Lexemes → Type 0)
    → ((after : Lexemes) → F after → f (a ++ after) ≡ s) → Back (k s) a x F → Back (look f k) a x F
back-look f k s a x F e h = record { fixed = h.fixed; again = λ after c. subst (λ t. (k t).reads (a ++ after) x after) (sym (e after c)) (h.again after c) }

pub back-yes : {A : Type 0} (begins : Lexemes → Bool) (p q : Rule A) (a : Lexemes) (x : A) (F : Lexemes → Type 0)
    → ((after : Lexemes) → F after → begins (a ++ after) ≡ true) → Back p a x F → Back (where_it begins p q) a x F
back-yes begins p q a x F e h = back-look begins (either p q) true a x F e h

pub back-no : {A : Type 0} (begins : Lexemes → Bool) (p q : Rule A) (a : Lexemes) (x : A) (F : Lexemes → Type 0)
    → ((after : Lexemes) → F after → begins (a ++ after) ≡ false) → Back q a x F → Back (where_it begins p q) a x F
back-no begins p q a x F e h = back-look begins (either p q) false a x F e h

-- the same under a weaker condition
pub back-under : {A : Type 0} (p : Rule A) (a : Lexemes) (x : A) (F G : Lexemes → Type 0) → ((after : Lexemes) → F after → G after) → Back p a x G
    → Back p a x F
back-under p a x F G t h = record { fixed = h.fixed; again = λ after c. h.again after (t after c) }

-- the same lexemes, written otherwise
pub back-same : {A : Type 0} (p : Rule A) (a b : Lexemes) (x : A) (F : Lexemes → Type 0) → a ≡ b → Back p b x F → Back p a x F
back-same p a b x F e h = subst (λ c. Back p c x F) (sym e) h

pub back-any : {A : Type 0} (p : Rule A) (a : Lexemes) (x : A) (F : Lexemes → Type 0) → Back p a x Always → Back p a x F
back-any p a x F h = back-under p a x F Always (λ _ _. tt) h
