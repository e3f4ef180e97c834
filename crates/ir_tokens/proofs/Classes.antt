-- Sequences of bytes of one class at the front of a text.
use Rattle.std.proofs.Common.{◌≡◌, ℕ, suc, ◌+◌, inl, inr, Bool, true, false, ◌==◌, [], ◌∷◌, ◌++◌, length, take, drop, refl, sym, ap, arith}
use Rattle.std.specs.List.{prefix_len, list_all}
use Rattle.std.proofs.lemmas.Bool.{eqb-true, cond_both, and_parts, and_from, or_cases, false_from_ne_true}
use Rattle.std.proofs.lemmas.List.{take-append-drop}
use Rattle.std.proofs.lemmas.List.Folds.{length-prefix_len}
use Rattle.ir_tokens.specs.Bytes.{Text, Each, NotFirst, begins, is_one_of}
use Rattle.ir_tokens.specs.Tokens.{IsRun}

-- ---- a text begins with n bytes of which a fact holds, with what follows them

pub record Front (P : Text → Text → Type 0) (text : Text) (n : ℕ) : Type 0 where
  pub s : Text
  pub rest : Text
  pub whole : text ≡ s ++ rest
  pub counts : length s ≡ n
  pub has : P s rest

pub Front-map : (P Q : Text → Text → Type 0) (text : Text) (n : ℕ) → ((s rest : Text) → P s rest → Q s rest) → Front P text n → Front Q text n
Front-map P Q text n f a = record { s = a.s; rest = a.rest; whole = a.whole; counts = a.counts; has = f a.s a.rest a.has }

-- one byte more before them
pub Front-cons : (P Q : Text → Text → Type 0) (b : ℕ) (text : Text) (n : ℕ) → ((s rest : Text) → P s rest → Q (b ∷ s) rest) → Front P text n
    → Front Q (b ∷ text) (n + 1)
Front-cons P Q b text n f a =
    let c = a.counts in record { s = b ∷ a.s; rest = a.rest; whole = ap (λ t. b ∷ t) a.whole; counts = omega arith; has = f a.s a.rest a.has }

-- ---- the longest sequence of a class

Each-prefix : (p : ℕ → Bool) (text : Text) → Each p (take (prefix_len p text) text)
Each-prefix p [] = refl
Each-prefix p (b ∷ text) = cond_both (p b) (1 + prefix_len p text) 0 (λ n. Each p (take n (b ∷ text)))
    (λ h. let e : 1 + prefix_len p text ≡ suc (prefix_len p text) = omega arith in rw e (and_from _ _ h (Each-prefix p text))) (λ _. refl)

NotFirst-prefix : (p : ℕ → Bool) (text : Text) → NotFirst p (drop (prefix_len p text) text)
NotFirst-prefix p [] = tt
NotFirst-prefix p (b ∷ text) = cond_both (p b) (1 + prefix_len p text) 0 (λ n. NotFirst p (drop n (b ∷ text)))
    (λ h. let e : 1 + prefix_len p text ≡ suc (prefix_len p text) = omega arith in rw e (NotFirst-prefix p text)) (λ h. h)

pub prefix-run : (p : ℕ → Bool) (text : Text) → IsRun p (take (prefix_len p text) text) (drop (prefix_len p text) text)
prefix-run p text = record { whole = Each-prefix p text; ends = NotFirst-prefix p text }

pub prefix-front : (p : ℕ → Bool) (text : Text) → Front (IsRun p) text (prefix_len p text)
prefix-front p text = record {
  s = take (prefix_len p text) text;
  rest = drop (prefix_len p text) text;
  whole =
      sym (take-append-drop (prefix_len p text) text);
  counts = length-prefix_len p text;
  has = prefix-run p text;
}

pub prefix_len-run : (p : ℕ → Bool) (s rest : Text) → IsRun p s rest → prefix_len p (s ++ rest) ≡ length s
prefix_len-run p [] [] r = refl
prefix_len-run p [] (b ∷ rest) r = rw (r.ends) refl
prefix_len-run p (b ∷ s) rest r = let both = and_parts (p b) (list_all p s) r.whole in
    rw (both.0) (omega (arith, prefix_len-run p s rest (record { whole = both.1; ends = r.ends })))

-- ---- classes that are apart

-- each byte of a list passes a test that the whole list passes
pub one_of-passes : (p : ℕ → Bool) (cs : Text) (b : ℕ) → list_all p cs ≡ true → is_one_of cs b ≡ true → p b ≡ true
one_of-passes p [] b h e = cc
one_of-passes p (c ∷ cs) b h e =
    let both = and_parts (p c) (list_all p cs) h in elim (or_cases (b == c) (is_one_of cs b) e) [
      | inl same ↦ rw (eqb-true b c same)
          (both.0)
      | inr more ↦ one_of-passes p cs b both.1 more
    ]

-- a byte of the class isn't one outside it
pub eqb-other : (p : ℕ → Bool) (b c : ℕ) → p b ≡ true → p c ≡ false → (b == c) ≡ false
eqb-other p b c h g = false_from_ne_true (b == c) (λ e. let same : b ≡ c = eqb-true b c e in cc)

-- ---- the first byte

pub begins-NotFirst : (class : ℕ → Bool) (s : Text) → begins class s ≡ false → NotFirst class s
begins-NotFirst class [] h = tt
begins-NotFirst class (b ∷ s) h = h

pub NotFirst-begins : (class : ℕ → Bool) (s : Text) → NotFirst class s → begins class s ≡ false
NotFirst-begins class [] h = refl
NotFirst-begins class (b ∷ s) h = h
