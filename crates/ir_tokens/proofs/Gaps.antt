-- Separators and comments, and what `skip` leaves of a text.
use Rattle.std.proofs.Common.{◌≡◌, ℕ, zero, suc, ◌≤◌, inl, inr, Bool, true, false, not, ◌==◌, [], ◌∷◌, ◌++◌, length, None, refl, sym, ap, ◌∙◌, subst, arith}
use Rattle.std.specs.List.{list_all}
use Rattle.std.proofs.lemmas.Bool.{eqb-true, cond_both, and_parts, and_from, or_cases, or_parts, cond-true, not-true, false_from_ne_true}
use Rattle.std.proofs.lemmas.List.{append_assoc}
use Rattle.ir_tokens.specs.declared.token.TokenKind.{TokenKind}
use Rattle.ir_tokens.specs.Bytes.{Text, Each, NotFirst, is_separator, is_line_feed, is_semicolon, is_run_byte, is_quote, is_sign, separators}
use Rattle.ir_tokens.specs.Tokens.{EndsLine, begins_gap, Skips, here, separator, comment, Spells}
use Rattle.ir_tokens.specs.Front.{marked_token, token, skip_from, skip}
use Rattle.ir_tokens.proofs.Classes.{one_of-passes}
use Rattle.ir_tokens.proofs.Reached.{Reaches, reaches}

-- ---- a comment

-- the text of an open comment, cut at the end of its line
record Comment (text : Text) : Type 0 where
  pub body : Text
  pub after : Text
  pub whole : text ≡ body ++ after
  pub inside : Each (λ b. not (is_line_feed b)) body
  pub ends : EndsLine after
  pub goes_on : skip_from true text ≡ skip_from false after
  pub shorter : length after ≤ length text

-- a byte 10 ends a comment, and is a separator
skip_from-line_feed : (b : ℕ) (text : Text) → is_line_feed b ≡ true → skip_from true (b ∷ text) ≡ skip_from false (b ∷ text)
skip_from-line_feed b text e = subst (λ d. skip_from true (d ∷ text) ≡ skip_from false (d ∷ text)) (sym (eqb-true b 10 e)) refl

comment_at : (b : ℕ) (text : Text) (v : Bool) → is_line_feed b ≡ v → Comment text → Comment (b ∷ text)
comment_at b text true e c = record {
  body = [];
  after = b ∷ text;
  whole = refl;
  inside = refl;
  ends = e;
  goes_on = skip_from-line_feed b text e;
  shorter =
      omega arith;
}
comment_at b text false e c = record {
  body = b ∷ c.body;
  after = c.after;
  whole = ap (λ t. b ∷ t) c.whole;
  inside = and_from _ _ (ap not e) c.inside;
  ends = c.ends;
  goes_on = ap (λ v. skip_from (not v) text) e ∙ c.goes_on;
  shorter = let h = c.shorter in omega arith;
}

comment_of : (text : Text) → Comment text
comment_of [] = record { body = []; after = []; whole = refl; inside = refl; ends = tt; goes_on = refl; shorter = omega arith }
comment_of (b ∷ text) = comment_at b text (is_line_feed b) refl (comment_of text)

-- ---- what `skip` leaves

pub record Skipped (text rest : Text) : Type 0 where
  pub skips : Skips rest text
  pub stops : NotFirst begins_gap rest
  pub shorter : length rest ≤ length text

Skipped-separator : (b : ℕ) (text rest : Text) → is_separator b ≡ true → Skipped text rest → Skipped (b ∷ text) rest
Skipped-separator b text rest e s = record { skips = separator b text e s.skips; stops = s.stops; shorter = let h = s.shorter in omega arith }

Skipped-comment : (b : ℕ) (text : Text) (c : Comment text) → is_semicolon b ≡ true → Skipped c.after (skip_from false c.after)
    → Skipped (b ∷ text) (skip_from true text)
Skipped-comment b text c e s =
    let whole : 59 ∷ (c.body ++ c.after) ≡ b ∷ text = ap (λ t. 59 ∷ t) (sym c.whole) ∙ ap (λ d. d ∷ text) (sym (eqb-true b 59 e)) in
    subst (Skipped (b ∷ text)) (sym c.goes_on) (record {
      skips = subst (Skips (skip_from false c.after)) whole (comment c.body c.after c.inside c.ends s.skips);
      stops = s.stops;
      shorter = let h = s.shorter in let k = c.shorter in omega arith;
    })

-- by the number of bytes
skipped_within : (n : ℕ) (text : Text) → length text ≤ n → Skipped text (skip_from false text)
skipped_within n [] h = record { skips = here; stops = tt; shorter = omega arith }
skipped_within zero (b ∷ text) h = absurd (omega arith)
skipped_within (suc n) (b ∷ text) h = cond_both (is_separator b) _ _ (Skipped (b ∷ text))
    (λ e. Skipped-separator b text (skip_from false text) e (skipped_within n text (omega arith)))
    (λ e. cond_both (is_semicolon b) _ _ (Skipped (b ∷ text))
    (λ s. let c = comment_of text in Skipped-comment b text c s (skipped_within n c.after (let k = c.shorter in omega arith)))
    (λ s. record { skips = here; stops = rw (e, s) refl; shorter = omega arith }))

pub skip-Skipped : (text : Text) → Skipped text (skip text)
unfolding skip
skip-Skipped text = skipped_within (length text) text (omega arith)

-- ---- nothing else is left

skip_from-stops : (rest : Text) → NotFirst begins_gap rest → skip_from false rest ≡ rest
skip_from-stops [] h = refl
skip_from-stops (b ∷ text) h = let both = or_parts (is_separator b) (is_semicolon b) h in rw (both.0, both.1) refl

skip_from-comment : (body text : Text) → Each (λ b. not (is_line_feed b)) body → EndsLine text → skip_from true (body ++ text) ≡ skip_from false text
skip_from-comment [] [] e n = refl
skip_from-comment [] (b ∷ text) e n = skip_from-line_feed b text n
skip_from-comment (b ∷ body) text e n =
    let both = and_parts (not (is_line_feed b)) (list_all (λ b. not (is_line_feed b)) body) e in
    ap (λ v. skip_from v (body ++ text)) both.0 ∙ skip_from-comment body text both.1 n

skip_from-Skips : (rest text : Text) → Skips rest text → NotFirst begins_gap rest → skip_from false text ≡ rest
skip_from-Skips rest _ here h = skip_from-stops rest h
skip_from-Skips rest _ (separator b text e s) h = cond-true (is_separator b) _ _ e ∙ skip_from-Skips rest text s h
skip_from-Skips rest _ (comment body text e n s) h = skip_from-comment body text e n ∙ skip_from-Skips rest text s h

pub skip-Skips : (rest text : Text) → Skips rest text → NotFirst begins_gap rest → skip text ≡ rest
unfolding skip
skip-Skips = skip_from-Skips

-- two ends of one gap are one
pub Skips-same : (text x y : Text) → Skips x text → NotFirst begins_gap x → Skips y text → NotFirst begins_gap y → x ≡ y
Skips-same text x y a p b q = sym (skip-Skips x text a p) ∙ skip-Skips y text b q

-- a gap has a length
pub Skips-front : (rest text : Text) → Skips rest text → (gap : Text) × (text ≡ gap ++ rest)
Skips-front rest _ here = ([], refl)
Skips-front rest _ (separator b text e s) = let f = Skips-front rest text s in (b ∷ f.0, ap (λ t. b ∷ t) f.1)
Skips-front rest _ (comment body text e n s) =
    let f = Skips-front rest text s in (59 ∷ (body ++ f.0), ap (λ t. 59 ∷ (body ++ t)) f.1 ∙ ap (λ t. 59 ∷ t) (sym (append_assoc body f.0 rest)))

-- ---- no token begins as a gap does

separator_first : (p : ℕ → Bool) (b : ℕ) → begins_gap b ≡ true → list_all (λ c. not (p c)) separators ≡ true → p 59 ≡ false → p b ≡ false
separator_first p b h all semicolon = elim (or_cases (is_separator b) (is_semicolon b) h) [
  | inl e ↦ not-true _ (one_of-passes (λ c. not (p c)) separators b all e)
  | inr e ↦ ap p (eqb-true b 59 e) ∙ semicolon
]

token-gap : (b : ℕ) (text : Text) → begins_gap b ≡ true → token (b ∷ text) ≡ None
unfolding token marked_token
token-gap b text h =
    rw (
      separator_first is_run_byte b h refl refl,
      separator_first is_quote b h refl refl,
      separator_first (λ c. c == 37) b h refl refl,
      separator_first (λ c. c == 64) b h refl refl,
      separator_first (λ c. c == 35) b h refl refl,
      separator_first (λ c. c == 33) b h refl refl,
      separator_first is_sign b h refl refl,
    ) refl

stops_at : (k : TokenKind) (n : ℕ) (text : Text) → Reaches k n (token text) → NotFirst begins_gap text
stops_at k n [] r = tt
stops_at k n (b ∷ text) r = false_from_ne_true (begins_gap b) (λ e. subst (Reaches k n) (token-gap b text e) r)

pub Spells-stops : (k : TokenKind) (s rest : Text) → Spells k s rest → NotFirst begins_gap (s ++ rest)
Spells-stops k s rest spells = stops_at k (length s) (s ++ rest) (reaches k s rest spells)
