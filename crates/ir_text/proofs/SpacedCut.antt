-- Lexemes with their gaps are cut into exactly these lexemes.
use Rattle.std.proofs.Common.{◌≡◌, ℕ, ◌+◌, ◌-◌, inl, inr, Bool, true, false, ◌&&◌, ◌||◌, ◌==◌, List, [], ◌∷◌, ◌++◌, length, take, drop, refl, sym, ap, ◌∙◌}
use Rattle.std.proofs.Common.{subst, arith, eqb-true}
use Rattle.std.proofs.lemmas.Bool.{and_parts, or_cases, cond_both}
use Rattle.std.proofs.lemmas.List.{append_assoc, append-nil, length-append}
use Rattle.std.proofs.Math.Seq.{take-append_seam, drop-append_seam}
use Rattle.ir_tokens.specs.Bytes.{Text, NotFirst}
use Rattle.ir_tokens.specs.Tokens.{Skips, here, separator, comment, IsToken, Begins, HasTokens, spelling}
use Rattle.ir_tokens.specs.declared.token.Token.{Token}
use Rattle.ir_tokens.specs.declared.token.TokenKind.{TokenKind}
use Rattle.ir_tokens.specs.declared.token.TokenKind.TheVariants as kind
use Rattle.ir_tokens.proofs.Gaps.{Skips-front}
use Rattle.ir_grammar.specs.Lexeme.{Lexeme, Lexemes, lexemes}
use Rattle.ir_text.specs.Lines.{is_open, is_closing, is_tight, gap, spaced_behind, spaced}
use Rattle.ir_text.proofs.Gives.{Bytes}
use Rattle.ir_text.proofs.Back.{goes_on, Ends, Fixed, AllFixed}
use Rattle.ir_text.proofs.FixedTokens.{bytes-append}

-- ---- a text and its lexemes, with what stands between them

unfoldable pub Cut : Lexemes → Text → Type 0
Cut [] text = Skips [] text
Cut (l ∷ ls) text = (after : Text) × Skips (l.1 ++ after) text × IsToken l.0 l.1 after × Cut ls after

skips-skips : (rest mid text : Text) → Skips rest mid → Skips mid text → Skips rest text
skips-skips rest mid _ h here = h
skips-skips rest mid _ h (separator b text e s) = separator b text e (skips-skips rest mid text h s)
skips-skips rest mid _ h (comment body text each ends s) = comment body text each ends (skips-skips rest mid text h s)

pub cut-skips : (ls : Lexemes) (mid text : Text) → Skips mid text → Cut ls mid → Cut ls text
unfolding Cut
cut-skips [] mid text s c = skips-skips [] mid text c s
cut-skips (l ∷ ls) mid text s (after, t, i, more) = (after, skips-skips (l.1 ++ after) mid text t s, i, more)

-- ---- the places of the tokens

record Placed (whole text : Text) (ls : Lexemes) : Type 0 where
  pub tokens : List Token
  pub rest : Text
  pub begins : Begins (length whole) text tokens rest
  pub ends : Skips [] rest
  pub same : lexemes whole tokens ≡ ls

token_at : (whole s after : Text) (k : TokenKind) → Token
token_at whole s after k = record { kind = k; from = length whole - length (s ++ after); to = length whole - length after }

spelling-at : (whole front s after : Text) (k : TokenKind) → whole ≡ front ++ (s ++ after) → spelling whole (token_at whole s after k) ≡ s
unfolding token_at
spelling-at whole front s after k e =
    let len : length whole ≡ length front + length (s ++ after) = ap length e ∙ length-append front (s ++ after) in
    let two = length-append s after in
    let from : length whole - length (s ++ after) ≡ length front = omega arith in
    let count : (length whole - length after) - (length whole - length (s ++ after)) ≡ length s = omega arith in
    ap (λ m. take m (drop (length whole - length (s ++ after)) whole)) count ∙ ap (λ m. take (length s) (drop m whole)) from
    ∙ ap (λ w. take (length s) (drop (length front) w)) e ∙ ap (λ w. take (length s) w) (drop-append_seam front (s ++ after)) ∙ take-append_seam s after

placed : (whole front text : Text) (ls : Lexemes) → whole ≡ front ++ text → Cut ls text → Placed whole text ls
unfolding Cut token_at
placed whole front text [] e c = record { tokens = []; rest = text; begins = refl; ends = c; same = refl }
placed whole front text (l ∷ ls) e (after, s, i, c) =
    let gap = Skips-front (l.1 ++ after) text s in
    let ahead : whole ≡ (front ++ gap.0) ++ (l.1 ++ after) = e ∙ ap (λ w. front ++ w) gap.1 ∙ sym (append_assoc front gap.0 (l.1 ++ after)) in
    let r = placed whole ((front ++ gap.0) ++ l.1) after ls (ahead ∙ sym (append_assoc (front ++ gap.0) l.1 after)) c in
    let len : length whole ≡ length (front ++ gap.0) + length (l.1 ++ after) = ap length ahead ∙ length-append (front ++ gap.0) (l.1 ++ after) in
    let two = length-append l.1 after in
    record {
      tokens = token_at whole l.1 after l.0 ∷ r.tokens;
      rest = r.rest;
      begins = (l.1, after, s, i, omega arith, omega arith, r.begins);
      ends = r.ends;
      same = ap (λ t. (l.0, t) ∷ lexemes whole r.tokens) (spelling-at whole (front ++ gap.0) l.1 after l.0 ahead) ∙ ap (λ more. l ∷ more) r.same;
    }

pub cut-tokens : (text : Text) (ls : Lexemes) → Cut ls text → (ts : List Token) × HasTokens text ts × (lexemes text ts ≡ ls)
cut-tokens text ls c = let p = placed text [] text ls refl c in (p.tokens, (p.rest, p.begins, p.ends), p.same)

-- ---- one line

-- a fixed sign is spelled by its byte
sign-spelled : (b : ℕ) (s : Text) → Fixed (kind.Sign b, s) → s ≡ b ∷ []
sign-spelled b s f = (f.1 [] tt).spelled.0

sign-ends : (b : ℕ) (s after : Text) → Fixed (kind.Sign b, s) → goes_on b ≡ false → NotFirst goes_on (s ++ after)
sign-ends b s after f g = subst (λ t. NotFirst goes_on (t ++ after)) (sym (sign-spelled b s f)) g

byte-ends : (b c : ℕ) → (b == c) ≡ true → goes_on c ≡ false → goes_on b ≡ false
byte-ends b c e g = ap goes_on (eqb-true b c e) ∙ g

-- `,`, `)` and `(` end any token
closing-ends : (m : Lexeme) (v : Bool) (after : Text) → Fixed m → (is_closing m.0 || (v && is_open m.0)) ≡ true → NotFirst goes_on (m.1 ++ after)
closing-ends (kind.Sign b, s) v after f e = sign-ends b s after f (elim (or_cases (b == 44 || b == 41) (v && (b == 40)) e) [
  | inl h ↦ elim (or_cases (b == 44) (b == 41) h) [ inl c ↦ byte-ends b 44 c refl | inr c ↦ byte-ends b 41 c refl ]
  | inr h ↦ byte-ends b 40 (and_parts v (b == 40) h).1 refl
])
closing-ends (kind.Local, s) v after f e = let both = and_parts v false e in cc
closing-ends (kind.Global, s) v after f e = let both = and_parts v false e in cc
closing-ends (kind.Label, s) v after f e = let both = and_parts v false e in cc
closing-ends (kind.CString, s) v after f e = let both = and_parts v false e in cc
closing-ends (kind.Quoted, s) v after f e = let both = and_parts v false e in cc
closing-ends (kind.Number, s) v after f e = let both = and_parts v false e in cc
closing-ends (kind.Word, s) v after f e = let both = and_parts v false e in cc
closing-ends (kind.Hash, s) v after f e = let both = and_parts v false e in cc
closing-ends (kind.Meta, s) v after f e = let both = and_parts v false e in cc

-- where nothing stands between two tokens, the second one ends the first
tight-ends : (k : TokenKind) (m : Lexeme) (after : Text) → Fixed m → is_tight k m.0 ≡ true → Ends k (m.1 ++ after)
tight-ends (kind.Sign b) m after f e = tt
tight-ends kind.Local m after f e = closing-ends m false after f e
tight-ends kind.Global m after f e = closing-ends m true after f e
tight-ends kind.Label m after f e = closing-ends m false after f e
tight-ends kind.CString m after f e = closing-ends m false after f e
tight-ends kind.Quoted m after f e = closing-ends m false after f e
tight-ends kind.Number m after f e = closing-ends m false after f e
tight-ends kind.Word m after f e = closing-ends m false after f e
tight-ends kind.Hash m after f e = closing-ends m false after f e
tight-ends kind.Meta m after f e = closing-ends m false after f e

ends-all : (k : TokenKind) (rest : Text) → NotFirst goes_on rest → Ends k rest
ends-all (kind.Sign b) rest h = tt
ends-all kind.Local rest h = h
ends-all kind.Global rest h = h
ends-all kind.Label rest h = h
ends-all kind.CString rest h = h
ends-all kind.Quoted rest h = h
ends-all kind.Number rest h = h
ends-all kind.Word rest h = h
ends-all kind.Hash rest h = h
ends-all kind.Meta rest h = h

-- what stands behind a token of a line ends it
behind-ends : (k : TokenKind) (ms : Lexemes) (tail : Text) → AllFixed ms → NotFirst goes_on tail → Ends k (spaced_behind k ms ++ tail)
behind-ends k [] tail fs h = ends-all k tail h
behind-ends k (m ∷ ms) tail (f, fs) h = cond_both (is_tight k m.0) [] (32 ∷ []) (λ g. Ends k ((g ++ (m.1 ++ spaced_behind m.0 ms)) ++ tail))
    (λ e. subst (Ends k) (sym (append_assoc m.1 (spaced_behind m.0 ms) tail)) (tight-ends k m (spaced_behind m.0 ms ++ tail) f e))
    (λ _. ends-all k _ refl)

gap-skips : (k m : TokenKind) (z : Text) → Skips z (gap k m ++ z)
gap-skips k m z = cond_both (is_tight k m) [] (32 ∷ []) (λ g. Skips z (g ++ z)) (λ _. here) (λ _. separator 32 z refl here)

cut-behind : (k : TokenKind) (ms : Lexemes) (tail : Text) (more : Lexemes) → AllFixed ms → NotFirst goes_on tail → Cut more tail
    → Cut (ms ++ more) (spaced_behind k ms ++ tail)
unfolding Cut
cut-behind k [] tail more fs h c = c
cut-behind k (m ∷ ms) tail more (f, fs) h c =
    let after = spaced_behind m.0 ms ++ tail in
    let apart : (gap k m.0 ++ (m.1 ++ spaced_behind m.0 ms)) ++ tail ≡ gap k m.0 ++ (m.1 ++ after) = append_assoc (gap k m.0)
    (m.1 ++ spaced_behind m.0 ms) tail ∙ ap (λ z. gap k m.0 ++ z) (append_assoc m.1 (spaced_behind m.0 ms) tail) in (
      after,
      subst (Skips (m.1 ++ after)) (sym apart) (gap-skips k m.0 (m.1 ++ after)),
      f.1 after (behind-ends m.0 ms tail fs h),
      cut-behind m.0 ms tail more fs h c,
    )

pub cut-spaced : (ls : Lexemes) (tail : Text) (more : Lexemes) → AllFixed ls → NotFirst goes_on tail → Cut more tail → Cut (ls ++ more) (spaced ls ++ tail)
unfolding Cut
cut-spaced [] tail more fs h c = c
cut-spaced (l ∷ ls) tail more (f, fs) h c =
    let after = spaced_behind l.0 ls ++ tail in (
      after,
      subst (Skips (l.1 ++ after)) (sym (append_assoc l.1 (spaced_behind l.0 ls) tail)) here,
      f.1 after (behind-ends l.0 ls tail fs h),
      cut-behind l.0 ls tail more fs h c,
    )

-- alone
pub cut-alone : (ls : Lexemes) → AllFixed ls → Cut ls (spaced ls)
unfolding Cut
cut-alone ls fs = subst (λ ms. Cut ms (spaced ls)) (append-nil ls) (subst (Cut (ls ++ [])) (append-nil (spaced ls)) (cut-spaced ls [] [] fs tt here))

-- ---- their bytes

behind-bytes : (k : TokenKind) (ls : Lexemes) → AllFixed ls → Bytes (spaced_behind k ls)
behind-bytes k [] fs = refl
behind-bytes k (l ∷ ls) (f, fs) = bytes-append (gap k l.0) (l.1 ++ spaced_behind l.0 ls)
    (cond_both (is_tight k l.0) [] (32 ∷ []) Bytes (λ _. refl) (λ _. refl)) (bytes-append l.1 (spaced_behind l.0 ls) f.0 (behind-bytes l.0 ls fs))

pub spaced-bytes : (ls : Lexemes) → AllFixed ls → Bytes (spaced ls)
spaced-bytes [] fs = refl
spaced-bytes (l ∷ ls) (f, fs) = bytes-append l.1 (spaced_behind l.0 ls) f.0 (behind-bytes l.0 ls fs)
