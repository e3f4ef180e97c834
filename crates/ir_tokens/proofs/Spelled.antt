-- What `token` finds at the front is spelled there.
use Rattle.std.proofs.Common.{◌≡◌, ℕ, zero, suc, ◌+◌, ◌<◌, ◌⊎◌, inl, inr, true, false, not, ◌&&◌, ◌==◌, [], ◌∷◌, ◌++◌, length, take, drop, Some, None, refl}
use Rattle.std.proofs.Common.{sym, ap, ◌∙◌, subst, arith, nat_lt, get_or}
use Rattle.std.specs.Char.{is_ascii_digit}
use Rattle.std.specs.List.{prefix_len}
use Rattle.std.proofs.lemmas.Bool.{eqb-true, cond_both, and_parts, and_from, or_cases, or_left, or_right, not-true, not-false, ltb-true, lt-ltb}
use Rattle.std.proofs.lemmas.List.{append_assoc, take-append-drop, length-append, take_more}
use Rattle.std.proofs.Math.Seq.{drop-append_seam}
use Rattle.std.proofs.lemmas.List.Folds.{length-prefix_len}
use Rattle.std.proofs.lemmas.List.Sums.{prefix_len_stops}
use Rattle.ir_tokens.specs.declared.token.TokenKind.{TokenKind}
use Rattle.ir_tokens.specs.declared.token.TokenKind.TheVariants as kind
use Rattle.ir_tokens.specs.Bytes.{Text, NotFirst, is_run_byte, is_meta_byte, is_sign, is_quote, is_colon, begins}
use Rattle.ir_tokens.specs.Tokens.{IsRun, IsSomeRun, IsDigits, IsSmallNumber, IsNumber, IsQuoted, IsName, IsLabelName, Spells, is_digits, is_small_number}
use Rattle.ir_tokens.specs.Front.{Found, is_number, is_name, is_label_name, run_len, body_len, quoted_len, name_len, behind_mark, is_c, run_kind, run_token}
use Rattle.ir_tokens.specs.Front.{quoted_token, marked_token, token}
use Rattle.ir_tokens.proofs.Classes.{begins-NotFirst, Front, Front-map, Front-cons, prefix-front, prefix-run}

-- text begins with a token of the kind, n bytes long
pub record Piece (text : Text) (k : TokenKind) (n : ℕ) : Type 0 where
  pub some : 0 < n
  pub front : Front (Spells k) text n

abbrev pub Fits : Text → Found → Type 0
Fits text None = Unit {0}
Fits text (Some t) = Piece text t.0 t.1

-- ---- digits

pub is_digits-IsDigits : (s : Text) → is_digits s ≡ true → IsDigits s
is_digits-IsDigits s e = let both = and_parts _ _ e in record { some = ltb-true _ _ both.0; whole = both.1 }

pub IsDigits-is_digits : (s : Text) → IsDigits s → is_digits s ≡ true
IsDigits-is_digits s d = and_from _ _ (lt-ltb _ _ d.some) d.whole

pub is_number-IsNumber : (s : Text) → is_number s ≡ true → IsNumber s
is_number-IsNumber [] e = cc
is_number-IsNumber (b ∷ s) e = elim (or_cases _ _ e) [
  | inl h ↦ inl (is_digits-IsDigits (b ∷ s) h)
  | inr h ↦ let both = and_parts _ _ h in inr (s, ap (λ c. c ∷ s) (eqb-true b 45 both.0), is_digits-IsDigits s both.1)
]

minus-is_number : (s digits : Text) → s ≡ 45 ∷ digits → is_digits digits ≡ true → is_number s ≡ true
minus-is_number s digits e h = rw e (or_right (is_digits (45 ∷ digits)) _ h)

pub IsNumber-is_number : (s : Text) → IsNumber s → is_number s ≡ true
IsNumber-is_number [] (inl d) = IsDigits-is_digits [] d
IsNumber-is_number (b ∷ s) (inl d) = or_left _ _ (IsDigits-is_digits (b ∷ s) d)
IsNumber-is_number s (inr (digits, e, d)) = minus-is_number s digits e (IsDigits-is_digits digits d)

pub is_small_number-IsSmallNumber : (s : Text) → is_small_number s ≡ true → IsSmallNumber s
unfolding is_small_number
is_small_number-IsSmallNumber s e = let both = and_parts _ _ e in record { digits = is_digits-IsDigits s both.0; small = ltb-true _ _ both.1 }

pub IsSmallNumber-is_small_number : (s : Text) → IsSmallNumber s → is_small_number s ≡ true
unfolding is_small_number
IsSmallNumber-is_small_number s h = and_from _ _ (IsDigits-is_digits s h.digits) (lt-ltb _ _ h.small)

is_name-spelled : (s : Text) → is_name s ≡ true → IsSmallNumber s ⊎ NotFirst is_ascii_digit s
is_name-spelled s e = elim (or_cases _ _ e) [
  | inl h ↦ inl (is_small_number-IsSmallNumber s h)
  | inr h ↦ inr (begins-NotFirst is_ascii_digit s (not-true _ h))
]

is_label_name-spelled : (s : Text) → is_label_name s ≡ true → IsSmallNumber s ⊎ (IsDigits s → ⊥)
is_label_name-spelled s e = elim (or_cases _ _ e) [
  | inl h ↦ inl (is_small_number-IsSmallNumber s h)
  | inr h ↦ inr (λ d. let no = not-true _ h in let yes = IsDigits-is_digits s d in cc)
]

-- ---- parts of a token

-- the text is the bytes of a body up to the quote that ends it
closed : (text : Text) → body_len text < length text → take (body_len text + 1) text ≡ take (body_len text) text ++ (34 ∷ [])
closed text h =
    let stop : get_or text (body_len text) 0 ≡ 34 = eqb-true _ 34 (not-false _ (prefix_len_stops (λ b. not (is_quote b)) text 0 h)) in
    take_more text (body_len text) 0 h ∙ ap (λ b. take (body_len text) text ++ (b ∷ [])) stop

quoted_at : (b : ℕ) (text : Text) → is_quote b ≡ true → body_len text < length text → Front (λ s rest. IsQuoted s) (b ∷ text) (body_len text + 2)
quoted_at b text q h =
    let n = body_len text in
    let e : n + 2 ≡ suc (n + 1) = omega arith in
    rw e (record {
      s = b ∷ take (n + 1) text;
      rest = drop (n + 1) text;
      whole = ap (λ t. b ∷ t) (sym (take-append-drop (n + 1) text));
      counts = rw (closed text h) (simp (length-append, length-prefix_len (λ b. not (is_quote b)) text) (omega arith));
      has = record {
        body = take n text;
        inside = (prefix-run (λ b. not (is_quote b)) text).whole;
        spelled = ap (λ c. c ∷ take (n + 1) text) (eqb-true b 34 q)
            ∙ ap (λ t. 34 ∷ t) (closed text h);
      };
    })

pub quoted-front : (text : Text) → 0 < quoted_len text → Front (λ s rest. IsQuoted s) text (quoted_len text)
unfolding quoted_len
quoted-front [] h = absurd (omega arith)
quoted-front (b ∷ text) h = cond_both (is_quote b && nat_lt (body_len text) (length text)) (body_len text + 2) 0
    (λ n. 0 < n → Front (λ s rest. IsQuoted s) (b ∷ text) n)
    (λ both lt. let p = and_parts _ _ both in quoted_at b text p.0 (ltb-true _ _ p.1)) (λ _ lt. absurd (omega arith)) h

name-front : (text : Text) → 0 < name_len text → Front IsName text (name_len text)
unfolding name_len
name-front text h = cond_both (begins is_quote text) (quoted_len text) _ (λ n. 0 < n → Front IsName text n)
    (λ _ lt. Front-map _ IsName text _ (λ s rest q. inr q) (quoted-front text lt))
    (λ _. cond_both (is_name (take (run_len text) text)) (run_len text) 0 (λ n. 0 < n → Front IsName text n)
    (λ is lt. record {
      s = take (run_len text) text;
      rest = drop (run_len text) text;
      whole = sym (take-append-drop (run_len text) text);
      counts = length-prefix_len is_run_byte text;
      has = inl (record { some = rw (length-prefix_len is_run_byte text) lt; run = prefix-run is_run_byte text }, is_name-spelled _ is);
    })
    (λ _ lt. absurd (omega arith))) h

-- ---- marks

behind_mark-fits : (P : Text → Text → Type 0) (b : ℕ) (k : TokenKind) (text : Text) (n : ℕ) → ((s rest : Text) → P s rest → Spells k (b ∷ s) rest)
    → (0 < n → Front P text n) → Fits (b ∷ text) (behind_mark k n)
behind_mark-fits P b k text n f front = cond_both (nat_lt 0 n) (Some (k, n + 1)) None (Fits (b ∷ text))
    (λ lt. record { some = omega arith; front = Front-cons P (Spells k) b text n f (front (ltb-true 0 n lt)) }) (λ _. tt)

digits-front : (text : Text) → 0 < prefix_len is_ascii_digit text → Front (IsSomeRun is_ascii_digit) text (prefix_len is_ascii_digit text)
digits-front text h = let a = prefix-front is_ascii_digit text in
    record { s = a.s; rest = a.rest; whole = a.whole; counts = a.counts; has = record { some = let c = a.counts in omega arith; run = a.has } }

-- a fact of a byte that passes `b == c`, from the fact of c
at_byte : (P : ℕ → Type 0) (b c : ℕ) → (b == c) ≡ true → P c → P b
at_byte P b c e h = subst P (sym (eqb-true b c e)) h

marked-fits : (b : ℕ) (text : Text) → Fits (b ∷ text) (marked_token b text)
unfolding marked_token
marked-fits b text =
    cond_both (b == 37) _ _ (Fits (b ∷ text)) (λ e. at_byte (λ c. Fits (c ∷ text) (behind_mark kind.Local (name_len text))) b 37 e
    (behind_mark-fits IsName 37 kind.Local text _ (λ s rest i. (s, refl, i)) (name-front text)))
    (λ _. cond_both (b == 64) _ _ (Fits (b ∷ text)) (λ e. at_byte (λ c. Fits (c ∷ text) (behind_mark kind.Global (name_len text))) b 64 e
    (behind_mark-fits IsName 64 kind.Global text _ (λ s rest i. (s, refl, i)) (name-front text)))
    (λ _. cond_both (b == 35) _ _ (Fits (b ∷ text)) (λ e. at_byte (λ c. Fits (c ∷ text) (behind_mark kind.Hash (prefix_len is_ascii_digit text))) b 35 e
    (behind_mark-fits (IsSomeRun is_ascii_digit) 35 kind.Hash text _ (λ s rest i. (s, refl, i)) (digits-front text)))
    (λ _. cond_both (b == 33) _ _ (Fits (b ∷ text)) (λ e. at_byte (λ c. Fits (c ∷ text) (Some (kind.Meta, prefix_len is_meta_byte text + 1))) b 33 e
    (record {
      some = omega arith;
      front = Front-cons (IsRun is_meta_byte) (Spells kind.Meta) 33 text _ (λ s rest i. (s, refl, i))
          (prefix-front is_meta_byte text);
    }))
    (λ _. cond_both (is_sign b) (Some (kind.Sign b, 1)) None (Fits (b ∷ text))
    (λ s. record { some = omega arith; front = record { s = b ∷ []; rest = text; whole = refl; counts = refl; has = (refl, s) } }) (λ _. tt)))))

-- ---- runs and quoted texts, and the labels that they begin

-- a colon follows, and belongs to the token
label-piece : (s rest : Text) → begins is_colon rest ≡ true → IsLabelName s rest → Piece (s ++ rest) kind.Label (length s + 1)
label-piece s [] e i = cc
label-piece s (b ∷ rest) e i =
    let same : b ∷ rest ≡ 58 ∷ rest = ap (λ c. c ∷ rest) (eqb-true b 58 e) in
    record {
      some = omega arith;
      front = record {
        s = s ++ (58 ∷ []);
        rest = rest;
        whole = ap (λ t. s ++ t) same ∙ sym (append_assoc s (58 ∷ []) rest);
        counts = simp length-append;
        has = (s, refl, subst (IsLabelName s) same i);
      };
    }

pub is_c-spelled : (s : Text) → is_c s ≡ true → s ≡ 99 ∷ []
is_c-spelled [] e = cc
is_c-spelled (b ∷ []) e = ap (λ c. c ∷ []) (eqb-true b 99 e)
is_c-spelled (b ∷ (c ∷ s)) e = cc

run_kind-spelled : (s rest : Text) → IsSomeRun is_run_byte s rest → Spells (run_kind s) s rest
run_kind-spelled s rest r = cond_both (is_number s) kind.Number kind.Word (λ k. Spells k s rest)
    (λ e. (r, is_number-IsNumber s e)) (λ e. (r, λ n. let yes = IsNumber-is_number s n in cc))

run_token-piece : (s rest : Text) → IsSomeRun is_run_byte s rest → Fits (s ++ rest) (Some (run_token s rest))
unfolding run_token
run_token-piece s rest r =
    cond_both (begins is_colon rest && is_label_name s) _ _ (λ t. Fits (s ++ rest) (Some t))
    (λ e. let both = and_parts _ _ e in label-piece s rest both.0 (inl (r, is_label_name-spelled s both.1)))
    (λ _. cond_both (is_c s && nat_lt 0 (quoted_len rest)) _ _ (λ t. Fits (s ++ rest) (Some t))
    (λ e. let both = and_parts _ _ e in
    subst (λ t. Piece (t ++ rest) kind.CString (quoted_len rest + 1)) (sym (is_c-spelled s both.0))
    (record {
      some = omega arith;
      front = Front-cons (λ s rest. IsQuoted s) (Spells kind.CString) 99 rest _ (λ s rest q. (s, refl, q))
          (quoted-front rest (ltb-true _ _ both.1));
    }))
    (λ _. record { some = r.some; front = record { s = s; rest = rest; whole = refl; counts = refl; has = run_kind-spelled s rest r } }))

quoted_token-fits : (s rest : Text) (n : ℕ) → length s ≡ n → IsQuoted s → Fits (s ++ rest) (quoted_token n rest)
unfolding quoted_token
quoted_token-fits s rest n c q = cond_both (nat_lt 0 n) _ None (Fits (s ++ rest))
    (λ lt. cond_both (begins is_colon rest) (Some (kind.Label, n + 1)) (Some (kind.Quoted, n)) (Fits (s ++ rest))
    (λ e. subst (λ m. Piece (s ++ rest) kind.Label (m + 1)) c (label-piece s rest e (inr q)))
    (λ _. record { some = ltb-true 0 n lt; front = record { s = s; rest = rest; whole = refl; counts = c; has = q } }))
    (λ _. tt)

-- ---- the front

run_at_front : (text : Text) → 0 < run_len text → Fits text (Some (run_token (take (run_len text) text) (drop (run_len text) text)))
run_at_front text h =
    subst (λ t. Fits t (Some (run_token (take (run_len text) text) (drop (run_len text) text)))) (take-append-drop (run_len text) text)
    (run_token-piece _ _ (record { some = rw (length-prefix_len is_run_byte text) h; run = prefix-run is_run_byte text }))

some_run : (b : ℕ) (text : Text) → is_run_byte b ≡ true → 0 < run_len (b ∷ text)
some_run b text h = rw h (omega arith)

-- at a byte 34 that begins no quoted text nothing is found
quoted_at_front : (text : Text) (n : ℕ) → (0 < n → Front (λ s rest. IsQuoted s) text n) → Fits text (quoted_token n (drop n text))
unfolding quoted_token
quoted_at_front text zero f = tt
quoted_at_front text (suc n) f =
    let a = f (omega arith) in
    let back : drop (suc n) text ≡ a.rest = ap (λ m. drop m text) (sym a.counts) ∙ ap (λ t. drop (length a.s) t) a.whole ∙ drop-append_seam a.s a.rest in
    rw back (subst (λ t. Fits t (quoted_token (suc n) a.rest)) (sym a.whole) (quoted_token-fits a.s a.rest (suc n) a.counts a.has))

pub token-fits : (text : Text) → Fits text (token text)
unfolding token
token-fits [] = tt
token-fits (b ∷ text) =
    cond_both (is_run_byte b) _ _ (Fits (b ∷ text)) (λ h. run_at_front (b ∷ text) (some_run b text h))
    (λ _. cond_both (is_quote b) _ _ (Fits (b ∷ text)) (λ _. quoted_at_front (b ∷ text) (quoted_len (b ∷ text)) (quoted-front (b ∷ text)))
    (λ _. marked-fits b text))
