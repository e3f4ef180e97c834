-- What is spelled at the front, `token` finds, or else a longer token.
use Rattle.std.proofs.Common.{◌≡◌, ℕ, ◌+◌, ◌<◌, ◌⊎◌, inl, inr, true, false, not, ◌&&◌, ◌==◌, cond, [], ◌∷◌, ◌++◌, length, take, drop, Some, None, refl, sym, ap}
use Rattle.std.proofs.Common.{◌∙◌, subst, arith, nat_lt}
use Rattle.std.specs.Char.{is_ascii_digit}
use Rattle.std.specs.List.{list_all}
use Rattle.std.proofs.lemmas.Bool.{cond_both, cond-true, and_parts, or_left, or_right, not-true, not_from_false, false_from_ne_true, lt-ltb, ltb-true}
use Rattle.std.proofs.lemmas.List.{append_assoc, length-append}
use Rattle.std.proofs.Math.Seq.{take-append_seam, drop-append_seam}
use Rattle.ir_tokens.specs.declared.token.TokenKind.{TokenKind}
use Rattle.ir_tokens.specs.declared.token.TokenKind.TheVariants as kind
use Rattle.ir_tokens.specs.Bytes.{Text, Each, NotFirst, is_run_byte, is_meta_byte, is_sign, is_quote, is_colon, signs, begins}
use Rattle.ir_tokens.specs.Tokens.{IsRun, IsSomeRun, IsDigits, IsSmallNumber, IsNumber, IsQuoted, IsName, IsLabelName, Spells, is_small_number}
use Rattle.ir_tokens.specs.Front.{Found, is_number, is_name, is_label_name, run_len, body_len, quoted_len, name_len, behind_mark, is_c, run_kind, run_token}
use Rattle.ir_tokens.specs.Front.{quoted_token, marked_token, token}
use Rattle.ir_tokens.proofs.Classes.{NotFirst-begins, prefix_len-run, one_of-passes, eqb-other}
use Rattle.ir_tokens.proofs.Spelled.{is_number-IsNumber, IsNumber-is_number, is_digits-IsDigits, IsSmallNumber-is_small_number, is_c-spelled}

-- what was found is a token of the kind and of n bytes, or else a longer one
abbrev pub Reaches : TokenKind → ℕ → Found → Type 0
Reaches k n None = ⊥
Reaches k n (Some t) = ((t.0 ≡ k) × (t.1 ≡ n)) ⊎ (n < t.1)

-- ---- parts of a token

IsQuoted-apart : (s rest : Text) (q : IsQuoted s) → s ++ rest ≡ 34 ∷ (q.body ++ (34 ∷ rest))
IsQuoted-apart s rest q = ap (λ t. t ++ rest) q.spelled ∙ ap (λ t. 34 ∷ t) (append_assoc q.body (34 ∷ []) rest)

length-IsQuoted : (s : Text) (q : IsQuoted s) → length s ≡ length q.body + 2
length-IsQuoted s q = ap length q.spelled ∙ simp length-append (omega arith)

quoted_len-body : (body rest : Text) → Each (λ b. not (is_quote b)) body → quoted_len (34 ∷ (body ++ (34 ∷ rest))) ≡ length body + 2
unfolding quoted_len
quoted_len-body body rest e =
    let text = body ++ (34 ∷ rest) in
    let len : body_len text ≡ length body = prefix_len-run (λ b. not (is_quote b)) body (34 ∷ rest) (record { whole = e; ends = refl }) in
    let longer : length body < length text = simp length-append (omega arith) in
    rw (len, lt-ltb _ _ longer) refl

pub quoted_len-IsQuoted : (s rest : Text) → IsQuoted s → quoted_len (s ++ rest) ≡ length s
quoted_len-IsQuoted s rest q = ap quoted_len (IsQuoted-apart s rest q) ∙ quoted_len-body q.body rest q.inside ∙ sym (length-IsQuoted s q)

some_quoted : (s : Text) → IsQuoted s → 0 < length s
some_quoted s q = let c = length-IsQuoted s q in omega arith

IsName-is_name : (s : Text) → IsSmallNumber s ⊎ NotFirst is_ascii_digit s → is_name s ≡ true
IsName-is_name s (inl n) = or_left _ _ (IsSmallNumber-is_small_number s n)
IsName-is_name s (inr h) = or_right (is_small_number s) _ (not_from_false _ (NotFirst-begins is_ascii_digit s h))

IsLabelName-is_label_name : (s : Text) → IsSmallNumber s ⊎ (IsDigits s → ⊥) → is_label_name s ≡ true
IsLabelName-is_label_name s (inl n) = or_left _ _ (IsSmallNumber-is_small_number s n)
IsLabelName-is_label_name s (inr h) = or_right (is_small_number s) _ (not_from_false _ (false_from_ne_true _ (λ e. h (is_digits-IsDigits s e))))

-- a run byte isn't a quote
run_byte-no_quote : (s rest : Text) → IsSomeRun is_run_byte s rest → begins is_quote (s ++ rest) ≡ false
run_byte-no_quote [] rest r = absurd (let h = r.some in omega arith)
run_byte-no_quote (b ∷ s) rest r = eqb-other is_run_byte b 34 (and_parts (is_run_byte b) (list_all is_run_byte s) r.run.whole).0 refl

name_len-run : (s rest : Text) → IsSomeRun is_run_byte s rest → is_name s ≡ true → name_len (s ++ rest) ≡ length s
unfolding name_len
name_len-run s rest r h =
    rw (run_byte-no_quote s rest r, prefix_len-run is_run_byte s rest r.run, take-append_seam s rest, h) refl

name_len-quoted : (s rest : Text) → IsQuoted s → name_len (s ++ rest) ≡ length s
unfolding name_len
name_len-quoted s rest q =
    ap (λ t. cond (begins is_quote t) (quoted_len (s ++ rest)) (cond (is_name (take (run_len (s ++ rest)) (s ++ rest))) (run_len (s ++ rest)) 0))
    (IsQuoted-apart s rest q)
    ∙ quoted_len-IsQuoted s rest q

pub name_len-IsName : (s rest : Text) → IsName s rest → name_len (s ++ rest) ≡ length s
name_len-IsName s rest (inl (r, h)) = name_len-run s rest r (IsName-is_name s h)
name_len-IsName s rest (inr q) = name_len-quoted s rest q

some_name : (s rest : Text) → IsName s rest → 0 < length s
some_name s rest (inl (r, h)) = r.some
some_name s rest (inr q) = some_quoted s q

-- ---- the front

-- a run at the front
pub token-run : (s rest : Text) → IsSomeRun is_run_byte s rest → token (s ++ rest) ≡ Some (run_token s rest)
unfolding token
token-run [] rest r = absurd (let h = r.some in omega arith)
token-run (b ∷ s) rest r =
    let first : is_run_byte b ≡ true = (and_parts (is_run_byte b) (list_all is_run_byte s) r.run.whole).0 in
    cond-true (is_run_byte b) _ _ first
    ∙ ap (λ n. Some (run_token (take n (b ∷ (s ++ rest))) (drop n (b ∷ (s ++ rest))))) (prefix_len-run is_run_byte (b ∷ s) rest r.run)
    ∙ ap (λ t. Some (run_token t (drop (length (b ∷ s)) (b ∷ (s ++ rest))))) (take-append_seam (b ∷ s) rest)
    ∙ ap (λ t. Some (run_token (b ∷ s) t)) (drop-append_seam (b ∷ s) rest)

token_at_quote : (text : Text) → token (34 ∷ text) ≡ quoted_token (quoted_len (34 ∷ text)) (drop (quoted_len (34 ∷ text)) (34 ∷ text))
unfolding token
token_at_quote text = refl

-- a quoted text at the front
pub token-quoted : (s rest : Text) → IsQuoted s → token (s ++ rest) ≡ quoted_token (length s) rest
token-quoted s rest q =
    ap token (IsQuoted-apart s rest q) ∙ token_at_quote (q.body ++ (34 ∷ rest))
    ∙ ap (λ t. quoted_token (quoted_len t) (drop (quoted_len t) t)) (sym (IsQuoted-apart s rest q))
    ∙ ap (λ n. quoted_token n (drop n (s ++ rest))) (quoted_len-IsQuoted s rest q)
    ∙ ap (λ t. quoted_token (length s) t) (drop-append_seam s rest)

behind_mark-some : (k : TokenKind) (n m : ℕ) → n ≡ m → 0 < m → behind_mark k n ≡ Some (k, m + 1)
behind_mark-some k n m e h = rw (e, lt-ltb 0 m h) refl

pub token-local : (name rest : Text) → IsName name rest → token (37 ∷ (name ++ rest)) ≡ Some (kind.Local, length name + 1)
unfolding token marked_token
token-local name rest i = behind_mark-some kind.Local _ _ (name_len-IsName name rest i) (some_name name rest i)

pub token-global : (name rest : Text) → IsName name rest → token (64 ∷ (name ++ rest)) ≡ Some (kind.Global, length name + 1)
unfolding token marked_token
token-global name rest i = behind_mark-some kind.Global _ _ (name_len-IsName name rest i) (some_name name rest i)

token-hash : (digits rest : Text) → IsSomeRun is_ascii_digit digits rest → token (35 ∷ (digits ++ rest)) ≡ Some (kind.Hash, length digits + 1)
unfolding token marked_token
token-hash digits rest i = behind_mark-some kind.Hash _ _ (prefix_len-run is_ascii_digit digits rest i.run) i.some

token-meta : (name rest : Text) → IsRun is_meta_byte name rest → token (33 ∷ (name ++ rest)) ≡ Some (kind.Meta, length name + 1)
unfolding token marked_token
token-meta name rest i = ap (λ n. Some (kind.Meta, n + 1)) (prefix_len-run is_meta_byte name rest i)

-- a sign is no run byte, quote or mark
pub token-sign : (b : ℕ) (rest : Text) → is_sign b ≡ true → token (b ∷ rest) ≡ Some (kind.Sign b, 1)
unfolding token marked_token
token-sign b rest h =
    let no : (c : ℕ) → list_all (λ d. not (d == c)) signs ≡ true → (b == c) ≡ false = λ c all. not-true _ (one_of-passes (λ d. not (d == c)) signs b all h) in
    rw (not-true _ (one_of-passes (λ d. not (is_run_byte d)) signs b refl h), no 34 refl, no 37 refl, no 64 refl, no 35 refl, no 33 refl, h) refl

-- ---- each spelling

by_equal : (k : TokenKind) (n : ℕ) (f g : Found) → f ≡ g → Reaches k n g → Reaches k n f
by_equal k n f g e h = subst (Reaches k n) (sym e) h

-- a run that nothing longer begins with is of its kind
run_token-reaches : (k : TokenKind) (s rest : Text) → run_kind s ≡ k → Reaches k (length s) (Some (run_token s rest))
unfolding run_token
run_token-reaches k s rest e =
    cond_both (begins is_colon rest && is_label_name s) _ _ (λ t. Reaches k (length s) (Some t)) (λ _. inr (omega arith))
    (λ _. cond_both (is_c s && nat_lt 0 (quoted_len rest)) _ _ (λ t. Reaches k (length s) (Some t))
    (λ h. let both = and_parts _ _ h in let one = ap length (is_c-spelled s both.0) in let more = ltb-true _ _ both.1 in inr (omega arith))
    (λ _. inl (e, refl)))

quoted_token-reaches : (n : ℕ) (rest : Text) → 0 < n → Reaches kind.Quoted n (quoted_token n rest)
unfolding quoted_token
quoted_token-reaches n rest h = rw (lt-ltb 0 n h)
    (cond_both (begins is_colon rest) (Some (kind.Label, n + 1)) (Some (kind.Quoted, n)) (Reaches kind.Quoted n) (λ _. inr (omega arith))
    (λ _. inl (refl, refl)))

run_label : (s rest : Text) → is_label_name s ≡ true → run_token s (58 ∷ rest) ≡ (kind.Label, length s + 1)
unfolding run_token
run_label s rest h = rw h refl

quoted_label : (n : ℕ) (rest : Text) → 0 < n → quoted_token n (58 ∷ rest) ≡ Some (kind.Label, n + 1)
unfolding quoted_token
quoted_label n rest h = rw (lt-ltb 0 n h) refl

pub token-label : (name rest : Text) → IsLabelName name (58 ∷ rest) → token (name ++ (58 ∷ rest)) ≡ Some (kind.Label, length name + 1)
token-label name rest (inl (r, h)) = token-run name (58 ∷ rest) r ∙ ap (λ t. Some t) (run_label name rest (IsLabelName-is_label_name name h))
token-label name rest (inr q) = token-quoted name (58 ∷ rest) q ∙ quoted_label (length name) rest (some_quoted name q)

c_string : (rest : Text) → begins is_colon rest ≡ false → 0 < quoted_len rest → run_token (99 ∷ []) rest ≡ (kind.CString, quoted_len rest + 1)
unfolding run_token
c_string rest h some = rw (h, lt-ltb 0 _ some) refl

pub token-c : (s rest : Text) → IsQuoted s → token (99 ∷ (s ++ rest)) ≡ Some (kind.CString, length s + 1)
token-c s rest q =
    let apart = IsQuoted-apart s rest q in
    let len = quoted_len-IsQuoted s rest q in
    let r : IsSomeRun is_run_byte (99 ∷ []) (s ++ rest) = record {
      some = omega arith;
      run =
          record { whole = refl; ends = subst (NotFirst is_run_byte) (sym apart) refl };
    } in
    let some = some_quoted s q in
    token-run (99 ∷ []) (s ++ rest) r
    ∙ ap (λ t. Some t) (c_string (s ++ rest) (subst (λ t. begins is_colon t ≡ false) (sym apart) refl) (omega arith))
    ∙ ap (λ n. Some (kind.CString, n + 1)) len

-- a token of one byte more than the name behind its mark
mark-reaches : (k : TokenKind) (s name rest : Text) (b : ℕ) → s ≡ b ∷ name → token (b ∷ (name ++ rest)) ≡ Some (k, length name + 1)
    → Reaches k (length s) (token (s ++ rest))
mark-reaches k s name rest b e found = by_equal k (length s) _ (Some (k, length name + 1)) (ap (λ t. token (t ++ rest)) e ∙ found)
    (inl (refl, rw e (omega arith)))

label-reaches : (s name rest : Text) → s ≡ name ++ (58 ∷ []) → IsLabelName name (58 ∷ rest) → Reaches kind.Label (length s) (token (s ++ rest))
label-reaches s name rest e i = by_equal kind.Label (length s) _ (Some (kind.Label, length name + 1))
    (ap token (ap (λ t. t ++ rest) e ∙ append_assoc name (58 ∷ []) rest) ∙ token-label name rest i) (inl (refl, rw e (simp length-append)))

run_kind-number : (s : Text) → IsNumber s → run_kind s ≡ kind.Number
run_kind-number s n = rw (IsNumber-is_number s n) refl

run_kind-word : (s : Text) → (IsNumber s → ⊥) → run_kind s ≡ kind.Word
run_kind-word s n = cond_both (is_number s) kind.Number kind.Word (λ k. k ≡ kind.Word) (λ e. absurd (n (is_number-IsNumber s e))) (λ _. refl)

pub reaches : (k : TokenKind) (s rest : Text) → Spells k s rest → Reaches k (length s) (token (s ++ rest))
reaches kind.Local s rest (name, e, i) = mark-reaches kind.Local s name rest 37 e (token-local name rest i)
reaches kind.Global s rest (name, e, i) = mark-reaches kind.Global s name rest 64 e (token-global name rest i)
reaches kind.Label s rest (name, e, i) = label-reaches s name rest e i
reaches kind.CString s rest (quoted, e, q) = mark-reaches kind.CString s quoted rest 99 e (token-c quoted rest q)
reaches kind.Quoted s rest q = by_equal kind.Quoted (length s) _ _ (token-quoted s rest q) (quoted_token-reaches (length s) rest (some_quoted s q))
reaches kind.Number s rest (r, n) = by_equal kind.Number (length s) _ _ (token-run s rest r) (run_token-reaches kind.Number s rest (run_kind-number s n))
reaches kind.Word s rest (r, n) = by_equal kind.Word (length s) _ _ (token-run s rest r) (run_token-reaches kind.Word s rest (run_kind-word s n))
reaches kind.Hash s rest (digits, e, i) = mark-reaches kind.Hash s digits rest 35 e (token-hash digits rest i)
reaches kind.Meta s rest (name, e, i) = mark-reaches kind.Meta s name rest 33 e (token-meta name rest i)
reaches (kind.Sign b) s rest (e, h) = by_equal (kind.Sign b) (length s) _ (Some (kind.Sign b, 1)) (ap (λ t. token (t ++ rest)) e ∙ token-sign b rest h)
    (inl (refl, rw e refl))
