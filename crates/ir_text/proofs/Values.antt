-- Names, numbers and texts stand for the same when they are read again.
use Rattle.std.proofs.Common.{◌≡◌, ℕ, zero, suc, ◌+◌, ◌-◌, ◌*◌, ◌/◌, ◌%◌, ◌^◌, ◌<◌, ◌≤◌, inl, inr, Bool, true, false, not, cond, ◌&&◌, ◌||◌, nat_lt, nat_le, []}
use Rattle.std.proofs.Common.{◌∷◌, ◌++◌, length, take, drop, decimal, ℤ, pos, negsuc, neg_ℤ, Some, None, refl, sym, ap, ◌∙◌, subst, arith, eqb-true}
use Rattle.std.proofs.Common.{le-ltb, ltb-false}
use Rattle.std.specs.Char.{is_ascii_digit, is_ascii_hexdigit, digit_value}
use Rattle.std.specs.Fmt.{digit_glyph}
use Rattle.std.specs.List.{list_all}
use Rattle.std.specs.Str.Parse.{AllDigits, digits_value}
use Rattle.std.proofs.lemmas.Bool.{cond_both, and_parts, and_from, or_parts, or_cases, not-true, false_from_ne_true, lt-ltb, ltb-true, le-leb, leb-true}
use Rattle.std.proofs.lemmas.Bool.{or_left, or_right}
use Rattle.std.proofs.lemmas.List.{length-append}
use Rattle.std.proofs.lemmas.Option.{same_Some}
use Rattle.std.proofs.Math.Seq.{take-append_seam}
use Rattle.std.proofs.lemmas.Fmt.{decimal_is_IsNumeral_wide}
use Rattle.std.proofs.lemmas.Str.Parse.{digit_from_value}
use Rattle.ir_tokens.specs.Bytes.{Text, Each, is_quote, is_backslash, is_run_byte, begins}
use Rattle.ir_tokens.specs.Tokens.{IsDigits, IsQuoted, is_digits, is_small_number}
use Rattle.ir_tokens.specs.Names.{is_double, is_hexadecimal, Unescapes, end, backslash, hexadecimal, itself, unescaped, quoted_value}
use Rattle.ir_tokens.specs.declared.token.TokenKind.TheVariants as kind
use Rattle.ir_tokens.proofs.Spelled.{is_digits-IsDigits, IsDigits-is_digits}
use Rattle.ir_tokens.proofs.Classes.{begins-NotFirst}
use Rattle.ir_tokens.proofs.Values.{Unescapes-unescaped, Unescapes-quoted_value}
use Rattle.ir_tree.specs.declared.name.Name.{Name}
use Rattle.ir_tree.specs.declared.name.Name.TheVariants as name
use Rattle.ir_grammar.specs.Lexeme.{Lexeme}
use Rattle.ir_grammar.specs.Words.{name_of, local_of, global_of, label_of, is_minus, digits_of, magnitude, whole_value, is_from, integer_of, length_of}
use Rattle.ir_grammar.specs.Words.{cstring_of}
use Rattle.ir_grammar.proofs.Names.{run-no_quote, quotes-no_digits, first-no_digits}
use Rattle.ir_text.specs.Spelling as canon
use Rattle.ir_text.specs.Spelling.{is_shown, escaped_byte, escaped, in_quotes, is_run, is_plain, is_plain_label, spelled_name}
use Rattle.ir_text.specs.ReadBack.{IsWide}
use Rattle.ir_text.proofs.Gives.{Bytes}

-- ---- decimals

each-digit : (ds : Text) → AllDigits 10 ds → Each is_ascii_digit ds
each-digit [] h = refl
each-digit (c ∷ ds) h = let r = digit_from_value c h.0 in and_from _ _ (and_from _ _ (le-leb _ _ r.0) (le-leb _ _ r.1)) (each-digit ds h.1)

pub decimal-IsDigits : (n : ℕ) → n < 10 ^ 64 → IsDigits (decimal n)
decimal-IsDigits n h = let d = (decimal_is_IsNumeral_wide n h).0 in record { some = d.0; whole = each-digit (decimal n) d.1 }

pub decimal-value : (n : ℕ) → n < 10 ^ 64 → digits_value 10 (decimal n) ≡ n
decimal-value n h = (decimal_is_IsNumeral_wide n h).1

pub decimal-is_digits : (n : ℕ) → n < 10 ^ 64 → is_digits (decimal n) ≡ true
decimal-is_digits n h = IsDigits-is_digits (decimal n) (decimal-IsDigits n h)

digits-no_minus : (s : Text) → IsDigits s → begins is_minus s ≡ false
digits-no_minus [] d = refl
digits-no_minus (b ∷ s) d = false_from_ne_true _ (λ e. let one = (and_parts (is_ascii_digit b) (list_all is_ascii_digit s) d.whole).0 in let low =
    leb-true _ _ (and_parts (nat_le 48 b) (nat_le b 57) one).0 in let same = eqb-true b 45 e in absurd (omega arith))

-- ---- in quotes

low-glyph : (d : ℕ) → d < 10 → (is_ascii_hexdigit (48 + d) ≡ true) × (digit_value (48 + d) ≡ d)
low-glyph d h = (
  rw (le-leb 48 (48 + d) (omega arith), le-leb (48 + d) 57 (omega arith)) refl,
  rw (le-ltb (48 + d) 48 (omega arith), lt-ltb (48 + d) 58 (omega arith)) (omega arith),
)

high-glyph : (d : ℕ) → 10 ≤ d → d < 16 → (is_ascii_hexdigit (55 + d) ≡ true) × (digit_value (55 + d) ≡ d)
high-glyph d h g = (
  or_left _ _ (or_right _ _ (and_from _ _ (le-leb 65 (55 + d) (omega arith)) (le-leb (55 + d) 70 (omega arith)))),
  rw (le-ltb (55 + d) 48 (omega arith), le-ltb (55 + d) 58 (omega arith), le-ltb (55 + d) 65 (omega arith), lt-ltb (55 + d) 91 (omega arith)) (omega arith),
)

glyph : (d : ℕ) → d < 16 → (is_ascii_hexdigit (digit_glyph true d) ≡ true) × (digit_value (digit_glyph true d) ≡ d)
glyph d h = cond_both (nat_lt d 10) (48 + d) (55 + d) (λ g. (is_ascii_hexdigit g ≡ true) × (digit_value g ≡ d))
    (λ e. low-glyph d (ltb-true d 10 e)) (λ e. high-glyph d (ltb-false d 10 e) h)

no_double : (b : ℕ) (text : Text) → is_backslash b ≡ false → is_double (b ∷ text) ≡ false
no_double b [] e = refl
no_double b (c ∷ text) e = rw e refl

no_hexadecimal : (b : ℕ) (text : Text) → is_backslash b ≡ false → is_hexadecimal (b ∷ text) ≡ false
no_hexadecimal b [] e = refl
no_hexadecimal b (h ∷ []) e = refl
no_hexadecimal b (h ∷ (l ∷ text)) e = rw e refl

shown-other : (b : ℕ) → is_shown b ≡ true → (is_quote b ≡ false) × (is_backslash b ≡ false)
shown-other b e = or_parts _ _ (not-true _ (and_parts (nat_le 32 b && nat_le b 126) (not (is_quote b || is_backslash b)) e).1)

-- two digits of a byte
two_digits : (b : ℕ) (text value : Text) → b < 256 → Unescapes text value → Unescapes (92 ∷ (digit_glyph true (b / 16) ∷ (digit_glyph true (b % 16) ∷ text)))
    (b ∷ value)
two_digits b text value small u =
    let high = glyph (b / 16) (omega arith) in
    let low = glyph (b % 16) (omega arith) in
    let same : 16 * digit_value (digit_glyph true (b / 16)) + digit_value (digit_glyph true (b % 16)) ≡ b = rw (high.1, low.1) (omega arith) in
    subst (λ v. Unescapes (92 ∷ (digit_glyph true (b / 16) ∷ (digit_glyph true (b % 16) ∷ text))) (v ∷ value)) same (hexadecimal _ _ text value high.0 low.0 u)

pub escaped-Unescapes : (s : Text) → Bytes s → Unescapes (escaped s) s
escaped-Unescapes [] h = end
escaped-Unescapes (b ∷ s) h =
    let both = and_parts (nat_lt b 256) (list_all (λ c. nat_lt c 256) s) h in
    let more = escaped-Unescapes s both.1 in
    cond_both (is_shown b) (b ∷ []) (92 ∷ (digit_glyph true (b / 16) ∷ (digit_glyph true (b % 16) ∷ []))) (λ t. Unescapes (t ++ escaped s) (b ∷ s))
    (λ e. let other = (shown-other b e).1 in itself b (escaped s) s (no_double b (escaped s) other) (no_hexadecimal b (escaped s) other) more)
    (λ e. two_digits b (escaped s) s (ltb-true b 256 both.0) more)

glyph-no_quote : (d : ℕ) → is_quote (digit_glyph true d) ≡ false
glyph-no_quote d = cond_both (nat_lt d 10) (48 + d) (55 + d) (λ g. is_quote g ≡ false)
    (λ _. false_from_ne_true _ (λ e. let same = eqb-true (48 + d) 34 e in absurd (omega arith)))
    (λ _. false_from_ne_true _ (λ e. let same = eqb-true (55 + d) 34 e in absurd (omega arith)))

escaped-no_quote : (s : Text) → Each (λ b. not (is_quote b)) (escaped s)
escaped-no_quote [] = refl
escaped-no_quote (b ∷ s) =
    let more = escaped-no_quote s in
    cond_both (is_shown b) (b ∷ []) (92 ∷ (digit_glyph true (b / 16) ∷ (digit_glyph true (b % 16) ∷ []))) (λ t. Each (λ b. not (is_quote b)) (t ++ escaped s))
    (λ e. and_from _ _ (ap not (shown-other b e).0) more)
    (λ e. and_from _ _ (ap not (glyph-no_quote (b / 16))) (and_from _ _ (ap not (glyph-no_quote (b % 16))) more))

pub quoted-IsQuoted : (s : Text) → IsQuoted (in_quotes s)
quoted-IsQuoted s = record { body = escaped s; inside = escaped-no_quote s; spelled = refl }

pub quoted-value : (s : Text) → Bytes s → quoted_value (in_quotes s) ≡ s
unfolding quoted-IsQuoted
quoted-value s h = sym ((Unescapes-quoted_value (in_quotes s) s (quoted-IsQuoted s)).0 (escaped-Unescapes s h))

-- ---- values are of bytes

hex-small : (h : ℕ) → is_ascii_hexdigit h ≡ true → digit_value h < 16
hex-small h e = elim (or_cases ((nat_le 48 h && nat_le h 57) || (nat_le 65 h && nat_le h 70)) (nat_le 97 h && nat_le h 102) e) [
  | inl f ↦ elim (or_cases (nat_le 48 h && nat_le h 57) (nat_le 65 h && nat_le h 70) f) [
    | inl g ↦ let r = and_parts (nat_le 48 h) (nat_le h 57) g in let a = leb-true _ _ r.0 in let b = leb-true _ _ r.1 in
        rw (le-ltb h 48 a, lt-ltb h 58 (omega arith)) (omega arith)
    | inr g ↦ let r = and_parts (nat_le 65 h) (nat_le h 70) g in let a = leb-true _ _ r.0 in let b = leb-true _ _ r.1 in
        rw (le-ltb h 48 (omega arith), le-ltb h 58 (omega arith), le-ltb h 65 a, lt-ltb h 91 (omega arith)) (omega arith)
  ]
  | inr g ↦ let r = and_parts (nat_le 97 h) (nat_le h 102) g in let a = leb-true _ _ r.0 in let b = leb-true _ _ r.1 in
      rw (
        le-ltb h 48 (omega arith),
        le-ltb h 58 (omega arith),
        le-ltb h 65 (omega arith),
        le-ltb h 91 (omega arith),
        le-ltb h 97 a,
        lt-ltb h 123
            (omega arith),
      ) (omega arith)
]

Unescapes-bytes : (text value : Text) → Unescapes text value → Bytes text → Bytes value
Unescapes-bytes _ _ end h = refl
Unescapes-bytes _ _ (backslash text value u) h = Unescapes-bytes text value u h
Unescapes-bytes _ _ (hexadecimal a l text value ea el u) h =
    let x = hex-small a ea in let y = hex-small l el in
    and_from _ _ (lt-ltb (16 * digit_value a + digit_value l) 256 (omega arith)) (Unescapes-bytes text value u (and_parts _ _ (and_parts _ _ h).1).1)
Unescapes-bytes _ _ (itself b text value d x u) h = let both = and_parts _ _ h in and_from _ _ both.0 (Unescapes-bytes text value u both.1)

pub bytes-drop : (n : ℕ) (s : Text) → Bytes s → Bytes (drop n s)
bytes-drop zero s h = h
bytes-drop (suc n) [] h = refl
bytes-drop (suc n) (b ∷ s) h = bytes-drop n s (and_parts _ _ h).1

pub bytes-take : (n : ℕ) (s : Text) → Bytes s → Bytes (take n s)
bytes-take zero s h = refl
bytes-take (suc n) [] h = refl
bytes-take (suc n) (b ∷ s) h = let both = and_parts _ _ h in and_from _ _ both.0 (bytes-take n s both.1)

value-bytes : (s : Text) → Bytes s → Bytes (quoted_value s)
value-bytes s h = let body = take (length s - 2) (drop 1 s) in Unescapes-bytes body (unescaped body) ((Unescapes-unescaped body (unescaped body)).1 refl)
    (bytes-take (length s - 2) (drop 1 s) (bytes-drop 1 s h))

-- ---- names

-- a name that a text can have
abbrev pub IsKept : Name → Type 0
IsKept (name.Text s) = Bytes s
IsKept (name.Number n) = n < 4294967296

name_by : (a b c : Bool) (v : ℕ) (q s : Text) (n : Name) → (a ≡ true → v < 4294967296) → Bytes q → Bytes s
    → cond a (Some (name.Number v)) (cond b None (cond c (Some (name.Text q)) (Some (name.Text s)))) ≡ Some n → IsKept n
name_by true b c v q s n small hq hs e = subst IsKept (same_Some (name.Number v) n e) (small refl)
name_by false true c v q s n small hq hs e = cc
name_by false false true v q s n small hq hs e = subst IsKept (same_Some (name.Text q) n e) hq
name_by false false false v q s n small hq hs e = subst IsKept (same_Some (name.Text s) n e) hs

small-value : (s : Text) → is_small_number s ≡ true → digits_value 10 s < 4294967296
unfolding is_small_number
small-value s e = ltb-true _ _ (and_parts (is_digits s) _ e).1

name-kept : (s : Text) (n : Name) → Bytes s → name_of s ≡ Some n → IsKept n
unfolding name_of
name-kept s n h e = name_by (is_small_number s) (is_digits s) (begins is_quote s) (digits_value 10 s) (quoted_value s) s n (small-value s) (value-bytes s h) h e

pub local-kept : (l : Lexeme) (n : Name) → Bytes l.1 → local_of l ≡ Some n → IsKept n
local-kept (kind.Local, s) n h e = name-kept (drop 1 s) n (bytes-drop 1 s h) e
local-kept (kind.Global, s) n h e = cc
local-kept (kind.Label, s) n h e = cc
local-kept (kind.CString, s) n h e = cc
local-kept (kind.Quoted, s) n h e = cc
local-kept (kind.Number, s) n h e = cc
local-kept (kind.Word, s) n h e = cc
local-kept (kind.Hash, s) n h e = cc
local-kept (kind.Meta, s) n h e = cc
local-kept (kind.Sign b, s) n h e = cc

pub global-kept : (l : Lexeme) (n : Name) → Bytes l.1 → global_of l ≡ Some n → IsKept n
global-kept (kind.Global, s) n h e = name-kept (drop 1 s) n (bytes-drop 1 s h) e
global-kept (kind.Local, s) n h e = cc
global-kept (kind.Label, s) n h e = cc
global-kept (kind.CString, s) n h e = cc
global-kept (kind.Quoted, s) n h e = cc
global-kept (kind.Number, s) n h e = cc
global-kept (kind.Word, s) n h e = cc
global-kept (kind.Hash, s) n h e = cc
global-kept (kind.Meta, s) n h e = cc
global-kept (kind.Sign b, s) n h e = cc

pub label-kept : (l : Lexeme) (n : Name) → Bytes l.1 → label_of l ≡ Some n → IsKept n
label-kept (kind.Label, s) n h e = name-kept (take (length s - 1) s) n (bytes-take (length s - 1) s h) e
label-kept (kind.Local, s) n h e = cc
label-kept (kind.Global, s) n h e = cc
label-kept (kind.CString, s) n h e = cc
label-kept (kind.Quoted, s) n h e = cc
label-kept (kind.Number, s) n h e = cc
label-kept (kind.Word, s) n h e = cc
label-kept (kind.Hash, s) n h e = cc
label-kept (kind.Meta, s) n h e = cc
label-kept (kind.Sign b, s) n h e = cc

-- a run that isn't digits is its own name
pub run-name : (s : Text) → is_run s ≡ true → is_digits s ≡ false → name_of s ≡ Some (name.Text s)
unfolding name_of is_small_number
run-name s r d = let quote = run-no_quote s (and_parts (nat_lt 0 (length s)) (list_all is_run_byte s) r).1 in rw (d, quote) refl

pub plain-no_digits : (s : Text) → is_plain s ≡ true → is_digits s ≡ false
plain-no_digits s e =
    let both = and_parts (is_run s) _ e in
    let some = ltb-true 0 (length s) (and_parts _ _ both.0).0 in
    false_from_ne_true _ (λ d. first-no_digits s some (begins-NotFirst is_ascii_digit s (not-true _ both.1)) (is_digits-IsDigits s d))

quotes-name : (s : Text) → Bytes s → name_of (in_quotes s) ≡ Some (name.Text s)
unfolding name_of is_small_number
quotes-name s h = rw (quotes-no_digits (escaped s ++ (34 ∷ []))) (ap (λ t. Some (name.Text t)) (quoted-value s h))

number-name : (n : ℕ) → n < 4294967296 → name_of (decimal n) ≡ Some (name.Number n)
unfolding name_of is_small_number
number-name n h = let value = decimal-value n (omega arith) in rw (decimal-is_digits n (omega arith), value, lt-ltb n 4294967296 h) refl

-- a name is read again, where plain spellings are
spelled-name : (plain : Text → Bool) → ((s : Text) → plain s ≡ true → (is_run s ≡ true) × (is_digits s ≡ false)) → (n : Name) → IsKept n
    → name_of (spelled_name plain n) ≡ Some n
spelled-name plain p (name.Number n) k = number-name n k
spelled-name plain p (name.Text s) k = cond_both (plain s) s (in_quotes s) (λ t. name_of t ≡ Some (name.Text s)) (λ e. run-name s (p s e).0 (p s e).1)
    (λ _. quotes-name s k)

plain-run : (s : Text) → is_plain s ≡ true → (is_run s ≡ true) × (is_digits s ≡ false)
plain-run s e = ((and_parts (is_run s) _ e).0, plain-no_digits s e)

plain_label-run : (s : Text) → is_plain_label s ≡ true → (is_run s ≡ true) × (is_digits s ≡ false)
plain_label-run s e = let both = and_parts (is_run s) _ e in (both.0, not-true _ both.1)

pub local-again : (n : Name) → IsKept n → local_of (canon.local n) ≡ Some n
local-again n k = spelled-name is_plain plain-run n k

pub global-again : (n : Name) → IsKept n → global_of (canon.global n) ≡ Some n
global-again n k = spelled-name is_plain plain-run n k

pub without_colon : (s : Text) → take (length (s ++ (58 ∷ [])) - 1) (s ++ (58 ∷ [])) ≡ s
without_colon s = let len : length (s ++ (58 ∷ [])) - 1 ≡ length s = simp length-append (omega arith) in ap (λ n. take n (s ++ (58 ∷ []))) len
    ∙ take-append_seam s (58 ∷ [])

pub label-again : (n : Name) → IsKept n → label_of (canon.label n) ≡ Some n
label-again n k = ap name_of (without_colon (spelled_name is_plain_label n)) ∙ spelled-name is_plain_label plain_label-run n k

-- ---- numbers

pub integer-again : (z : ℤ) → IsWide z → integer_of (canon.number z) ≡ Some z
integer-again (pos n) h =
    let wide : n < 10 ^ 64 = omega arith in
    let value = decimal-value n wide in
    rw (digits-no_minus (decimal n) (decimal-IsDigits n wide), decimal-is_digits n wide, value, le-leb n (2 ^ 127 - 1) (omega arith)) refl
integer-again (negsuc n) h =
    let wide : suc n < 10 ^ 64 = omega arith in
    let value = decimal-value (suc n) wide in
    rw (decimal-is_digits (suc n) wide, value, le-leb (suc n) (2 ^ 127) (omega arith)) refl

wide_by : (a b : Bool) (s : Text) (z : ℤ) → begins is_minus s ≡ b → is_from (2 ^ 127) (2 ^ 127 - 1) s ≡ a → cond a (Some (whole_value s)) None ≡ Some z
    → IsWide z
wide_by false b s z m f e = cc
wide_by true true s z m f e =
    let small = leb-true (magnitude s) (2 ^ 127) (ap (λ v. nat_le (magnitude s) (cond v (2 ^ 127) (2 ^ 127 - 1))) (sym m)
    ∙ (and_parts (is_digits (digits_of s)) _ f).1) in
    subst IsWide (ap (λ v. cond v (neg_ℤ (pos (magnitude s))) (pos (magnitude s))) (sym m) ∙ same_Some (whole_value s) z e) (negated (magnitude s) small) where
      negated : (n : ℕ) → n ≤ 2 ^ 127 → IsWide (neg_ℤ (pos n))
      negated zero h = omega arith
      negated (suc n) h = omega arith
wide_by true false s z m f e =
    let small = leb-true (magnitude s) (2 ^ 127 - 1) (ap (λ v. nat_le (magnitude s) (cond v (2 ^ 127) (2 ^ 127 - 1))) (sym m)
    ∙ (and_parts (is_digits (digits_of s)) _ f).1) in
    subst IsWide (ap (λ v. cond v (neg_ℤ (pos (magnitude s))) (pos (magnitude s))) (sym m) ∙ same_Some (whole_value s) z e) (omega arith)

pub integer-kept : (l : Lexeme) (z : ℤ) → integer_of l ≡ Some z → IsWide z
integer-kept (kind.Number, s) z e = wide_by (is_from (2 ^ 127) (2 ^ 127 - 1) s) (begins is_minus s) s z refl refl e
integer-kept (kind.Local, s) z e = cc
integer-kept (kind.Global, s) z e = cc
integer-kept (kind.Label, s) z e = cc
integer-kept (kind.CString, s) z e = cc
integer-kept (kind.Quoted, s) z e = cc
integer-kept (kind.Word, s) z e = cc
integer-kept (kind.Hash, s) z e = cc
integer-kept (kind.Meta, s) z e = cc
integer-kept (kind.Sign b, s) z e = cc

length_by : (a b : Bool) (s : Text) (n : ℕ) → begins is_minus s ≡ b → is_from 0 (2 ^ 32) s ≡ a → cond a (Some (magnitude s)) None ≡ Some n → n ≤ 2 ^ 32
length_by false b s n m f e = cc
length_by true b s n m f e =
    let same = same_Some (magnitude s) n e in
    let small = leb-true (magnitude s) (cond b 0 (2 ^ 32)) (ap (λ v. nat_le (magnitude s) (cond v 0 (2 ^ 32))) (sym m)
    ∙ (and_parts (is_digits (digits_of s)) _ f).1) in
    let most : cond b 0 (2 ^ 32) ≤ 2 ^ 32 = cond_both b 0 (2 ^ 32) (λ v. v ≤ 2 ^ 32) (λ _. omega arith) (λ _. omega arith) in
    omega arith

pub length-kept : (l : Lexeme) (n : ℕ) → length_of l ≡ Some n → n ≤ 2 ^ 32
length-kept (kind.Number, s) n e = length_by (is_from 0 (2 ^ 32) s) (begins is_minus s) s n refl refl e
length-kept (kind.Local, s) n e = cc
length-kept (kind.Global, s) n e = cc
length-kept (kind.Label, s) n e = cc
length-kept (kind.CString, s) n e = cc
length-kept (kind.Quoted, s) n e = cc
length-kept (kind.Word, s) n e = cc
length-kept (kind.Hash, s) n e = cc
length-kept (kind.Meta, s) n e = cc
length-kept (kind.Sign b, s) n e = cc

pub cstring-kept : (l : Lexeme) (v : Text) → Bytes l.1 → cstring_of l ≡ Some v → Bytes v
cstring-kept (kind.CString, s) v h e = subst Bytes (same_Some (quoted_value (drop 1 s)) v e) (value-bytes (drop 1 s) (bytes-drop 1 s h))
cstring-kept (kind.Local, s) v h e = cc
cstring-kept (kind.Global, s) v h e = cc
cstring-kept (kind.Label, s) v h e = cc
cstring-kept (kind.Quoted, s) v h e = cc
cstring-kept (kind.Number, s) v h e = cc
cstring-kept (kind.Word, s) v h e = cc
cstring-kept (kind.Hash, s) v h e = cc
cstring-kept (kind.Meta, s) v h e = cc
cstring-kept (kind.Sign b, s) v h e = cc

pub length-again : (n : ℕ) → n ≤ 2 ^ 32 → length_of (canon.array_length n) ≡ Some n
length-again n h =
    let wide : n < 10 ^ 64 = omega arith in
    let value = decimal-value n wide in
    rw (digits-no_minus (decimal n) (decimal-IsDigits n wide), decimal-is_digits n wide, value, le-leb n (2 ^ 32) h) refl

pub cstring-again : (s : Text) → Bytes s → cstring_of (canon.cstring s) ≡ Some s
cstring-again s h = ap (λ t. Some t) (quoted-value s h)
