-- Escapes and names have one value each.
use Rattle.std.proofs.Common.{◌++◌, ◌≡◌, ◌↔◌, ℕ, zero, suc, ◌+◌, ◌-◌, ◌*◌, ◌<◌, ◌≤◌, inl, inr, true, false, ◌&&◌, [], ◌∷◌, length, take, drop, refl, sym, ap}
use Rattle.std.proofs.Common.{◌∙◌, subst, arith}
use Rattle.std.specs.Char.{is_ascii_digit, is_ascii_hexdigit, digit_value}
use Rattle.std.specs.List.{list_all}
use Rattle.std.specs.Str.Parse.{digits_value}
use Rattle.std.proofs.lemmas.Bool.{eqb-true, and_parts, cases_Bool, cond-true, cond-false, false_from_ne_true}
use Rattle.std.proofs.lemmas.List.{length-append}
use Rattle.std.proofs.Math.Seq.{take-append_seam}
use Rattle.ir_tokens.specs.Bytes.{Text, Each, is_quote, is_backslash, is_run_byte}
use Rattle.ir_tokens.specs.Tokens.{IsSomeRun, IsDigits, IsQuoted, IsName, IsLabelName, Spells}
use Rattle.ir_tokens.specs.declared.token.TokenKind.{TokenKind}
use Rattle.ir_tokens.specs.declared.token.TokenKind.TheVariants as kind
use Rattle.ir_tokens.specs.Names.{IsNamed, name_part, is_double, is_hexadecimal, Unescapes, end, backslash, hexadecimal, itself, unescaped, quoted_value}
use Rattle.ir_tokens.specs.Names.{NameValue, Number, Bytes, StandsFor, number, quoted, plain, name_value}
use Rattle.ir_tokens.proofs.Classes.{eqb-other}

-- ---- the value of the front

double-not_hexadecimal : (text : Text) → is_hexadecimal (92 ∷ (92 ∷ text)) ≡ false
double-not_hexadecimal [] = refl
double-not_hexadecimal (b ∷ text) = refl

unescaped-double : (text : Text) → unescaped (92 ∷ (92 ∷ text)) ≡ 92 ∷ unescaped text
unfolding unescaped
unescaped-double text = rw (double-not_hexadecimal text) refl

unescaped-hexadecimal : (h l : ℕ) (text : Text) → is_ascii_hexdigit h ≡ true → is_ascii_hexdigit l ≡ true → unescaped (92 ∷ (h ∷ (l ∷ text))) ≡
    (16 * digit_value h + digit_value l) ∷ unescaped text
unfolding unescaped
unescaped-hexadecimal h l text eh el =
    let no_double : is_backslash h ≡ false = eqb-other is_ascii_hexdigit h 92 eh refl in
    rw (eh, el, no_double) refl

unescaped-itself : (b : ℕ) (text : Text) → is_double (b ∷ text) ≡ false → is_hexadecimal (b ∷ text) ≡ false → unescaped (b ∷ text) ≡ b ∷ unescaped text
unfolding unescaped
unescaped-itself b text d h = rw (d, h) refl

-- ---- escapes

is_double-front : (text : Text) → is_double text ≡ true → (rest : Text) × (text ≡ 92 ∷ (92 ∷ rest))
is_double-front [] e = cc
is_double-front (b ∷ []) e = cc
is_double-front (b ∷ (c ∷ text)) e =
    let both = and_parts (is_backslash b) (is_backslash c) e in
    (text, ap (λ d. d ∷ (c ∷ text)) (eqb-true b 92 both.0) ∙ ap (λ d. 92 ∷ (d ∷ text)) (eqb-true c 92 both.1))

is_hexadecimal-front : (text : Text) → is_hexadecimal text ≡ true → (h : ℕ) × (l : ℕ) × (rest : Text) × (text ≡ 92 ∷ (h ∷ (l ∷ rest)))
    × (is_ascii_hexdigit h ≡ true) × (is_ascii_hexdigit l ≡ true)
is_hexadecimal-front [] e = cc
is_hexadecimal-front (b ∷ []) e = cc
is_hexadecimal-front (b ∷ (h ∷ [])) e = cc
is_hexadecimal-front (b ∷ (h ∷ (l ∷ text))) e =
    let outer = and_parts (is_backslash b && is_ascii_hexdigit h) (is_ascii_hexdigit l) e in
    let inner = and_parts (is_backslash b) (is_ascii_hexdigit h) outer.0 in
    (h, l, text, ap (λ d. d ∷ (h ∷ (l ∷ text))) (eqb-true b 92 inner.0), inner.1, outer.1)

-- the text has this value
abbrev HasValue : Text → Type 0
HasValue text = Unescapes text (unescaped text)

has_value : (n : ℕ) (text : Text) → length text ≤ n → HasValue text
unfolding unescaped
has_value n [] h = end
has_value zero (b ∷ text) h = absurd (omega arith)
has_value (suc n) (b ∷ text) h = elim (cases_Bool (is_double (b ∷ text))) [
  | inl d ↦ let f = is_double-front (b ∷ text) d in let len = ap length f.1 in
      subst HasValue (sym f.1) (subst (Unescapes (92 ∷ (92 ∷ f.0))) (sym (unescaped-double f.0))
      (backslash f.0 (unescaped f.0) (has_value n f.0 (omega arith))))
  | inr d ↦ elim (cases_Bool (is_hexadecimal (b ∷ text))) [
    | inl x ↦ let f = is_hexadecimal-front (b ∷ text) x in let len = ap length f.3 in
        subst HasValue (sym f.3) (subst (Unescapes (92 ∷ (f.0 ∷ (f.1 ∷ f.2)))) (sym (unescaped-hexadecimal f.0 f.1 f.2 f.4 f.5))
        (hexadecimal f.0 f.1 f.2 (unescaped f.2) f.4 f.5 (has_value n f.2 (omega arith))))
    | inr x ↦ subst (Unescapes (b ∷ text)) (sym (unescaped-itself b text d x)) (itself b text (unescaped text) d x (has_value n text (omega arith)))
  ]
]

unescaped-Unescapes : (text value : Text) → Unescapes text value → value ≡ unescaped text
unfolding unescaped
unescaped-Unescapes _ _ end = refl
unescaped-Unescapes _ _ (backslash text value u) = ap (λ v. 92 ∷ v) (unescaped-Unescapes text value u) ∙ sym (unescaped-double text)
unescaped-Unescapes _ _ (hexadecimal h l text value eh el u) = ap (λ v. (16 * digit_value h + digit_value l) ∷ v) (unescaped-Unescapes text value u)
    ∙ sym (unescaped-hexadecimal h l text eh el)
unescaped-Unescapes _ _ (itself b text value d x u) = ap (λ v. b ∷ v) (unescaped-Unescapes text value u) ∙ sym (unescaped-itself b text d x)

pub Unescapes-unescaped : (text value : Text) → Unescapes text value ↔ (value ≡ unescaped text)
Unescapes-unescaped text value = (unescaped-Unescapes text value, λ e. subst (Unescapes text) (sym e) (has_value (length text) text (omega arith)))

-- ---- names

body_of : (s : Text) (q : IsQuoted s) → take (length s - 2) (drop 1 s) ≡ q.body
body_of s q =
    let len : length s ≡ length q.body + 2 = ap length q.spelled ∙ simp length-append (omega arith) in
    let count : length s - 2 ≡ length q.body = omega arith in
    ap (λ n. take n (drop 1 s)) count ∙ ap (λ t. take (length q.body) (drop 1 t)) q.spelled ∙ take-append_seam q.body (34 ∷ [])

pub quoted_value-body : (s : Text) (q : IsQuoted s) → quoted_value s ≡ unescaped q.body
quoted_value-body s q = ap unescaped (body_of s q)

pub name_value-digits : (s : Text) → IsDigits s → name_value s ≡ Number (digits_value 10 s)
unfolding name_value
name_value-digits [] d = absurd (let h = d.some in omega arith)
name_value-digits (b ∷ s) d = cond-true (list_all is_ascii_digit (b ∷ s)) _ _ d.whole

name_value-quote : (text : Text) → name_value (34 ∷ text) ≡ Bytes (quoted_value (34 ∷ text))
unfolding name_value
name_value-quote text = refl

pub name_value-quoted : (s : Text) (q : IsQuoted s) → name_value s ≡ Bytes (unescaped q.body)
name_value-quoted s q = ap name_value q.spelled ∙ name_value-quote _ ∙ ap (λ t. Bytes (quoted_value t)) (sym q.spelled)
    ∙ ap (λ v. Bytes v) (quoted_value-body s q)

pub name_value-plain : (s : Text) → Each is_run_byte s → 0 < length s → (IsDigits s → ⊥) → name_value s ≡ Bytes s
unfolding name_value
name_value-plain [] each some other = absurd (omega arith)
name_value-plain (b ∷ s) each some other =
    let all : list_all is_ascii_digit (b ∷ s) ≡ false = false_from_ne_true _ (λ e. other (record { some = some; whole = e })) in
    let quote : is_quote b ≡ false = eqb-other is_run_byte b 34 (and_parts (is_run_byte b) (list_all is_run_byte s) each).0 refl in
    cond-false (list_all is_ascii_digit (b ∷ s)) _ _ all ∙ cond-false (is_quote b) _ _ quote

name_value-StandsFor : (s : Text) (value : NameValue) → StandsFor s value → value ≡ name_value s
name_value-StandsFor _ _ (number s d) = sym (name_value-digits s d)
name_value-StandsFor _ _ (quoted s value q u) = ap (λ v. Bytes v) (unescaped-Unescapes q.body value u) ∙ sym (name_value-quoted s q)
name_value-StandsFor _ _ (plain s each some other) = sym (name_value-plain s each some other)

StandsFor-quoted : (s : Text) → IsQuoted s → StandsFor s (name_value s)
StandsFor-quoted s q = subst (StandsFor s) (sym (name_value-quoted s q)) (quoted s (unescaped q.body) q (has_value (length q.body) q.body (omega arith)))

StandsFor-run : (s rest : Text) → IsSomeRun is_run_byte s rest → StandsFor s (name_value s)
StandsFor-run s rest r = elim (cases_Bool (list_all is_ascii_digit s)) [
  | inl e ↦ let d : IsDigits s = record { some = r.some; whole = e } in subst (StandsFor s) (sym (name_value-digits s d)) (number s d)
  | inr e ↦ let other : IsDigits s → ⊥ = λ d. let yes = d.whole in cc in subst (StandsFor s) (sym (name_value-plain s r.run.whole r.some other))
      (plain s r.run.whole r.some other)
]

StandsFor-name_value : (s : Text) → StandsFor s (name_value s) → (value : NameValue) → StandsFor s value ↔ (value ≡ name_value s)
StandsFor-name_value s h value = (name_value-StandsFor s value, λ e. subst (StandsFor s) (sym e) h)

StandsFor-IsName : (s rest : Text) → IsName s rest → StandsFor s (name_value s)
StandsFor-IsName s rest (inl (r, h)) = StandsFor-run s rest r
StandsFor-IsName s rest (inr q) = StandsFor-quoted s q

StandsFor-IsLabelName : (s rest : Text) → IsLabelName s rest → StandsFor s (name_value s)
StandsFor-IsLabelName s rest (inl (r, h)) = StandsFor-run s rest r
StandsFor-IsLabelName s rest (inr q) = StandsFor-quoted s q

-- behind a mark, and before a colon
pub mark_part : (s name : Text) (b : ℕ) → s ≡ b ∷ name → name ≡ drop 1 s
mark_part s name b e = sym (ap (λ t. drop 1 t) e)

pub label_part : (s name : Text) → s ≡ name ++ (58 ∷ []) → name ≡ take (length s - 1) s
label_part s name e =
    let len : length s ≡ length name + 1 = ap length e ∙ simp length-append in
    let count : length s - 1 ≡ length name = omega arith in
    sym (ap (λ n. take n s) count ∙ ap (λ t. take (length name) t) e ∙ take-append_seam name (58 ∷ []))

StandsFor-name_part : (k : TokenKind) (s rest : Text) → IsNamed k → Spells k s rest → StandsFor (name_part k s) (name_value (name_part k s))
StandsFor-name_part kind.Local s rest n (name, e, i) = subst (λ t. StandsFor t (name_value t)) (mark_part s name 37 e) (StandsFor-IsName name rest i)
StandsFor-name_part kind.Global s rest n (name, e, i) = subst (λ t. StandsFor t (name_value t)) (mark_part s name 64 e) (StandsFor-IsName name rest i)
StandsFor-name_part kind.Label s rest n (name, e, i) = subst (λ t. StandsFor t (name_value t)) (label_part s name e) (StandsFor-IsLabelName name (58 ∷ rest) i)
StandsFor-name_part kind.CString s rest n h = absurd n
StandsFor-name_part kind.Quoted s rest n h = absurd n
StandsFor-name_part kind.Number s rest n h = absurd n
StandsFor-name_part kind.Word s rest n h = absurd n
StandsFor-name_part kind.Hash s rest n h = absurd n
StandsFor-name_part kind.Meta s rest n h = absurd n
StandsFor-name_part (kind.Sign b) s rest n h = absurd n

pub StandsFor-token : (k : TokenKind) (s rest : Text) (value : NameValue) → IsNamed k → Spells k s rest → StandsFor (name_part k s) value
    ↔ (value ≡ name_value (name_part k s))
StandsFor-token k s rest value n spells = StandsFor-name_value (name_part k s) (StandsFor-name_part k s rest n spells) value

pub Unescapes-quoted_value : (s value : Text) (q : IsQuoted s) → Unescapes q.body value ↔ (value ≡ quoted_value s)
Unescapes-quoted_value s value q = subst (λ v. Unescapes q.body value ↔ (value ≡ v)) (sym (quoted_value-body s q)) (Unescapes-unescaped q.body value)
