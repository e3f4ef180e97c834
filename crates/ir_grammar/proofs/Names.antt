-- The name that a token is read as is the one that its bytes stand for.
use Rattle.std.proofs.Common.{◌≡◌, ◌↔◌, ◌<◌, inl, inr, true, false, [], ◌∷◌, ◌++◌, length, Some, refl, sym, ap, ◌∙◌, subst, arith}
use Rattle.std.specs.Char.{is_ascii_digit}
use Rattle.std.specs.List.{list_all}
use Rattle.std.proofs.lemmas.Bool.{and_parts, false_from_ne_true}
use Rattle.std.proofs.lemmas.Option.{same_Some}
use Rattle.ir_tokens.specs.Bytes.{Text, Each, NotFirst, begins, is_quote, is_run_byte}
use Rattle.ir_tokens.specs.Tokens.{IsDigits, IsSmallNumber, IsQuoted, IsName, IsLabelName, Spells, is_digits, is_small_number}
use Rattle.ir_tokens.specs.Names.{IsNamed, NameValue, Number, Bytes, StandsFor, name_part, name_value}
use Rattle.ir_tokens.specs.declared.token.TokenKind.{TokenKind}
use Rattle.ir_tokens.specs.declared.token.TokenKind.TheVariants as kind
use Rattle.ir_tokens.proofs.Classes.{eqb-other}
use Rattle.ir_tokens.proofs.Spelled.{is_digits-IsDigits, IsSmallNumber-is_small_number}
use Rattle.ir_tokens.proofs.Values.{StandsFor-token, quoted_value-body, name_value-digits, name_value-quoted, name_value-plain, mark_part, label_part}
use Rattle.ir_tree.specs.declared.name.Name.{Name}
use Rattle.ir_tree.specs.declared.name.Name.TheVariants as name
use Rattle.ir_grammar.specs.Words.{name_of, denoted}

-- the name with a value
abbrev name_with : NameValue → Name
name_with (Number n) = name.Number n
name_with (Bytes s) = name.Text s

denoted-name_with : (value : NameValue) → denoted (name_with value) ≡ value
denoted-name_with (Number n) = refl
denoted-name_with (Bytes s) = refl

name_with-denoted : (n : Name) → name_with (denoted n) ≡ n
name_with-denoted (name.Number n) = refl
name_with-denoted (name.Text s) = refl

-- ---- the three forms of a name

pub run-no_quote : (s : Text) → Each is_run_byte s → begins is_quote s ≡ false
run-no_quote [] each = refl
run-no_quote (b ∷ s) each = eqb-other is_run_byte b 34 (and_parts (is_run_byte b) (list_all is_run_byte s) each).0 refl

pub quotes-no_digits : (t : Text) → is_digits (34 ∷ t) ≡ false
quotes-no_digits t = false_from_ne_true _ (λ d. let all : false ≡ true = (and_parts _ _ d).1 in cc)

pub first-no_digits : (s : Text) → 0 < length s → NotFirst is_ascii_digit s → IsDigits s → ⊥
first-no_digits [] some first d = absurd (omega arith)
first-no_digits (b ∷ s) some first d =
    let yes : is_ascii_digit b ≡ true = (and_parts (is_ascii_digit b) (list_all is_ascii_digit s) d.whole).0 in
    let no : false ≡ true = sym first ∙ yes in cc

-- the name is the one with the value
abbrev IsItsName : Text → Type 0
IsItsName s = name_of s ≡ Some (name_with (name_value s))

small-name : (s : Text) → IsSmallNumber s → IsItsName s
unfolding name_of
small-name s h = rw (IsSmallNumber-is_small_number s h) (ap (λ v. Some (name_with v)) (sym (name_value-digits s h.digits)))

plain-name : (s : Text) → Each is_run_byte s → 0 < length s → (IsDigits s → ⊥) → IsItsName s
unfolding name_of is_small_number
plain-name s each some other =
    let no : is_digits s ≡ false = false_from_ne_true _ (λ d. other (is_digits-IsDigits s d)) in
    rw (no, run-no_quote s each) (ap (λ v. Some (name_with v)) (sym (name_value-plain s each some other)))

quoted-name : (s : Text) → IsQuoted s → IsItsName s
unfolding name_of is_small_number
quoted-name s q =
    let no : is_digits s ≡ false = subst (λ t. is_digits t ≡ false) (sym q.spelled) (quotes-no_digits (q.body ++ (34 ∷ []))) in
    let quote : begins is_quote s ≡ true = subst (λ t. begins is_quote t ≡ true) (sym q.spelled) refl in
    rw (no, quote) (ap (λ v. Some (name.Text v)) (quoted_value-body s q) ∙ ap (λ v. Some (name_with v)) (sym (name_value-quoted s q)))

-- ---- tokens

IsName-name : (s rest : Text) → IsName s rest → IsItsName s
IsName-name s rest (inl (r, inl small)) = small-name s small
IsName-name s rest (inl (r, inr first)) = plain-name s r.run.whole r.some (first-no_digits s r.some first)
IsName-name s rest (inr q) = quoted-name s q

IsLabelName-name : (s rest : Text) → IsLabelName s rest → IsItsName s
IsLabelName-name s rest (inl (r, inl small)) = small-name s small
IsLabelName-name s rest (inl (r, inr other)) = plain-name s r.run.whole r.some other
IsLabelName-name s rest (inr q) = quoted-name s q

token-name : (k : TokenKind) (s rest : Text) → IsNamed k → Spells k s rest → IsItsName (name_part k s)
token-name kind.Local s rest n (name, e, i) = subst IsItsName (mark_part s name 37 e) (IsName-name name rest i)
token-name kind.Global s rest n (name, e, i) = subst IsItsName (mark_part s name 64 e) (IsName-name name rest i)
token-name kind.Label s rest n (name, e, i) = subst IsItsName (label_part s name e) (IsLabelName-name name (58 ∷ rest) i)
token-name kind.CString s rest n h = absurd n
token-name kind.Quoted s rest n h = absurd n
token-name kind.Number s rest n h = absurd n
token-name kind.Word s rest n h = absurd n
token-name kind.Hash s rest n h = absurd n
token-name kind.Meta s rest n h = absurd n
token-name (kind.Sign b) s rest n h = absurd n

pub name_of-StandsFor : (k : TokenKind) (s rest : Text) (n : Name) → IsNamed k → Spells k s rest → (name_of (name_part k s) ≡ Some n)
    ↔ StandsFor (name_part k s) (denoted n)
name_of-StandsFor k s rest n named spells =
    let its = token-name k s rest named spells in
    let value = StandsFor-token k s rest (denoted n) named spells in (
      λ e. value.1 (ap denoted (sym (same_Some _ n (sym its ∙ e))) ∙ denoted-name_with _),
      λ d. its ∙ ap (λ v. Some (name_with v)) (sym (value.0 d)) ∙ ap (λ m. Some m) (name_with-denoted n),
    )
