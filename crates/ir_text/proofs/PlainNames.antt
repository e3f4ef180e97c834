-- A name is plain exactly where its plain spelling reads back as it.
use Rattle.std.proofs.Common.{◌≡◌, ℕ, ◌+◌, ◌-◌, ◌≤◌, ◌↔◌, inl, inr, true, false, not, [], ◌∷◌, ◌++◌, length, take, drop, Option, Some, refl, sym, ap, ◌∙◌}
use Rattle.std.proofs.Common.{subst, arith}
use Rattle.std.specs.Char.{is_ascii_digit}
use Rattle.std.specs.Str.Parse.{digits_value}
use Rattle.std.proofs.lemmas.Bool.{and_parts, and_from, not-true, lt-ltb, false_from_ne_true}
use Rattle.std.proofs.lemmas.List.{length-append}
use Rattle.ir_tokens.specs.Bytes.{Text, is_quote, begins}
use Rattle.ir_tokens.specs.Tokens.{IsQuoted, IsName, IsLabelName, is_digits, is_small_number}
use Rattle.ir_tokens.specs.Names.{Unescapes, end, backslash, hexadecimal, itself, quoted_value}
use Rattle.ir_tokens.proofs.Classes.{NotFirst-begins}
use Rattle.ir_tokens.proofs.Spelled.{is_digits-IsDigits, IsSmallNumber-is_small_number}
use Rattle.ir_tokens.proofs.Values.{Unescapes-quoted_value}
use Rattle.ir_tree.specs.declared.name.Name.{Name}
use Rattle.ir_tree.specs.declared.name.Name.TheVariants as name
use Rattle.ir_grammar.specs.Words.{name_of}
use Rattle.ir_grammar.proofs.Names.{quotes-no_digits}
use Rattle.ir_text.specs.Spelling.{is_run, is_plain, is_plain_label}
use Rattle.ir_text.specs.Texts.{ReadsAsLocal, ReadsAsGlobal, ReadsAsLabel}
use Rattle.ir_text.proofs.Values.{run-name, plain-no_digits, without_colon}
use Rattle.ir_text.proofs.FixedTokens.{plain-IsName, label-IsLabelName, local_name-fixed, global_name-fixed, label_name-fixed}

Unescapes-shorter : (text value : Text) → Unescapes text value → length value ≤ length text
Unescapes-shorter _ _ end = omega arith
Unescapes-shorter _ _ (backslash text value u) = let h = Unescapes-shorter text value u in omega arith
Unescapes-shorter _ _ (hexadecimal a l text value ea el u) = let h = Unescapes-shorter text value u in omega arith
Unescapes-shorter _ _ (itself b text value d x u) = let h = Unescapes-shorter text value u in omega arith

abbrev text_or : Text → Option Name → Text
text_or d (Some (name.Text s)) = s
text_or d _ = d

-- a quoted text is a longer name than the one that it stands for
quoted-other : (s : Text) → IsQuoted s → name_of s ≡ Some (name.Text s) → ⊥
unfolding name_of is_small_number
quoted-other s q e =
    let no : is_digits s ≡ false = subst (λ t. is_digits t ≡ false) (sym q.spelled) (quotes-no_digits (q.body ++ (34 ∷ []))) in
    let quote : begins is_quote s ≡ true = subst (λ t. begins is_quote t ≡ true) (sym q.spelled) refl in
    let value : name_of s ≡ Some (name.Text (quoted_value s)) = rw (no, quote) refl in
    let same : quoted_value s ≡ s = ap (text_or s) (sym value ∙ e) in
    let shorter = Unescapes-shorter q.body (quoted_value s) ((Unescapes-quoted_value s (quoted_value s) q).1 refl) in
    let len : length s ≡ length q.body + 2 = ap length q.spelled ∙ simp length-append (omega arith) in
    let count = ap length same in
    absurd (omega arith)

small-other : (s : Text) → is_small_number s ≡ true → name_of s ≡ Some (name.Text s) → ⊥
unfolding name_of
small-other s h e = let value : name_of s ≡ Some (name.Number (digits_value 10 s)) = rw h refl in let same : ◌≡◌ {A = Option Name}
    (Some (name.Number (digits_value 10 s))) (Some (name.Text s)) = sym value ∙ e in cc

name-plain : (s : Text) → IsName s [] → name_of s ≡ Some (name.Text s) → is_plain s ≡ true
name-plain s (inl (r, inl small)) e = absurd (small-other s (IsSmallNumber-is_small_number s small) e)
name-plain s (inl (r, inr first)) e = and_from _ _ (and_from _ _ (lt-ltb 0 (length s) r.some) r.run.whole) (ap not (NotFirst-begins is_ascii_digit s first))
name-plain s (inr q) e = absurd (quoted-other s q e)

label-plain : (s : Text) → IsLabelName s (58 ∷ []) → name_of s ≡ Some (name.Text s) → is_plain_label s ≡ true
label-plain s (inl (r, inl small)) e = absurd (small-other s (IsSmallNumber-is_small_number s small) e)
label-plain s (inl (r, inr other)) e = and_from _ _ (and_from _ _ (lt-ltb 0 (length s) r.some) r.run.whole)
    (ap not (false_from_ne_true _ (λ d. other (is_digits-IsDigits s d))))
label-plain s (inr q) e = absurd (quoted-other s q e)

drop-one : (b : ℕ) (s t : Text) → b ∷ s ≡ b ∷ t → t ≡ s
drop-one b s t e = sym (ap (λ u. drop 1 u) e)

drop-last : (s t : Text) → s ++ (58 ∷ []) ≡ t ++ (58 ∷ []) → t ≡ s
drop-last s t e = sym (without_colon t) ∙ ap (λ u. take (length u - 1) u) (sym e) ∙ without_colon s

pub plain-local : (s : Text) → (is_plain s ≡ true) ↔ ReadsAsLocal s
plain-local s = (
  λ p. (local_name-fixed s [] (plain-IsName s p [] tt), run-name s (and_parts (is_run s) _ p).0 (plain-no_digits s p)),
  λ r. let t = r.0.spelled in name-plain s (subst (λ u. IsName u []) (drop-one 37 s t.0 t.1) t.2) r.1,
)

pub plain-global : (s : Text) → (is_plain s ≡ true) ↔ ReadsAsGlobal s
plain-global s = (
  λ p. (global_name-fixed s [] (plain-IsName s p [] tt), run-name s (and_parts (is_run s) _ p).0 (plain-no_digits s p)),
  λ r. let t = r.0.spelled in name-plain s (subst (λ u. IsName u []) (drop-one 64 s t.0 t.1) t.2) r.1,
)

pub plain-label : (s : Text) → (is_plain_label s ≡ true) ↔ ReadsAsLabel s
plain-label s = (
  λ p. (
    label_name-fixed s [] (label-IsLabelName s p []),
    ap name_of (without_colon s) ∙ run-name s (and_parts (is_run s) _ p).0
        (not-true _ (and_parts (is_run s) _ p).1),
  ),
  λ r. let t = r.0.spelled in label-plain s (subst (λ u. IsLabelName u (58 ∷ [])) (drop-last s t.0 t.1) t.2) (ap name_of (sym (without_colon s)) ∙ r.1),
)
