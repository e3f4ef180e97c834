-- An instruction that keeps the rules fits the code.
use Rattle.std.proofs.Common.{◌≡◌, inl, inr, ℕ, zero, suc, Bool, true, false, List, [], ◌∷◌, ◌++◌, map}
use Rattle.std.proofs.Common.{slice_get, Option, Some, None, is_some, nat_eq, unwrap_or, refl, sym, ap, ◌∙◌, subst, arith, if◌then◌else◌}
use Rattle.std.proofs.lemmas.Bool.Decides.{nat_tests, Decides-eqb}
use Rattle.std.proofs.lemmas.List.{map-append}
use Rattle.std.specs.List.{list_any, fold}
use Rattle.am_base.specs.declared.word.Width.{Width}
use Rattle.am_base.specs.declared.word.Cast.{Cast}
use Rattle.am_base.specs.declared.word.Cast.TheVariants.{Trunc, ZExt, SExt, PtrToInt, IntToPtr}
use Rattle.am_base.specs.Word.{IsWord, word_of}
use Rattle.code_form.specs.declared.code.TyScalar.{TyScalar}
use Rattle.code_form.specs.declared.code.TyScalar.TheVariants.{Int, Ptr}
use Rattle.code_form.specs.declared.instr.Operand.{Operand}
use Rattle.code_form.specs.Sound.{width_of, HasType, Gives, CastFits, AreDistinct}
use Rattle.ir_tree.specs.declared.type_text.TyText.{TyText}
use Rattle.ir_tree.specs.declared.operand.Opd.{Opd}
use Rattle.ir_tree.specs.declared.operand.Opd.TheVariants as opd
use Rattle.ir_rules.specs.Settings.{Setting}
use Rattle.ir_rules.specs.Operands.{cast_differs}
use Rattle.ir_rules.specs.Blocks.{has}
use Rattle.ir_rules.specs.Paths.{kind_width, Case, case_word, no_case, same_word, two_equal, wrong_width}
use Rattle.ir_rules.specs.Codes.{width_in, entry_once, case_code}
use Rattle.ir_sound.proofs.Lists.{no, neither, both, Each, none-each, each-append, each-at, get-cases}
use Rattle.ir_sound.proofs.Operands.{one-fits, zero-fits, word-fits}

-- ---- numbers that stand once

absent-last : (ns : List ℕ) (n i : ℕ) → has ns n ≡ false → slice_get ns i ≡ Some n → ⊥
absent-last ns n i h e =
    let other : nat_eq n n ≡ false = each-at (λ m. nat_eq n m ≡ false) ns i n (none-each (nat_eq n) ns h) e in
    let same : nat_eq n n ≡ true = (Decides-eqb n n).1 refl in
    cc

distinct-last : (ns : List ℕ) (n : ℕ) → AreDistinct ns → has ns n ≡ false → AreDistinct (ns ++ n ∷ [])
distinct-last ns n d h i j m f g = elim (get-cases ns n i m f) [
  | inl a ↦ elim (get-cases ns n j m g) [
    | inl b ↦ d i j m a b
    | inr b ↦ (let there : slice_get ns i ≡ Some n = a ∙ ap Some (sym b.1) in absurd (absent-last ns n i h there))
  ]
  | inr a ↦ elim (get-cases ns n j m g) [
    | inl b ↦ (let there : slice_get ns j ≡ Some n = b ∙ ap Some (sym a.1) in absurd (absent-last ns n j h there))
    | inr b ↦ a.0 ∙ sym b.0
  ]
]

abbrev pub Entry : Type 0
Entry = ℕ × Operand

abbrev pub numbers : List Entry → List ℕ
numbers es = map (λ (e : Entry). e.0) es

once-distinct : (done : List Entry) (e : Entry) → AreDistinct (numbers done) → AreDistinct (numbers (entry_once done e))
once-distinct done e d = by (has (numbers done) e.0) refl
  where
    by : (b : Bool) → has (numbers done) e.0 ≡ b → AreDistinct (numbers (if b then done else done ++ e ∷ []))
    by true h = d
    by false h = subst AreDistinct (sym (map-append (λ (e : Entry). e.0) done (e ∷ []))) (distinct-last (numbers done) e.0 d h)

pub all-distinct : (es done : List Entry) → AreDistinct (numbers done) → AreDistinct (numbers (fold entry_once done es))
all-distinct [] done d = d
all-distinct (e ∷ es) done d = all-distinct es (entry_once done e) (once-distinct done e d)

once-each : (P : Entry → Type 0) (done : List Entry) (e : Entry) → Each P done → P e → Each P (entry_once done e)
once-each P done e all h = by (has (numbers done) e.0)
  where
    by : (b : Bool) → Each P (if b then done else done ++ e ∷ [])
    by true = all
    by false = each-append P done (e ∷ []) all (h, tt)

pub all-once : (P : Entry → Type 0) (es done : List Entry) → Each P done → Each P es → Each P (fold entry_once done es)
all-once P [] done all h = all
all-once P (e ∷ es) done all h = all-once P es (entry_once done e) (once-each P done e all h.0) h.1

-- ---- conversions

module _ (types : List TyScalar) (r : Option ℕ) where
  cast-at : (c : Cast) (a : Operand) (j k : TyScalar) → cast_differs c (Some j) (Some k) ≡ false → wrong_width c (Some j) (Some k) ≡ false
      → HasType types j a → Gives types r k → CastFits types r c (width_of j) (width_of k) a
  cast-at Trunc a (Int v) (Int w) d n h g = (let l = no _ n in grind (arith, nat_tests), h, g)
  cast-at ZExt a (Int v) (Int w) d n h g = (let l = no _ n in grind (arith, nat_tests), h, g)
  cast-at SExt a (Int v) (Int w) d n h g = (let l = no _ n in grind (arith, nat_tests), h, g)
  cast-at PtrToInt a Ptr (Int w) d n h g = (refl, h, g)
  cast-at IntToPtr a (Int v) Ptr d n h g = (refl, h, g)
  cast-at _ a _ _ d n h g = cc

  pub cast-fits : (c : Cast) (a : Operand) (o p : Option TyScalar) (j k : TyScalar) → o ≡ Some j → p ≡ Some k → cast_differs c o p ≡ false
      → wrong_width c o p ≡ false
      → HasType types j a → Gives types r k → CastFits types r c (kind_width o) (kind_width p) a
  cast-fits c a o p j k e f d n h g =
      let P : Option TyScalar → Type 0 = λ o. CastFits types r c (kind_width o) (kind_width p) a in
      let Q : Option TyScalar → Type 0 = λ p. CastFits types r c (kind_width (Some j)) (kind_width p) a in
      let same : cast_differs c (Some j) (Some k) ≡ false = sym (ap (λ o. cast_differs c o p) e ∙ ap (cast_differs c (Some j)) f) ∙ d in
      let wide : wrong_width c (Some j) (Some k) ≡ false = sym (ap (λ o. wrong_width c o p) e ∙ ap (wrong_width c (Some j)) f) ∙ n in
      subst P (sym e) (subst Q (sym f) (cast-at c a j k same wide h g))

-- ---- cases of a `switch`

module _ (s : Setting) (t : TyText) where
  abbrev pub Good : Case → Type 0
  Good c = no_case s.kind t c ≡ false

  abbrev pub word_at : Case → Option ℕ
  word_at c = case_word (width_in s t) c.1

  good-word : (c : Case) → Good c → (n : ℕ) × (word_at c ≡ Some n)
  good-word c h = by (word_at c) refl
    where
      by : (o : Option ℕ) → word_at c ≡ o → (n : ℕ) × (word_at c ≡ Some n)
      by (Some n) e = (n, e)
      by None e =
          let all = both _ _ (no _ h) in
          let none : false ≡ true = sym (ap is_some e) ∙ all.0 in cc

  word-within : (w : Width) (a : Opd) (n : ℕ) → case_word w a ≡ Some n → IsWord w n
  word-within w (opd.Number z) n h = let same : word_of w z ≡ n = cc in let P : ℕ → Type 0 = λ n. IsWord w n in subst P same (word-fits w z)
  word-within w opd.True n h = let same : 1 ≡ n = cc in let P : ℕ → Type 0 = λ n. IsWord w n in subst P same (one-fits w)
  word-within w opd.False n h = let same : 0 ≡ n = cc in let P : ℕ → Type 0 = λ n. IsWord w n in subst P same (zero-fits w)
  word-within w (opd.Local a) n h = cc
  word-within w (opd.Global a) n h = cc
  word-within w opd.Null n h = cc
  word-within w opd.Undef n h = cc
  word-within w opd.Poison n h = cc
  word-within w opd.Zero n h = cc
  word-within w (opd.Get g) n h = cc

  pub case-word : (c : Case) → Good c → IsWord (width_in s t) (case_code s t c).0
  case-word c h =
      let w = good-word c h in
      let P : ℕ → Type 0 = λ n. IsWord (width_in s t) n in
      subst P (sym (ap (λ o. unwrap_or o 0) w.1)) (word-within (width_in s t) c.1 w.0 w.1)

  abbrev pub words : List Case → List ℕ
  words cs = map (λ (c : ℕ × ℕ). c.0) (map (case_code s t) cs)

  absent : (cs : List Case) (n : ℕ) → list_any (same_word (Some n)) (map word_at cs) ≡ false → Each Good cs → (i : ℕ) → slice_get (words cs) i ≡ Some n → ⊥
  absent [] n h all i e = cc
  absent (c ∷ cs) n h all zero e =
      let two = neither (same_word (Some n) (word_at c)) _ h in
      let w = good-word c all.0 in
      let here : unwrap_or (word_at c) 0 ≡ n = cc in
      let same : w.0 ≡ n = sym (ap (λ o. unwrap_or o 0) w.1) ∙ here in
      let other : nat_eq n w.0 ≡ false = sym (ap (same_word (Some n)) w.1) ∙ two.0 in
      let is : nat_eq n w.0 ≡ true = (Decides-eqb n w.0).1 (sym same) in
      cc
  absent (c ∷ cs) n h all (suc i) e = absent cs n (neither (same_word (Some n) (word_at c)) _ h).1 all.1 i e

  pub cases-distinct : (cs : List Case) → two_equal (map word_at cs) ≡ false → Each Good cs → AreDistinct (words cs)
  cases-distinct [] h all i j n f g = cc
  cases-distinct (c ∷ cs) h all zero zero n f g = refl
  cases-distinct (c ∷ cs) h all zero (suc j) n f g = absurd (
      let w = good-word c all.0 in
      let here : unwrap_or (word_at c) 0 ≡ n = cc in
      let same : w.0 ≡ n = sym (ap (λ o. unwrap_or o 0) w.1) ∙ here in
      let other = (neither (list_any (same_word (word_at c)) (map word_at cs)) _ h).0 in
      let P : Option ℕ → Type 0 = λ o. list_any (same_word o) (map word_at cs) ≡ false in
      absent cs n (subst P (w.1 ∙ ap Some same) other) all.1 j g)
  cases-distinct (c ∷ cs) h all (suc i) zero n f g = absurd (
      let w = good-word c all.0 in
      let here : unwrap_or (word_at c) 0 ≡ n = cc in
      let same : w.0 ≡ n = sym (ap (λ o. unwrap_or o 0) w.1) ∙ here in
      let other = (neither (list_any (same_word (word_at c)) (map word_at cs)) _ h).0 in
      let P : Option ℕ → Type 0 = λ o. list_any (same_word o) (map word_at cs) ≡ false in
      absent cs n (subst P (w.1 ∙ ap Some same) other) all.1 i f)
  cases-distinct (c ∷ cs) h all (suc i) (suc j) n f g =
      ap suc (cases-distinct cs (neither (list_any (same_word (word_at c)) (map word_at cs)) _ h).1 all.1 i j n f g)
