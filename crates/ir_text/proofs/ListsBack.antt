-- Lists are read again where their elements are.
use Rattle.std.proofs.Common.{◌≡◌, Bool, true, false, List, [], ◌∷◌, ◌++◌, map, refl, sym, ap, subst}
use Rattle.std.proofs.lemmas.List.{append_assoc}
use Rattle.ir_grammar.specs.Lexeme.{Lexemes}
use Rattle.ir_grammar.specs.Rule.{Rule, ◌>>◌, sign, many, ReadsMany, comma_then, further, some_listed, listed}
use Rattle.ir_text.specs.Spelling.{comma}
use Rattle.ir_text.specs.Parts.{joined, behind_commas, with_commas}
use Rattle.ir_text.specs.ReadBack.{EachOf}
use Rattle.ir_text.proofs.Back.{AllFixed, fixed-append, Back, back-step, back-then_if, back-last, back-pure, back-yes, back-no, back-same}
use Rattle.ir_text.proofs.FixedTokens.{sign-fixed}

-- an element that is read again, and begins as one
pub record Element {A : Type 0} (begins : Lexemes → Bool) (p : Rule A) (a : Lexemes) (x : A) (F : Lexemes → Type 0) : Type 0 where
  pub back : Back p a x F
  pub begins_so : (after : Lexemes) → begins (a ++ after) ≡ true

module _ {A : Type 0} (begins : Lexemes → Bool) (p : Rule A) (lex : A → Lexemes) (F : Lexemes → Type 0) where
  abbrev pub Elements : List A → Type 0
  Elements xs = EachOf (λ x. Element begins p (lex x) x F) xs

  fixed : (xs : List A) → Elements xs → AllFixed (joined (map lex xs))
  fixed [] es = tt
  fixed (x ∷ xs) (e, es) = fixed-append (lex x) (joined (map lex xs)) e.back.fixed (fixed xs es)

  module _ (next : (x : A) (after : Lexemes) → F (lex x ++ after)) where
    follows : (xs : List A) (after : Lexemes) → F after → F (joined (map lex xs) ++ after)
    follows [] after f = f
    follows (x ∷ xs) after f = subst F (sym (append_assoc (lex x) (joined (map lex xs)) after)) (next x (joined (map lex xs) ++ after))

    again : (xs : List A) → Elements xs → (after : Lexemes) → begins after ≡ false → F after → ReadsMany begins p (joined (map lex xs) ++ after) xs after
    again [] es after b f = (b, refl)
    again (x ∷ xs) (e, es) after b f =
        let more = joined (map lex xs) ++ after in
        let apart = sym (append_assoc (lex x) (joined (map lex xs)) after) in (
          subst (λ ts. begins ts ≡ true) apart (e.begins_so more),
          more,
          subst (λ ts. p.reads ts x more) apart (e.back.again more (follows xs after f)),
          again xs es after b f,
        )

    pub many-back : (xs : List A) → Elements xs → Back (many begins p) (joined (map lex xs)) xs (λ after. (begins after ≡ false) × F after)
    many-back xs es = record { fixed = fixed xs es; again = λ after h. again xs es after h.0 h.1 }

module _ {A : Type 0} (begins : Lexemes → Bool) (p : Rule A) (lex : A → Lexemes) (F : Lexemes → Type 0) (next : (after : Lexemes) → F (comma ∷ after)) where
  abbrev behind_comma : A → Lexemes
  behind_comma x = comma ∷ lex x

  commas : (xs : List A) → behind_commas (map lex xs) ≡ joined (map behind_comma xs)
  commas [] = refl
  commas (x ∷ xs) = ap (λ more. (comma ∷ lex x) ++ more) (commas xs)

  each : (xs : List A) → Elements begins p lex F xs → Elements (comma_then begins) (sign 44 >> p) behind_comma F xs
  each [] es = tt
  each (x ∷ xs) (e, es) = (record { back = back-step _ _ comma tt (lex x) x F (sign-fixed 44 refl) refl e.back; begins_so = e.begins_so }, each xs es)

  pub further-back : (xs : List A) → Elements begins p lex F xs → Back (further begins p) (behind_commas (map lex xs)) xs
      (λ after. (comma_then begins after ≡ false) × F after)
  further-back xs es = back-same _ _ _ xs _ (commas xs) (many-back (comma_then begins) (sign 44 >> p) behind_comma F (λ x after. next (lex x ++ after)) xs
      (each xs es))

  -- what may follow a list with commas
  pub record Closes (after : Lexemes) : Type 0 where
    pub no_comma : comma_then begins after ≡ false
    pub no_more : begins after ≡ false
    pub after_element : F after

  follows_element : (xs : List A) (after : Lexemes) → F after → F (behind_commas (map lex xs) ++ after)
  follows_element [] after f = f
  follows_element (x ∷ xs) after f = next ((lex x ++ behind_commas (map lex xs)) ++ after)

  pub some-back : (x : A) (xs : List A) → Elements begins p lex F (x ∷ xs) → Back (some_listed begins p) (with_commas (map lex (x ∷ xs))) (x ∷ xs)
      (λ after. (comma_then begins after ≡ false) × F after)
  some-back x xs (e, es) = back-then_if p _ (lex x) x (behind_commas (map lex xs)) (x ∷ xs) F _ e.back (λ after h. follows_element xs after h.1)
      (back-last _ _ _ xs _ (further-back xs es))

  pub listed-back : (xs : List A) → Elements begins p lex F xs → Back (listed begins p) (with_commas (map lex xs)) xs Closes
  listed-back [] es = back-no begins _ _ [] [] _ (λ after h. h.no_more) (back-pure [] _)
  listed-back (x ∷ xs) (e, es) = back-yes begins _ _ _ (x ∷ xs) _
      (λ after h. subst (λ ts. begins ts ≡ true) (sym (append_assoc (lex x) (behind_commas (map lex xs)) after))
      (e.begins_so (behind_commas (map lex xs) ++ after)))
      (let b = some-back x xs (e, es) in record { fixed = b.fixed; again = λ after h. b.again after (h.no_comma, h.after_element) })
