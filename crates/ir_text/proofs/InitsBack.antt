-- Initialisers are read again.
use Rattle.std.proofs.Common.{◌≡◌, ℕ, zero, suc, Bool, true, false, List, [], ◌∷◌, ◌++◌, map, refl, sym, ap, ◌∙◌}
use Rattle.am_base.specs.declared.limits.TheConstants.{MAX_NESTING}
use Rattle.ir_tokens.specs.Bytes.{Text}
use Rattle.ir_tree.specs.declared.type_text.TyText.{TyText}
use Rattle.ir_tree.specs.declared.operand.Opd.{Opd}
use Rattle.ir_tree.specs.declared.operand.Init.{Init}
use Rattle.ir_tree.specs.declared.operand.Init.TheVariants as initial
use Rattle.ir_tree.specs.declared.operand.Init.TheOpen.{Init-F}
use Rattle.ir_tree.specs.declared.operand.Init.TheFolds.{fold-roll-Init}
use Rattle.ir_grammar.specs.Lexeme.{Lexemes, sees_sign, sees_cstring}
use Rattle.ir_grammar.specs.Rule.{Rule, refuse, where_it}
use Rattle.ir_grammar.specs.Starts.{sees_type, type_start}
use Rattle.ir_grammar.specs.Types.{type_text}
use Rattle.ir_grammar.specs.Operands.{element, init_array, init_struct, init_simple, init_in, initialiser}
use Rattle.ir_text.specs.Spelling as canon
use Rattle.ir_text.specs.Spelling.{word, sign}
use Rattle.ir_text.specs.Parts as parts
use Rattle.ir_text.specs.Parts.{with_commas, type_lexemes, operand_lexemes, init_step, init_lexemes, init_element}
use Rattle.ir_text.specs.ReadBack.{EachOf}
use Rattle.ir_text.proofs.Gives.{Bytes, Gives, Any, gives-map, gives-bind, gives-pure, gives-one, gives-refuse, gives-where_it, gives-listed, any-one}
use Rattle.ir_text.proofs.Back.{Always, Back, back-pure, back-step, back-then, back-then_if, back-last, back-yes, back-no, back-same}
use Rattle.ir_text.proofs.Values.{cstring-kept, cstring-again}
use Rattle.ir_text.proofs.FixedTokens.{sign-fixed, cstring-fixed}
use Rattle.ir_text.proofs.ListsBack.{Element, Closes, listed-back}
use Rattle.ir_text.proofs.TypesBack.{TypeBack, type-begins, type-gives}
use Rattle.ir_text.proofs.OperandsBack.{OperandBack, operand-no_init, operand-gives}

pub lexemes-One : (x : Opd) → init_lexemes (initial.One x) ≡ operand_lexemes x
unfolding init_lexemes
lexemes-One x = ap init_lexemes (sym (initial.rolls-One x)) ∙ fold-roll-Init Lexemes init_step (Init-F.One x)

pub lexemes-Text : (s : Text) → init_lexemes (initial.Text s) ≡ canon.cstring s ∷ []
unfolding init_lexemes
lexemes-Text s = ap init_lexemes (sym (initial.rolls-Text s)) ∙ fold-roll-Init Lexemes init_step (Init-F.Text s)

pub maps : {A B C : Type 0} (f : B → C) (g : A → B) (xs : List A) → map f (map g xs) ≡ map (λ x. f (g x)) xs
maps f g [] = refl
maps f g (x ∷ xs) = ap (λ ys. f (g x) ∷ ys) (maps f g xs)

pub lexemes-Array : (elements : List (TyText × Init)) → init_lexemes (initial.Array elements) ≡ sign 91 ∷
    (with_commas (map init_element elements) ++ sign 93 ∷ [])
unfolding init_lexemes
lexemes-Array elements = ap init_lexemes (sym (initial.rolls-Array elements)) ∙ fold-roll-Init Lexemes init_step (Init-F.Array elements)
    ∙ ap (λ each. sign 91 ∷ (with_commas each ++ sign 93 ∷ [])) (maps parts.element _ elements)

pub lexemes-Struct : (fields : List (TyText × Init)) → init_lexemes (initial.Struct fields) ≡ sign 123 ∷
    (with_commas (map init_element fields) ++ sign 125 ∷ [])
unfolding init_lexemes
lexemes-Struct fields = ap init_lexemes (sym (initial.rolls-Struct fields)) ∙ fold-roll-Init Lexemes init_step (Init-F.Struct fields)
    ∙ ap (λ each. sign 123 ∷ (with_commas each ++ sign 125 ∷ [])) (maps parts.element _ fields)

-- ---- initialisers

abbrev pub InitBack : Rule Init → Init → Type 0
InitBack p x = Back p (init_lexemes x) x Always

-- one that is read again by its own rule, and begins as the others don't
record Begun (square curly : Bool) (p : Rule Init) (x : Init) : Type 0 where
  pub back : Back p (init_lexemes x) x Always
  pub square_first : (after : Lexemes) → sees_sign 91 (init_lexemes x ++ after) ≡ square
  pub curly_first : (after : Lexemes) → sees_sign 123 (init_lexemes x ++ after) ≡ curly

begun : (square curly : Bool) (p : Rule Init) (x : Init) (a : Lexemes) → init_lexemes x ≡ a → Back p a x Always
    → ((after : Lexemes) → (sees_sign 91 (a ++ after) ≡ square) × (sees_sign 123 (a ++ after) ≡ curly)) → Begun square curly p x
begun square curly p x a e b h = record {
  back = back-same p _ a x _ e b;
  square_first = λ after. ap (λ c. sees_sign 91 (c ++ after)) e ∙ (h after).0;
  curly_first = λ after. ap (λ c. sees_sign 123 (c ++ after)) e ∙ (h after).1;
}

one-begun : (x : Opd) → OperandBack x → Begun false false init_simple (initial.One x)
one-begun x b = begun _ _ _ _ _ (lexemes-One x) (back-no sees_cstring _ _ _ _ _ (λ after _. (operand-no_init _ (b.head after)).2) (back-last _ _ _ x _ b.back))
    (λ after. let no = operand-no_init _ (b.head after) in (no.0, no.1))

text-begun : (s : Text) → Bytes s → Begun false false init_simple (initial.Text s)
text-begun s k = begun _ _ _ _ _ (lexemes-Text s) (back-yes sees_cstring _ _ _ _ _ (λ after _. refl)
    (back-step _ _ _ s _ _ _ (cstring-fixed s k) (cstring-again s k) (back-pure _ _))) (λ after. (refl, refl))

simple-gives : Gives init_simple (Begun false false init_simple)
simple-gives = gives-where_it _ _ _ _ (gives-bind _ _ Bytes _ (gives-one _ Bytes cstring-kept) (λ s k. gives-pure _ _ (text-begun s k)))
    (gives-bind _ _ OperandBack _ operand-gives (λ x b. gives-pure _ _ (one-begun x b)))

module _ (inner : Rule Init) (g : Gives inner (InitBack inner)) where
  abbrev Elem : TyText × Init → Type 0
  Elem e = Element sees_type (element inner) (init_element e) e Always

  element-gives : Gives (element inner) Elem
  element-gives = gives-bind _ _ (TypeBack type_text) _ type-gives
      (λ t b. gives-bind _ _ (InitBack inner) _ g (λ x c. gives-pure _ _ (record {
        back = back-then _ _ _ t _ _ _ b.back (back-last _ _ _ x _ c);
        begins_so =
            type-begins _ t _ b;
      })))

  square-closes : (after : Lexemes) → Closes sees_type (element inner) init_element Always (λ _. tt) (sign 93 ∷ after)
  unfolding sees_type type_start
  square-closes after = record { no_comma = refl; no_more = refl; after_element = tt }

  curly-closes : (after : Lexemes) → Closes sees_type (element inner) init_element Always (λ _. tt) (sign 125 ∷ after)
  unfolding sees_type type_start
  curly-closes after = record { no_comma = refl; no_more = refl; after_element = tt }

  array-begun : (elements : List (TyText × Init)) → EachOf Elem elements → Begun true false (init_array inner) (initial.Array elements)
  array-begun elements es = begun _ _ _ _ _ (lexemes-Array elements)
      (back-step _ _ _ tt _ _ _ (sign-fixed 91 refl) refl (back-then_if _ _ _ elements _ _ _ _ (listed-back sees_type (element inner) init_element Always
      (λ _. tt) elements es) (λ after _. square-closes after)
      (back-step _ _ _ tt _ _ _ (sign-fixed 93 refl) refl (back-pure _ _))))
      (λ after. (refl, refl))

  struct-begun : (fields : List (TyText × Init)) → EachOf Elem fields → Begun false true (init_struct inner) (initial.Struct fields)
  struct-begun fields es = begun _ _ _ _ _ (lexemes-Struct fields)
      (back-step _ _ _ tt _ _ _ (sign-fixed 123 refl) refl (back-then_if _ _ _ fields _ _ _ _ (listed-back sees_type (element inner) init_element Always
      (λ _. tt) fields es) (λ after _. curly-closes after)
      (back-step _ _ _ tt _ _ _ (sign-fixed 125 refl) refl (back-pure _ _))))
      (λ after. (refl, refl))

  array-gives : Gives (init_array inner) (Begun true false (init_array inner))
  array-gives = gives-bind _ _ Any _ (any-one _) (λ _ _. gives-bind _ _ (EachOf Elem) _ (gives-listed sees_type _ Elem element-gives)
      (λ xs es. gives-bind _ _ Any _ (any-one _) (λ _ _. gives-pure _ _ (array-begun xs es))))

  struct-gives : Gives (init_struct inner) (Begun false true (init_struct inner))
  struct-gives = gives-bind _ _ Any _ (any-one _) (λ _ _. gives-bind _ _ (EachOf Elem) _ (gives-listed sees_type _ Elem element-gives)
      (λ xs es. gives-bind _ _ Any _ (any-one _) (λ _ _. gives-pure _ _ (struct-begun xs es))))

-- the three, by what comes first
module _ (p q r : Rule Init) where
  abbrev others : Rule Init
  others = where_it (sees_sign 123) q r

  abbrev by_first : Rule Init
  by_first = where_it (sees_sign 91) p others

  by_first-gives : Gives p (Begun true false p) → Gives q (Begun false true q) → Gives r (Begun false false r) → Gives by_first (InitBack by_first)
  by_first-gives g h k = gives-where_it _ _ _ _
      (gives-map p _ _ (λ x b. back-yes (sees_sign 91) p others _ x _ (λ after _. b.square_first after) b.back) g)
      (gives-where_it _ _ _ _
      (gives-map q _ _ (λ x b. back-no (sees_sign 91) p others _ x _ (λ after _. b.square_first after)
      (back-yes (sees_sign 123) q r _ x _ (λ after _. b.curly_first after) b.back)) h)
      (gives-map r _ _ (λ x b. back-no (sees_sign 91) p others _ x _ (λ after _. b.square_first after)
      (back-no (sees_sign 123) q r _ x _ (λ after _. b.curly_first after) b.back)) k))

init_in-gives : (depth : ℕ) → Gives (init_in depth) (InitBack (init_in depth))
unfolding init_in
init_in-gives zero = by_first-gives refuse refuse init_simple (gives-refuse _) (gives-refuse _) simple-gives
init_in-gives (suc depth) = let g = init_in-gives depth in by_first-gives _ _ init_simple (array-gives (init_in depth) g)
    (struct-gives (init_in depth) g) simple-gives

pub init-gives : Gives initialiser (InitBack initialiser)
init-gives = init_in-gives MAX_NESTING
