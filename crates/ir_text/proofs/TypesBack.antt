-- Types are read again.
use Rattle.std.proofs.Common.{◌≡◌, ℕ, zero, suc, ◌^◌, ◌≤◌, true, List, [], ◌∷◌, ◌++◌, map, codes, refl, sym, ap, ◌∙◌, subst, arith}
use Rattle.std.proofs.lemmas.List.{append_assoc}
use Rattle.am_base.specs.declared.word.Width.{Width}
use Rattle.am_base.specs.declared.word.Width.TheVariants as width
use Rattle.am_base.specs.declared.limits.TheConstants.{MAX_NESTING}
use Rattle.ir_tokens.specs.Bytes.{Text}
use Rattle.ir_tokens.specs.declared.token.TokenKind.TheVariants as kind
use Rattle.ir_tree.specs.declared.name.Name.{Name}
use Rattle.ir_tree.specs.declared.type_text.TyText.{TyText}
use Rattle.ir_tree.specs.declared.type_text.TyText.TheVariants as ty
use Rattle.ir_tree.specs.declared.type_text.TyText.TheOpen.{TyText-F}
use Rattle.ir_tree.specs.declared.type_text.TyText.TheFolds.{fold-roll-TyText}
use Rattle.ir_grammar.specs.declared.starts.TypeStart.{TypeStart}
use Rattle.ir_grammar.specs.declared.starts.TypeStart.TheVariants as types
use Rattle.ir_grammar.specs.Lexeme.{Lexemes}
use Rattle.ir_grammar.specs.Rule.{Rule, look}
use Rattle.ir_grammar.specs.Starts.{type_start, type_word, sees_type}
use Rattle.ir_grammar.specs.Types.{simple, array, struct, nested, type_in, type_text}
use Rattle.ir_text.specs.Spelling.{width_word, word, sign, local, array_length}
use Rattle.ir_text.specs.Parts.{with_commas, type_step, type_lexemes}
use Rattle.ir_text.specs.ReadBack.{EachOf}
use Rattle.ir_text.proofs.Gives.{Gives, Any, gives-bind, gives-pure, gives-one, gives-refuse, gives-look, gives-listed, any-one, gives-map}
use Rattle.ir_text.proofs.Back.{Always, Back, back-pure, back-step, back-then, back-then_if, back-look, back-same}
use Rattle.ir_text.proofs.Values.{IsKept, local-kept, local-again, length-kept, length-again}
use Rattle.ir_text.proofs.FixedTokens.{sign-fixed, word-fixed, width-fixed, local-fixed, length-fixed}
use Rattle.ir_text.proofs.ListsBack.{Element, Elements, Closes, listed-back}

-- ---- the lexemes, level by level

pub lexemes-Int : (w : Width) → type_lexemes (ty.Int w) ≡ word (width_word w) ∷ []
unfolding type_lexemes
lexemes-Int w = ap type_lexemes (sym (ty.rolls-Int w)) ∙ fold-roll-TyText Lexemes type_step (TyText-F.Int w)

pub lexemes-Ptr : type_lexemes ty.Ptr ≡ word (codes "ptr") ∷ []
unfolding type_lexemes
lexemes-Ptr = ap type_lexemes (sym ty.rolls-Ptr) ∙ fold-roll-TyText Lexemes type_step TyText-F.Ptr

pub lexemes-Void : type_lexemes ty.Void ≡ word (codes "void") ∷ []
unfolding type_lexemes
lexemes-Void = ap type_lexemes (sym ty.rolls-Void) ∙ fold-roll-TyText Lexemes type_step TyText-F.Void

pub lexemes-Named : (n : Name) → type_lexemes (ty.Named n) ≡ local n ∷ []
unfolding type_lexemes
lexemes-Named n = ap type_lexemes (sym (ty.rolls-Named n)) ∙ fold-roll-TyText Lexemes type_step (TyText-F.Named n)

pub lexemes-Array : (n : ℕ) (of : TyText) → type_lexemes (ty.Array n of) ≡ sign 91 ∷ array_length n ∷ word (codes "x") ∷ (type_lexemes of ++ sign 93 ∷ [])
unfolding type_lexemes
lexemes-Array n of = ap type_lexemes (sym (ty.rolls-Array n of)) ∙ fold-roll-TyText Lexemes type_step (TyText-F.Array n of)

pub lexemes-Struct : (fields : List TyText) → type_lexemes (ty.Struct fields) ≡ sign 123 ∷ (with_commas (map type_lexemes fields) ++ sign 125 ∷ [])
unfolding type_lexemes
lexemes-Struct fields = ap type_lexemes (sym (ty.rolls-Struct fields)) ∙ fold-roll-TyText Lexemes type_step (TyText-F.Struct fields)

-- ---- how a type begins

pub data TypeHead : Lexemes → Type 0 where
  int : (w : Width) (ts : Lexemes) → TypeHead (word (width_word w) ∷ ts)
  pointer : (ts : Lexemes) → TypeHead (word (codes "ptr") ∷ ts)
  square : (ts : Lexemes) → TypeHead (sign 91 ∷ ts)
  curly : (ts : Lexemes) → TypeHead (sign 123 ∷ ts)
  named : (s : Text) (ts : Lexemes) → TypeHead ((kind.Local, s) ∷ ts)

pub head-sees_type : (ts : Lexemes) → TypeHead ts → sees_type ts ≡ true
unfolding sees_type type_start type_word
head-sees_type _ (int width.W1 ts) = refl
head-sees_type _ (int width.W8 ts) = refl
head-sees_type _ (int width.W16 ts) = refl
head-sees_type _ (int width.W32 ts) = refl
head-sees_type _ (int width.W64 ts) = refl
head-sees_type _ (pointer ts) = refl
head-sees_type _ (square ts) = refl
head-sees_type _ (curly ts) = refl
head-sees_type _ (named s ts) = refl

-- a type that is read again by the rule that its start decides
record Begun (s : TypeStart) (p : Rule TyText) (t : TyText) : Type 0 where
  pub starts : (after : Lexemes) → type_start (type_lexemes t ++ after) ≡ s
  pub back : Back p (type_lexemes t) t Always
  pub head : (after : Lexemes) → TypeHead (type_lexemes t ++ after)

begun : (s : TypeStart) (p : Rule TyText) (t : TyText) (a : Lexemes) → type_lexemes t ≡ a → ((after : Lexemes) → type_start (a ++ after) ≡ s)
    → Back p a t Always → ((after : Lexemes) → TypeHead (a ++ after)) → Begun s p t
begun s p t a e f b h = record {
  starts = λ after. ap (λ c. type_start (c ++ after)) e ∙ f after;
  back = back-same p _ a t _ e b;
  head = λ after. subst (λ c. TypeHead (c ++ after)) (sym e) (h after);
}

width-start : (w : Width) (after : Lexemes) → type_start (word (width_word w) ∷ after) ≡ types.Int w
unfolding type_start type_word
width-start width.W1 after = refl
width-start width.W8 after = refl
width-start width.W16 after = refl
width-start width.W32 after = refl
width-start width.W64 after = refl

ptr-start : (after : Lexemes) → type_start (word (codes "ptr") ∷ after) ≡ types.Ptr
unfolding type_start type_word
ptr-start after = refl

other-start : (after : Lexemes) → (type_start (sign 91 ∷ after) ≡ types.Square) × (type_start (sign 123 ∷ after) ≡ types.Curly)
    × ((s : Text) → type_start ((kind.Local, s) ∷ after) ≡ types.Named)
unfolding type_start
other-start after = (refl, refl, λ s. refl)

simple-gives : (s : TypeStart) → Gives (simple s) (Begun s (simple s))
simple-gives (types.Int w) = gives-bind _ _ Any _ (any-one _)
    (λ _ _. gives-pure _ _ (begun _ _ _ _ (lexemes-Int w) (width-start w) (back-step _ _ _ tt _ _ _ (width-fixed w) refl (back-pure _ _)) (int w)))
simple-gives types.Ptr = gives-bind _ _ Any _ (any-one _) (λ _ _. gives-pure _ _
    (begun _ _ _ _ lexemes-Ptr ptr-start (back-step _ _ _ tt _ _ _ (word-fixed (codes "ptr") refl (omega arith) refl) refl (back-pure _ _)) pointer))
simple-gives types.Named = gives-bind _ _ IsKept _ (gives-one _ IsKept local-kept)
    (λ n k. gives-pure _ _ (begun _ _ _ _ (lexemes-Named n) (λ after. (other-start after).2 _) (back-step _ _ _ n _ _ _ (local-fixed n k) (local-again n k)
    (back-pure _ _)) (named _)))
simple-gives types.Square = gives-refuse _
simple-gives types.Curly = gives-refuse _
simple-gives types.Nothing = gives-refuse _

-- a type that is read again
pub record TypeBack (p : Rule TyText) (t : TyText) : Type 0 where
  pub back : Back p (type_lexemes t) t Always
  pub head : (after : Lexemes) → TypeHead (type_lexemes t ++ after)

pub type-element : (p : Rule TyText) (t : TyText) → TypeBack p t → Element sees_type p (type_lexemes t) t Always
type-element p t b = record { back = b.back; begins_so = λ after. head-sees_type _ (b.head after) }

-- how it begins where more is written behind it
pub type-head : (p : Rule TyText) (t : TyText) (b : Lexemes) → TypeBack p t → (after : Lexemes) → TypeHead ((type_lexemes t ++ b) ++ after)
type-head p t b k after = subst TypeHead (sym (append_assoc (type_lexemes t) b after)) (k.head (b ++ after))

pub type-begins : (p : Rule TyText) (t : TyText) (b : Lexemes) → TypeBack p t → (after : Lexemes) → sees_type ((type_lexemes t ++ b) ++ after) ≡ true
type-begins p t b k after = head-sees_type _ (type-head p t b k after)

type-elements : (p : Rule TyText) (ts : List TyText) → EachOf (TypeBack p) ts → Elements sees_type p type_lexemes Always ts
type-elements p [] bs = tt
type-elements p (t ∷ ts) (b, bs) = (type-element p t b, type-elements p ts bs)

module _ (inner : Rule TyText) (g : Gives inner (TypeBack inner)) where
  array-begun : (n : ℕ) (of : TyText) → n ≤ 2 ^ 32 → TypeBack inner of → Begun types.Square (array inner) (ty.Array n of)
  array-begun n of h b = begun _ _ _ _ (lexemes-Array n of) (λ after. (other-start _).0)
      (back-step _ _ _ tt _ _ _ (sign-fixed 91 refl) refl (back-step _ _ _ n _ _ _ (length-fixed n h) (length-again n h)
      (back-step _ _ _ tt _ _ _ (word-fixed (codes "x") refl (omega arith) refl) refl
      (back-then _ _ _ of _ _ _ b.back (back-step _ _ _ tt _ _ _ (sign-fixed 93 refl) refl (back-pure _ _))))))
      (λ after. square _)

  array-gives : Gives (array inner) (Begun types.Square (array inner))
  array-gives = gives-bind _ _ Any _ (any-one _) (λ _ _. gives-bind _ _ (λ n. n ≤ 2 ^ 32) _ (gives-one _ (λ n. n ≤ 2 ^ 32) (λ l n _ e. length-kept l n e))
      (λ n h. gives-bind _ _ Any _ (any-one _) (λ _ _.
      gives-bind _ _ (TypeBack inner) _ g (λ of b. gives-bind _ _ Any _ (any-one _) (λ _ _. gives-pure _ _ (array-begun n of h b))))))

  closes : (after : Lexemes) → Closes sees_type inner type_lexemes Always (λ _. tt) (sign 125 ∷ after)
  unfolding sees_type type_start
  closes after = record { no_comma = refl; no_more = refl; after_element = tt }

  struct-begun : (fields : List TyText) → EachOf (TypeBack inner) fields → Begun types.Curly (struct inner) (ty.Struct fields)
  struct-begun fields bs = begun _ _ _ _ (lexemes-Struct fields) (λ after. (other-start _).1)
      (back-step _ _ _ tt _ _ _ (sign-fixed 123 refl) refl (back-then_if _ _ _ fields _ _ _ _ (listed-back sees_type inner type_lexemes Always (λ _. tt) fields
      (type-elements inner fields bs)) (λ after _. closes after)
      (back-step _ _ _ tt _ _ _ (sign-fixed 125 refl) refl (back-pure _ _))))
      (λ after. curly _)

  struct-gives : Gives (struct inner) (Begun types.Curly (struct inner))
  struct-gives = gives-bind _ _ Any _ (any-one _) (λ _ _. gives-bind _ _ (EachOf (TypeBack inner)) _ (gives-listed sees_type inner _ g)
      (λ fields bs. gives-bind _ _ Any _ (any-one _) (λ _ _. gives-pure _ _ (struct-begun fields bs))))

  nested-gives : (s : TypeStart) → Gives (nested inner s) (Begun s (nested inner s))
  nested-gives types.Square = array-gives
  nested-gives types.Curly = struct-gives
  nested-gives (types.Int w) = simple-gives (types.Int w)
  nested-gives types.Ptr = simple-gives types.Ptr
  nested-gives types.Named = simple-gives types.Named
  nested-gives types.Nothing = simple-gives types.Nothing

by_start : (k : TypeStart → Rule TyText) → ((s : TypeStart) → Gives (k s) (Begun s (k s))) → Gives (look type_start k) (TypeBack (look type_start k))
by_start k g = gives-look type_start k _ (λ s. gives-map (k s) (Begun s (k s)) _
    (λ t b. record { back = back-look type_start k s _ t _ (λ after _. b.starts after) b.back; head = b.head }) (g s))

pub type_in-gives : (depth : ℕ) → Gives (type_in depth) (TypeBack (type_in depth))
unfolding type_in
type_in-gives zero = by_start simple simple-gives
type_in-gives (suc depth) = by_start (nested (type_in depth)) (nested-gives (type_in depth) (type_in-gives depth))

pub type-gives : Gives type_text (TypeBack type_text)
type-gives = type_in-gives MAX_NESTING
