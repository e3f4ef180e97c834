-- Operands and initialisers are read again.
use Rattle.std.proofs.Common.{◌≡◌, false, List, [], ◌∷◌, ◌++◌, ℤ, codes, refl, sym, ap, ◌∙◌, subst, arith}
use Rattle.ir_tokens.specs.Bytes.{Text}
use Rattle.ir_tokens.specs.declared.token.TokenKind.TheVariants as kind
use Rattle.ir_tree.specs.declared.name.Name.{Name}
use Rattle.ir_tree.specs.declared.type_text.TyText.{TyText}
use Rattle.ir_tree.specs.declared.operand.Opd.{Opd}
use Rattle.ir_tree.specs.declared.operand.Opd.TheVariants as opd
use Rattle.ir_grammar.specs.declared.starts.OperandStart.{OperandStart}
use Rattle.ir_grammar.specs.declared.starts.OperandStart.TheVariants as operands
use Rattle.ir_grammar.specs.Lexeme.{Lexemes, sees_sign, sees_cstring}
use Rattle.ir_grammar.specs.Starts.{operand_start, operand_word, sees_type, sees_skip, skip_start, skip_word, is_stop_word, op_word, sees_flag, flag_start}
use Rattle.ir_grammar.specs.Types.{type_text}
use Rattle.ir_grammar.specs.Skips.{flagged}
use Rattle.ir_grammar.specs.Operands.{constant_index, get_constant, operand_by, operand, typed_operand}
use Rattle.ir_text.specs.Spelling.{word, sign}
use Rattle.ir_text.specs.Parts as parts
use Rattle.ir_text.specs.Parts.{type_lexemes, operand_lexemes, typed}
use Rattle.ir_text.specs.ReadBack.{EachOf, IsWide}
use Rattle.ir_text.proofs.Gives.{Gives, Any, gives-map, gives-bind, gives-pure, gives-one, gives-refuse, gives-look, gives-further, any-one}
use Rattle.ir_text.proofs.Back.{Fixed, Always, Back, back-pure, back-step, back-then, back-then_if, back-last, back-none, back-look, back-same}
use Rattle.ir_text.proofs.Values.{IsKept, local-kept, local-again, global-kept, global-again, integer-kept, integer-again}
use Rattle.ir_text.proofs.FixedTokens.{sign-fixed, word-fixed, local-fixed, global-fixed, number-fixed}
use Rattle.ir_text.proofs.ListsBack.{Element, further-back}
use Rattle.ir_text.proofs.TypesBack.{TypeBack, type-begins, type-gives}
use Rattle.ir_text.proofs.Skipped.{flagged-any, flagged-none}

-- ---- how an operand begins

pub data OperandHead : Lexemes → Type 0 where
  local : (s : Text) (ts : Lexemes) → OperandHead ((kind.Local, s) ∷ ts)
  global : (s : Text) (ts : Lexemes) → OperandHead ((kind.Global, s) ∷ ts)
  number : (s : Text) (ts : Lexemes) → OperandHead ((kind.Number, s) ∷ ts)
  yes : (ts : Lexemes) → OperandHead (word (codes "true") ∷ ts)
  no : (ts : Lexemes) → OperandHead (word (codes "false") ∷ ts)
  null : (ts : Lexemes) → OperandHead (word (codes "null") ∷ ts)
  undef : (ts : Lexemes) → OperandHead (word (codes "undef") ∷ ts)
  poison : (ts : Lexemes) → OperandHead (word (codes "poison") ∷ ts)
  zeros : (ts : Lexemes) → OperandHead (word (codes "zeroinitializer") ∷ ts)
  get : (ts : Lexemes) → OperandHead (word (codes "getelementptr") ∷ ts)

pub operand-no_skip : (ts : Lexemes) → OperandHead ts → sees_skip ts ≡ false
unfolding sees_skip skip_start skip_word is_stop_word op_word
operand-no_skip _ (local s ts) = refl
operand-no_skip _ (global s ts) = refl
operand-no_skip _ (number s ts) = refl
operand-no_skip _ (yes ts) = refl
operand-no_skip _ (no ts) = refl
operand-no_skip _ (null ts) = refl
operand-no_skip _ (undef ts) = refl
operand-no_skip _ (poison ts) = refl
operand-no_skip _ (zeros ts) = refl
operand-no_skip _ (get ts) = refl

-- an operand is no other initialiser
pub operand-no_init : (ts : Lexemes) → OperandHead ts → (sees_sign 91 ts ≡ false) × (sees_sign 123 ts ≡ false) × (sees_cstring ts ≡ false)
operand-no_init _ (local s ts) = (refl, refl, refl)
operand-no_init _ (global s ts) = (refl, refl, refl)
operand-no_init _ (number s ts) = (refl, refl, refl)
operand-no_init _ (yes ts) = (refl, refl, refl)
operand-no_init _ (no ts) = (refl, refl, refl)
operand-no_init _ (null ts) = (refl, refl, refl)
operand-no_init _ (undef ts) = (refl, refl, refl)
operand-no_init _ (poison ts) = (refl, refl, refl)
operand-no_init _ (zeros ts) = (refl, refl, refl)
operand-no_init _ (get ts) = (refl, refl, refl)

-- ---- operands

-- an operand that is read again by the rule that its start decides
record Begun (s : OperandStart) (x : Opd) : Type 0 where
  pub starts : (after : Lexemes) → operand_start (operand_lexemes x ++ after) ≡ s
  pub back : Back (operand_by s) (operand_lexemes x) x Always
  pub head : (after : Lexemes) → OperandHead (operand_lexemes x ++ after)

local-begun : (n : Name) → IsKept n → Begun operands.Local (opd.Local n)
unfolding operand_lexemes operand_start
local-begun n k = record {
  starts = λ after. refl;
  back = back-step _ _ _ n _ _ _ (local-fixed n k) (local-again n k) (back-pure _ _);
  head =
      λ after. local _ after;
}

global-begun : (n : Name) → IsKept n → Begun operands.Global (opd.Global n)
unfolding operand_lexemes operand_start
global-begun n k = record {
  starts = λ after. refl;
  back = back-step _ _ _ n _ _ _ (global-fixed n k) (global-again n k) (back-pure _ _);
  head =
      λ after. global _ after;
}

number-begun : (z : ℤ) → IsWide z → Begun operands.Number (opd.Number z)
unfolding operand_lexemes operand_start
number-begun z k = record {
  starts = λ after. refl;
  back = back-step _ _ _ z _ _ _ (number-fixed z k) (integer-again z k) (back-pure _ _);
  head =
      λ after. number _ after;
}

-- one that is a word
word-begun : (s : OperandStart) (x : Opd) (w : Text) → Fixed (word w) → operand_lexemes x ≡ word w ∷ []
    → ((after : Lexemes) → operand_start (word w ∷ after) ≡ s) → Back (operand_by s) (word w ∷ []) x Always
    → ((after : Lexemes) → OperandHead (word w ∷ after)) → Begun s x
word-begun s x w i e f b h = record {
  starts = λ after. ap (λ c. operand_start (c ++ after)) e ∙ f after;
  back = back-same _ _ _ x _ e b;
  head = λ after. subst (λ c. OperandHead (c ++ after)) (sym e) (h after);
}

true-begun : Begun operands.True opd.True
unfolding operand_lexemes operand_start operand_word
true-begun = record {
  starts = λ after. refl;
  back = back-step _ _ _ tt _ _ _ (word-fixed (codes "true") refl (omega arith) refl) refl (back-pure _ _);
  head =
      yes;
}

false-begun : Begun operands.False opd.False
unfolding operand_lexemes operand_start operand_word
false-begun = record {
  starts = λ after. refl;
  back = back-step _ _ _ tt _ _ _ (word-fixed (codes "false") refl (omega arith) refl) refl (back-pure _ _);
  head = no;
}

null-begun : Begun operands.Null opd.Null
unfolding operand_lexemes operand_start operand_word
null-begun = record {
  starts = λ after. refl;
  back = back-step _ _ _ tt _ _ _ (word-fixed (codes "null") refl (omega arith) refl) refl (back-pure _ _);
  head =
      null;
}

undef-begun : Begun operands.Undef opd.Undef
unfolding operand_lexemes operand_start operand_word
undef-begun = record {
  starts = λ after. refl;
  back = back-step _ _ _ tt _ _ _ (word-fixed (codes "undef") refl (omega arith) refl) refl (back-pure _ _);
  head = undef;
}

poison-begun : Begun operands.Poison opd.Poison
unfolding operand_lexemes operand_start operand_word
poison-begun = record {
  starts = λ after. refl;
  back = back-step _ _ _ tt _ _ _ (word-fixed (codes "poison") refl (omega arith) refl) refl (back-pure _ _);
  head = poison;
}

zero-begun : Begun operands.Zero opd.Zero
unfolding operand_lexemes operand_start operand_word
zero-begun = record {
  starts = λ after. refl;
  back = back-step _ _ _ tt _ _ _ (word-fixed (codes "zeroinitializer") refl (omega arith) refl) refl
      (back-pure _ _);
  head = zeros;
}

-- ---- a constant of a getelementptr

Index : TyText × ℤ → Type 0
Index i = Element sees_type constant_index (parts.constant_index i) i Always

index-gives : Gives constant_index Index
unfolding Index
index-gives = gives-bind _ _ (TypeBack type_text) _ type-gives (λ t b. gives-bind _ _ IsWide _ (gives-one _ IsWide (λ l z _ e. integer-kept l z e))
    (λ z w. gives-pure _ _ (record {
      back = back-then _ _ _ t _ _ _ b.back (back-step _ _ _ z _ _ _ (number-fixed z w) (integer-again z w) (back-pure _ _));
      begins_so = type-begins _ t _ b;
    })))

no_flag : (after : Lexemes) → sees_flag (sign 40 ∷ after) ≡ false
unfolding sees_flag flag_start
no_flag after = refl

get-begun : (of base : TyText) (n : Name) (indices : List (TyText × ℤ)) → TypeBack type_text of → TypeBack type_text base → IsKept n → EachOf Index indices
    → Begun operands.Get (opd.Get (of, base, n, indices))
unfolding operand_lexemes operand_start operand_word Index
get-begun of base n indices a b k es = record {
  starts = λ after. refl;
  back = back-step _ _ _ tt _ _ _ (word-fixed (codes "getelementptr") refl (omega arith) refl) refl
      (back-none flagged _ _ _ _ (λ after _. flagged-none _ (no_flag _)) (back-step _ _ _ tt _ _ _ (sign-fixed 40 refl) refl
      (back-then _ _ _ of _ _ _ a.back (back-step _ _ _ tt _ _ _ (sign-fixed 44 refl) refl
      (back-then _ _ _ base _ _ _ b.back (back-step _ _ _ n _ _ _ (global-fixed n k) (global-again n k)
      (back-then_if _ _ _ indices _ _ _ _ (further-back sees_type constant_index parts.constant_index Always (λ _. tt) indices es) (λ after _. (refl, tt))
      (back-step _ _ _ tt _ _ _ (sign-fixed 41 refl) refl (back-pure _ _)))))))));
  head = λ after. get _;
}

get-gives : Gives get_constant (Begun operands.Get)
get-gives = gives-bind _ _ Any _ (any-one _) (λ _ _. gives-bind _ _ Any _ flagged-any
    (λ _ _. gives-bind _ _ Any _ (any-one _) (λ _ _. gives-bind _ _ (TypeBack type_text) _ type-gives (λ of a. gives-bind _ _ Any _ (any-one _) (λ _ _.
    gives-bind _ _ (TypeBack type_text) _ type-gives (λ base b. gives-bind _ _ IsKept _ (gives-one _ IsKept global-kept)
    (λ n k. gives-bind _ _ (EachOf Index) _ (gives-further sees_type _ Index index-gives) (λ indices es.
    gives-bind _ _ Any _ (any-one _) (λ _ _. gives-pure _ _ (get-begun of base n indices a b k es))))))))))

operand_by-gives : (s : OperandStart) → Gives (operand_by s) (Begun s)
operand_by-gives operands.Local = gives-bind _ _ IsKept _ (gives-one _ IsKept local-kept) (λ n k. gives-pure _ _ (local-begun n k))
operand_by-gives operands.Global = gives-bind _ _ IsKept _ (gives-one _ IsKept global-kept) (λ n k. gives-pure _ _ (global-begun n k))
operand_by-gives operands.Number = gives-bind _ _ IsWide _ (gives-one _ IsWide (λ l z _ e. integer-kept l z e)) (λ z k. gives-pure _ _ (number-begun z k))
operand_by-gives operands.True = gives-bind _ _ Any _ (any-one _) (λ _ _. gives-pure _ _ true-begun)
operand_by-gives operands.False = gives-bind _ _ Any _ (any-one _) (λ _ _. gives-pure _ _ false-begun)
operand_by-gives operands.Null = gives-bind _ _ Any _ (any-one _) (λ _ _. gives-pure _ _ null-begun)
operand_by-gives operands.Undef = gives-bind _ _ Any _ (any-one _) (λ _ _. gives-pure _ _ undef-begun)
operand_by-gives operands.Poison = gives-bind _ _ Any _ (any-one _) (λ _ _. gives-pure _ _ poison-begun)
operand_by-gives operands.Zero = gives-bind _ _ Any _ (any-one _) (λ _ _. gives-pure _ _ zero-begun)
operand_by-gives operands.Get = get-gives
operand_by-gives operands.Nothing = gives-refuse _

-- an operand that is read again
pub record OperandBack (x : Opd) : Type 0 where
  pub back : Back operand (operand_lexemes x) x Always
  pub head : (after : Lexemes) → OperandHead (operand_lexemes x ++ after)

begun-back : (s : OperandStart) (x : Opd) → Begun s x → OperandBack x
unfolding operand
begun-back s x b = record { back = back-look operand_start operand_by s _ x _ (λ after _. b.starts after) b.back; head = b.head }

pub number-back : (z : ℤ) → IsWide z → OperandBack (opd.Number z)
number-back z k = begun-back operands.Number _ (number-begun z k)

pub true-back : OperandBack opd.True
true-back = begun-back operands.True _ true-begun

pub false-back : OperandBack opd.False
false-back = begun-back operands.False _ false-begun

pub operand-gives : Gives operand OperandBack
unfolding operand
operand-gives = gives-look operand_start operand_by _ (λ s. gives-map (operand_by s) (Begun s) _ (begun-back s) (operand_by-gives s))

-- ---- with its type

pub record TypedBack (x : TyText × Opd) : Type 0 where
  pub type : TypeBack type_text x.0
  pub operand : OperandBack x.1
  pub back : Back typed_operand (typed x.0 x.1) x Always

pub typed-both : (t : TyText) (x : Opd) → TypeBack type_text t → OperandBack x → TypedBack (t, x)
typed-both t x b c = record { type = b; operand = c; back = back-then _ _ _ t _ _ _ b.back (back-last _ _ _ x _ c.back) }
