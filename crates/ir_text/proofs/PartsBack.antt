-- A part that is read again is read from its canonical text, and the other way round.
use Rattle.std.proofs.Common.{◌-◌, List, [], ◌∷◌, drop, ℤ, sym, ◌∙◌, subst}
use Rattle.std.proofs.lemmas.List.{append-nil}
use Rattle.ir_tokens.specs.Bytes.{Text}
use Rattle.ir_tokens.specs.declared.token.Token.{Token}
use Rattle.ir_tree.specs.declared.name.Name.{Name}
use Rattle.ir_tree.specs.declared.type_text.TyText.{TyText}
use Rattle.ir_tree.specs.declared.operand.Opd.{Opd}
use Rattle.ir_tree.specs.declared.operand.Opd.TheVariants as opd
use Rattle.ir_grammar.specs.Lexeme.{Lexemes, lexemes}
use Rattle.ir_grammar.specs.Rule.{Rule}
use Rattle.ir_grammar.specs.Words as words
use Rattle.ir_grammar.specs.Types.{type_text}
use Rattle.ir_grammar.specs.Operands.{operand, typed_operand}
use Rattle.ir_text.specs.Spelling.{local, global}
use Rattle.ir_text.specs.Parts.{type_lexemes, operand_lexemes}
use Rattle.ir_text.specs.Lines.{spaced}
use Rattle.ir_text.specs.Texts.{AreBytes}
use Rattle.ir_text.specs.ReadBack.{IsTextOfPart, TypeReadsBack, OperandReadsBack, TypedReadsBack, LocalReadsBack, GlobalReadsBack, IsWide}
use Rattle.ir_text.proofs.Gives.{AllBytes, Gives, gives-map, gives-bind, gives-pure, gives-one}
use Rattle.ir_text.proofs.Back.{Always, Back, back-one}
use Rattle.ir_text.proofs.Values.{IsKept, local-kept, local-again, global-kept, global-again, bytes-take, bytes-drop}
use Rattle.ir_text.proofs.FixedTokens.{local-fixed, global-fixed}
use Rattle.ir_text.proofs.SpacedCut.{cut-tokens, cut-alone, spaced-bytes}
use Rattle.ir_text.proofs.TypesBack.{TypeBack, type-gives}
use Rattle.ir_text.proofs.OperandsBack.{OperandBack, operand-gives, number-back, true-back, false-back, TypedBack, typed-both}

-- the lexemes of a text of bytes are of bytes
pub lexemes-bytes : (text : Text) (ts : List Token) → AreBytes text → AllBytes (lexemes text ts)
lexemes-bytes text [] h = tt
lexemes-bytes text (t ∷ ts) h = (bytes-take (t.to - t.from) (drop t.from text) (bytes-drop t.from text h), lexemes-bytes text ts h)

module _ {A : Type 0} (p : Rule A) where
  pub back-text : (a : Lexemes) (x : A) (F : Lexemes → Type 0) → Back p a x F → F [] → IsTextOfPart p (spaced a) x
  back-text a x F b e = let c = cut-tokens (spaced a) a (cut-alone a b.fixed) in record {
    bytes = spaced-bytes a b.fixed;
    tokens = c.0;
    cut = c.1;
    whole = subst (λ ls. p.reads ls x []) (append-nil a ∙ sym c.2) (b.again [] e);
  }

  pub text-gives : (P : A → Type 0) (text : Text) (x : A) → Gives p P → IsTextOfPart p text x → P x
  text-gives P text x g s = (g.gives (lexemes text s.tokens) x [] (lexemes-bytes text s.tokens s.bytes) s.whole).0

-- ---- types and operands

type-reads : (t : TyText) → TypeBack type_text t → TypeReadsBack t
type-reads t k = back-text type_text (type_lexemes t) t Always k.back tt

pub type-back : (t : TyText) → TypeReadsBack t → TypeBack type_text t
type-back t r = text-gives type_text (TypeBack type_text) _ t type-gives r

pub type_reads-gives : Gives type_text TypeReadsBack
type_reads-gives = gives-map _ _ _ type-reads type-gives

operand-reads : (x : Opd) → OperandBack x → OperandReadsBack x
operand-reads x k = back-text operand (operand_lexemes x) x Always k.back tt

pub operand-back : (x : Opd) → OperandReadsBack x → OperandBack x
operand-back x r = text-gives operand OperandBack _ x operand-gives r

pub operand_reads-gives : Gives operand OperandReadsBack
operand_reads-gives = gives-map _ _ _ operand-reads operand-gives

pub typed-back : (x : TyText × Opd) → TypedReadsBack x → TypedBack x
typed-back x r = typed-both x.0 x.1 (type-back x.0 r.0) (operand-back x.1 r.1)

pub typed_reads-gives : Gives typed_operand TypedReadsBack
typed_reads-gives = gives-bind _ _ TypeReadsBack _ type_reads-gives
    (λ t k. gives-bind _ _ OperandReadsBack _ operand_reads-gives (λ x h. gives-pure _ TypedReadsBack (k, h)))

pub number-reads : (z : ℤ) → IsWide z → OperandReadsBack (opd.Number z)
number-reads z h = operand-reads (opd.Number z) (number-back z h)

pub true-reads : OperandReadsBack opd.True
true-reads = operand-reads opd.True true-back

pub false-reads : OperandReadsBack opd.False
false-reads = operand-reads opd.False false-back

-- ---- names

pub local-kept_back : (n : Name) → LocalReadsBack n → IsKept n
local-kept_back n r = text-gives words.local IsKept _ n (gives-one _ IsKept local-kept) r

pub local_reads-gives : Gives words.local LocalReadsBack
local_reads-gives = gives-map _ IsKept _
    (λ n k. back-text words.local (local n ∷ []) n Always (back-one _ _ n _ (local-fixed n k) (local-again n k)) tt) (gives-one _ IsKept local-kept)

pub global-kept_back : (n : Name) → GlobalReadsBack n → IsKept n
global-kept_back n r = text-gives words.global_name IsKept _ n (gives-one _ IsKept global-kept) r

pub global_reads-gives : Gives words.global_name GlobalReadsBack
global_reads-gives = gives-map _ IsKept _
    (λ n k. back-text words.global_name (global n ∷ []) n Always (back-one _ _ n _ (global-fixed n k) (global-again n k)) tt) (gives-one _ IsKept global-kept)
