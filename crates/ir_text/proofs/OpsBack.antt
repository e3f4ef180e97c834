-- Instructions are read again.
use Rattle.std.proofs.Common.{◌≡◌, Bool, false, ◌&&◌, List, [], ◌∷◌, ◌++◌, Option, Some, None, codes, refl, sym, ap, subst, arith}
use Rattle.std.specs.Str.{bytes_eq}
use Rattle.std.proofs.lemmas.List.{append_assoc}
use Rattle.am_base.specs.declared.word.BinOp.{BinOp}
use Rattle.am_base.specs.declared.word.BinOp.TheVariants as bin
use Rattle.am_base.specs.declared.word.Cast.{Cast}
use Rattle.am_base.specs.declared.word.Cast.TheVariants as cast
use Rattle.am_base.specs.declared.word.Pred.{Pred}
use Rattle.am_base.specs.declared.word.Pred.TheVariants as pred
use Rattle.ir_tokens.specs.Bytes.{Text}
use Rattle.ir_tree.specs.declared.name.Name.{Name}
use Rattle.ir_tree.specs.declared.type_text.TyText.{TyText}
use Rattle.ir_tree.specs.declared.type_text.TyText.TheVariants as ty
use Rattle.ir_tree.specs.declared.operand.Opd.{Opd}
use Rattle.ir_tree.specs.declared.op.Op.{Op}
use Rattle.ir_tree.specs.declared.op.Op.TheVariants as op
use Rattle.ir_grammar.specs.declared.starts.OpStart.{OpStart}
use Rattle.ir_grammar.specs.declared.starts.OpStart.TheVariants as ops
use Rattle.ir_grammar.specs.declared.starts.SkipStart.TheVariants as skips
use Rattle.ir_grammar.specs.declared.starts.ItemStart.TheVariants as items
use Rattle.ir_grammar.specs.Lexeme as lexeme
use Rattle.ir_grammar.specs.Lexeme.{Lexeme, Lexemes, sees_sign, sees_word}
use Rattle.ir_grammar.specs.Rule.{Rule, ◌>>=◌, ◌>>◌, pure, next, look, where_it, many, comma_then}
use Rattle.ir_grammar.specs.Rule as rule
use Rattle.ir_grammar.specs.Words.{value_of}
use Rattle.ir_grammar.specs.Starts.{op_start, op_word, sees_type, type_start, sees_skip, skip_start, skip_word, is_stop_word, item_start, item_word, sees_tail}
use Rattle.ir_grammar.specs.Starts.{sees_global_tail, tail_start}
use Rattle.ir_grammar.specs.Types.{type_text, result_type}
use Rattle.ir_grammar.specs.Skips.{skipped, flagged, word_flags}
use Rattle.ir_grammar.specs.Operands.{typed_operand}
use Rattle.ir_grammar.specs.Ops as rules
use Rattle.ir_grammar.specs.Ops.{arithmetic_flags, cast_flags, predicate_word, op_by, instruction}
use Rattle.ir_text.specs.Spelling as canon
use Rattle.ir_text.specs.Spelling.{word, sign, comma, local, binary_word, cast_word}
use Rattle.ir_text.specs.Parts as parts
use Rattle.ir_text.specs.Parts.{type_lexemes, operand_lexemes, typed, op_lexemes, joined}
use Rattle.ir_text.proofs.Gives.{Gives, Any, gives-map, gives-bind, gives-pure, gives-refuse, gives-look, gives-where_it, gives-many}
use Rattle.ir_text.proofs.Gives.{gives-further, gives-some_listed, gives-listed, any-one}
use Rattle.ir_text.proofs.Back.{Always, Back, back-pure, back-one, back-step, back-then, back-then_if, back-last, back-none, back-look, back-yes, back-no}
use Rattle.ir_text.proofs.Back.{back-same, back-under, back-any}
use Rattle.ir_text.proofs.Values.{IsKept, local-again, global-again}
use Rattle.ir_text.proofs.FixedTokens.{sign-fixed, word-fixed, binary-fixed, cast-fixed, predicate-fixed, local-fixed, global-fixed}
use Rattle.ir_text.proofs.ListsBack.{Element, many-back, further-back, some-back, Closes, listed-back}
use Rattle.ir_text.proofs.TypesBack.{TypeHead, TypeBack, type-head, type-begins, type-gives, head-sees_type, lexemes-Void}
use Rattle.ir_text.proofs.Skipped.{flagged-any, flagged-none, word_flags-any, word_flags-none, optional-any, back-optional, skipped-any, skipped-none}
use Rattle.ir_text.proofs.Skipped.{head-no_skip, head-no_flag, head-no_word}
use Rattle.ir_text.proofs.OperandsBack.{OperandBack, operand-no_skip, TypedBack}
use Rattle.ir_text.specs.ReadBack.{EachOf, SomeOf, IfAny, TypeReadsBack, ResultReadsBack, OperandReadsBack, TypedReadsBack, LocalReadsBack, GlobalReadsBack}
use Rattle.ir_text.specs.ReadBack.{EntryReadsBack, CaseReadsBack, PartsReadBack}
use Rattle.ir_text.proofs.PartsBack.{back-text, text-gives, type-back, type_reads-gives, operand-back, operand_reads-gives, typed-back, typed_reads-gives}
use Rattle.ir_text.proofs.PartsBack.{local-kept_back, local_reads-gives, global-kept_back, global_reads-gives}

-- what may stand behind an item
pub record Behind (after : Lexemes) : Type 0 where
  pub no_comma : sees_sign 44 after ≡ false
  pub no_skip : sees_skip after ≡ false
  pub no_tail : sees_tail after ≡ false
  pub no_global_tail : sees_global_tail after ≡ false

pub no_comma_then : (begins : Lexemes → Bool) (after : Lexemes) → Behind after → comma_then begins after ≡ false
no_comma_then begins after h = ap (λ b. b && begins (lexeme.behind after)) h.no_comma

-- ---- how an instruction begins

-- the word begins the op, and nothing else
record Known (s : OpStart) (w : Text) : Type 0 where
  pub op : op_word w ≡ s
  pub no_skip : skip_word w ≡ skips.Nothing
  pub no_item : item_word w ≡ items.Other
  pub no_type : bytes_eq w (codes "type") ≡ false

pub record OpHead (ts : Lexemes) : Type 0 where
  pub behind : Behind ts
  pub other : item_start ts ≡ items.Other
  pub no_type : sees_word (codes "type") ts ≡ false

word-head : (s : OpStart) (w : Text) (ts : Lexemes) → Known s w → OpHead (word w ∷ ts)
unfolding sees_skip skip_start sees_tail sees_global_tail tail_start item_start
word-head s w ts k = record {
  behind = record { no_comma = refl; no_skip = rw (k.no_skip) refl; no_tail = refl; no_global_tail = refl };
  other = k.no_item;
  no_type = k.no_type;
}

-- an instruction that is read again by the rule of its word
pub record OpBack (o : Op) : Type 0 where
  pub back : Back instruction (op_lexemes o) o Behind
  pub head : (after : Lexemes) → OpHead (op_lexemes o ++ after)

started : (s : OpStart) (o : Op) (w : Text) (ls : Lexemes) → op_lexemes o ≡ word w ∷ ls → Known s w → Back (op_by s) (word w ∷ ls) o Behind → OpBack o
unfolding instruction op_start
started s o w ls e k b = record {
  back = back-same instruction _ (word w ∷ ls) o _ e (back-look op_start op_by s _ o _ (λ after _. k.op) b);
  head = λ after. subst (λ c. OpHead (c ++ after)) (sym e) (word-head s w (ls ++ after) k);
}

-- ---- add to xor

binary-known : (b : BinOp) → Known (ops.Bin b) (binary_word b)
unfolding op_word skip_word is_stop_word item_word
binary-known bin.Add = record { op = refl; no_skip = refl; no_item = refl; no_type = refl }
binary-known bin.Sub = record { op = refl; no_skip = refl; no_item = refl; no_type = refl }
binary-known bin.Mul = record { op = refl; no_skip = refl; no_item = refl; no_type = refl }
binary-known bin.UDiv = record { op = refl; no_skip = refl; no_item = refl; no_type = refl }
binary-known bin.SDiv = record { op = refl; no_skip = refl; no_item = refl; no_type = refl }
binary-known bin.URem = record { op = refl; no_skip = refl; no_item = refl; no_type = refl }
binary-known bin.SRem = record { op = refl; no_skip = refl; no_item = refl; no_type = refl }
binary-known bin.Shl = record { op = refl; no_skip = refl; no_item = refl; no_type = refl }
binary-known bin.LShr = record { op = refl; no_skip = refl; no_item = refl; no_type = refl }
binary-known bin.AShr = record { op = refl; no_skip = refl; no_item = refl; no_type = refl }
binary-known bin.And = record { op = refl; no_skip = refl; no_item = refl; no_type = refl }
binary-known bin.Or = record { op = refl; no_skip = refl; no_item = refl; no_type = refl }
binary-known bin.Xor = record { op = refl; no_skip = refl; no_item = refl; no_type = refl }

binary-back : (b : BinOp) (t : TyText) (x y : Opd) → TypeBack type_text t → OperandBack x → OperandBack y → OpBack (op.Bin b t x y)
unfolding op_lexemes
binary-back b t x y k h g = started (ops.Bin b) _ (binary_word b) _ refl (binary-known b) (back-step _ _ _ tt _ _ _ (binary-fixed b) refl
    (back-none (word_flags arithmetic_flags) _ _ _ _ (λ after _. word_flags-none _ _ (head-no_word _ (type-head _ t _ k after)).3)
    (back-then _ _ _ t _ _ _ k.back (back-then _ _ _ x _ _ _ h.back (back-step _ _ _ tt _ _ _ (sign-fixed 44 refl) refl
    (back-last _ _ _ y _ (back-any _ _ _ _ g.back)))))))

binary-gives : (b : BinOp) → Gives (rules.binary b) PartsReadBack
binary-gives b = gives-bind _ _ Any _ (word_flags-any _) (λ _ _. gives-bind _ _ TypeReadsBack _ type_reads-gives
    (λ t k. gives-bind _ _ OperandReadsBack _ operand_reads-gives (λ x h. gives-bind _ _ Any _ (any-one _) (λ _ _.
    gives-bind _ _ OperandReadsBack _ operand_reads-gives (λ y g. gives-pure _ PartsReadBack (k, h, g))))))

-- ---- icmp

predicate-again : (p : Pred) → value_of predicate_word (word (canon.predicate_word p)) ≡ Some p
unfolding predicate_word
predicate-again pred.Eq = refl
predicate-again pred.Ne = refl
predicate-again pred.Ugt = refl
predicate-again pred.Uge = refl
predicate-again pred.Ult = refl
predicate-again pred.Ule = refl
predicate-again pred.Sgt = refl
predicate-again pred.Sge = refl
predicate-again pred.Slt = refl
predicate-again pred.Sle = refl

no_samesign : (p : Pred) → bytes_eq (canon.predicate_word p) (codes "samesign") ≡ false
no_samesign pred.Eq = refl
no_samesign pred.Ne = refl
no_samesign pred.Ugt = refl
no_samesign pred.Uge = refl
no_samesign pred.Ult = refl
no_samesign pred.Ule = refl
no_samesign pred.Sgt = refl
no_samesign pred.Sge = refl
no_samesign pred.Slt = refl
no_samesign pred.Sle = refl

icmp-known : Known ops.Cmp (codes "icmp")
unfolding op_word skip_word is_stop_word item_word
icmp-known = record { op = refl; no_skip = refl; no_item = refl; no_type = refl }

compare-back : (p : Pred) (t : TyText) (x y : Opd) → TypeBack type_text t → OperandBack x → OperandBack y → OpBack (op.Cmp p t x y)
unfolding op_lexemes
compare-back p t x y k h g = started ops.Cmp _ (codes "icmp") _ refl icmp-known
    (back-step _ _ _ tt _ _ _ (word-fixed (codes "icmp") refl (omega arith) refl) refl
    (back-optional (codes "samesign") _ _ _ _ (λ after _. no_samesign p) (back-step _ _ _ p _ _ _ (predicate-fixed p) (predicate-again p)
    (back-then _ _ _ t _ _ _ k.back (back-then _ _ _ x _ _ _ h.back (back-step _ _ _ tt _ _ _ (sign-fixed 44 refl) refl
    (back-last _ _ _ y _ (back-any _ _ _ _ g.back))))))))

compare-gives : Gives rules.compare PartsReadBack
compare-gives = gives-bind _ _ Any _ (optional-any _) (λ _ _. gives-bind _ _ Any _ (any-one _) (λ p _. gives-bind _ _ TypeReadsBack _ type_reads-gives
    (λ t k. gives-bind _ _ OperandReadsBack _ operand_reads-gives (λ x h. gives-bind _ _ Any _ (any-one _) (λ _ _.
    gives-bind _ _ OperandReadsBack _ operand_reads-gives (λ y g. gives-pure _ PartsReadBack (k, h, g)))))))

-- ---- select, casts, freeze

select-known : Known ops.Select (codes "select")
unfolding op_word skip_word is_stop_word item_word
select-known = record { op = refl; no_skip = refl; no_item = refl; no_type = refl }

select-back : (c x y : TyText × Opd) → TypedBack c → TypedBack x → TypedBack y → OpBack (op.Select c.0 c.1 x.0 x.1 y.0 y.1)
unfolding op_lexemes
select-back c x y k h g = started ops.Select _ (codes "select") _ refl select-known
    (back-step _ _ _ tt _ _ _ (word-fixed (codes "select") refl (omega arith) refl) refl
    (back-then _ _ _ c _ _ _ k.back (back-step _ _ _ tt _ _ _ (sign-fixed 44 refl) refl
    (back-then _ _ _ x _ _ _ h.back (back-step _ _ _ tt _ _ _ (sign-fixed 44 refl) refl (back-last _ _ _ y _ (back-any _ _ _ _ g.back)))))))

select-gives : Gives rules.select PartsReadBack
select-gives = gives-bind _ _ TypedReadsBack _ typed_reads-gives (λ c k. gives-bind _ _ Any _ (any-one _)
    (λ _ _. gives-bind _ _ TypedReadsBack _ typed_reads-gives (λ x h. gives-bind _ _ Any _ (any-one _) (λ _ _.
    gives-bind _ _ TypedReadsBack _ typed_reads-gives (λ y g. gives-pure _ PartsReadBack (k, h, g))))))

cast-known : (c : Cast) → Known (ops.Cast c) (cast_word c)
unfolding op_word skip_word is_stop_word item_word
cast-known cast.Trunc = record { op = refl; no_skip = refl; no_item = refl; no_type = refl }
cast-known cast.ZExt = record { op = refl; no_skip = refl; no_item = refl; no_type = refl }
cast-known cast.SExt = record { op = refl; no_skip = refl; no_item = refl; no_type = refl }
cast-known cast.PtrToInt = record { op = refl; no_skip = refl; no_item = refl; no_type = refl }
cast-known cast.IntToPtr = record { op = refl; no_skip = refl; no_item = refl; no_type = refl }

-- how an operand with its type begins, where more is written behind it
typed-head : (x : TyText × Opd) (b : Lexemes) → TypedBack x → (after : Lexemes) → TypeHead ((typed x.0 x.1 ++ b) ++ after)
typed-head x b k after = subst TypeHead (sym (append_assoc (typed x.0 x.1) b after)) (type-head _ x.0 _ k.type (b ++ after))

cast-back : (c : Cast) (x : TyText × Opd) (to : TyText) → TypedBack x → TypeBack type_text to → OpBack (op.Cast c x.0 x.1 to)
unfolding op_lexemes
cast-back c x to h k = started (ops.Cast c) _ (cast_word c) _ refl (cast-known c) (back-step _ _ _ tt _ _ _ (cast-fixed c) refl
    (back-none (word_flags cast_flags) _ _ _ _ (λ after _. word_flags-none _ _ (head-no_word _ (typed-head x _ h after)).4)
    (back-then _ _ _ x _ _ _ h.back (back-step _ _ _ tt _ _ _ (word-fixed (codes "to") refl (omega arith) refl) refl
    (back-last _ _ _ to _ (back-any _ _ _ _ k.back))))))

cast-gives : (c : Cast) → Gives (rules.conversion c) PartsReadBack
cast-gives c = gives-bind _ _ Any _ (word_flags-any _) (λ _ _. gives-bind _ _ TypedReadsBack _ typed_reads-gives
    (λ x h. gives-bind _ _ Any _ (any-one _) (λ _ _. gives-bind _ _ TypeReadsBack _ type_reads-gives (λ to k. gives-pure _ PartsReadBack (h, k)))))

freeze-known : Known ops.Freeze (codes "freeze")
unfolding op_word skip_word is_stop_word item_word
freeze-known = record { op = refl; no_skip = refl; no_item = refl; no_type = refl }

freeze-back : (x : TyText × Opd) → TypedBack x → OpBack (op.Freeze x.0 x.1)
unfolding op_lexemes
freeze-back x h = started ops.Freeze _ (codes "freeze") _ refl freeze-known
    (back-step _ _ _ tt _ _ _ (word-fixed (codes "freeze") refl (omega arith) refl) refl (back-last _ _ _ x _ (back-any _ _ _ _ h.back)))

freeze-gives : Gives rules.freeze PartsReadBack
freeze-gives = gives-bind _ _ TypedReadsBack _ typed_reads-gives (λ x h. gives-pure _ PartsReadBack h)

-- ---- memory

alloca-known : Known ops.Alloca (codes "alloca")
unfolding op_word skip_word is_stop_word item_word
alloca-known = record { op = refl; no_skip = refl; no_item = refl; no_type = refl }

CountBack : Option (TyText × Opd) → Type 0
CountBack n = Back rules.count (parts.count n) n Behind

count-back : (n : Option (TyText × Opd)) → IfAny TypedReadsBack n → CountBack n
unfolding CountBack
count-back None h = back-no (comma_then sees_type) _ _ [] None _ (λ after b. no_comma_then sees_type after b) (back-pure _ _)
count-back (Some x) h = let k = typed-back x h in back-yes (comma_then sees_type) _ _ _ (Some x) _ (λ after _. type-begins _ x.0 _ k.type after)
    (back-last (rule.sign 44 >> typed_operand) Some _ x _ (back-step _ _ _ tt _ _ _ (sign-fixed 44 refl) refl (back-any _ _ _ _ k.back)))

count-gives : Gives rules.count (IfAny TypedReadsBack)
count-gives = gives-where_it _ _ _ _
    (gives-bind _ _ TypedReadsBack _ (gives-bind _ _ Any _ (any-one _) (λ _ _. typed_reads-gives)) (λ x h. gives-pure _ (IfAny TypedReadsBack) h))
    (gives-pure _ (IfAny TypedReadsBack) tt)

alloca-back : (t : TyText) (n : Option (TyText × Opd)) → TypeBack type_text t → CountBack n → OpBack (op.Alloca t n)
unfolding op_lexemes CountBack
alloca-back t n k h = started ops.Alloca _ (codes "alloca") _ refl alloca-known
    (back-step _ _ _ tt _ _ _ (word-fixed (codes "alloca") refl (omega arith) refl) refl
    (back-then _ _ _ t _ _ _ k.back (back-last _ _ _ n _ h)))

alloca-gives : Gives rules.alloca PartsReadBack
alloca-gives = gives-bind _ _ TypeReadsBack _ type_reads-gives
    (λ t k. gives-bind _ _ (IfAny TypedReadsBack) _ count-gives (λ n h. gives-pure _ PartsReadBack (k, h)))

load-known : Known ops.Load (codes "load")
unfolding op_word skip_word is_stop_word item_word
load-known = record { op = refl; no_skip = refl; no_item = refl; no_type = refl }

load-back : (t : TyText) (address : TyText × Opd) → TypeBack type_text t → TypedBack address → OpBack (op.Load t address.0 address.1)
unfolding op_lexemes
load-back t x k h = started ops.Load _ (codes "load") _ refl load-known (back-step _ _ _ tt _ _ _ (word-fixed (codes "load") refl (omega arith) refl) refl
    (back-optional (codes "volatile") _ _ _ _ (λ after _. (head-no_word _ (type-head _ t _ k after)).2)
    (back-then _ _ _ t _ _ _ k.back (back-step _ _ _ tt _ _ _ (sign-fixed 44 refl) refl (back-last _ _ _ x _ (back-any _ _ _ _ h.back))))))

load-gives : Gives rules.load PartsReadBack
load-gives = gives-bind _ _ Any _ (optional-any _) (λ _ _. gives-bind _ _ TypeReadsBack _ type_reads-gives
    (λ t k. gives-bind _ _ Any _ (any-one _) (λ _ _. gives-bind _ _ TypedReadsBack _ typed_reads-gives (λ x h. gives-pure _ PartsReadBack (k, h)))))

store-known : Known ops.Store (codes "store")
unfolding op_word skip_word is_stop_word item_word
store-known = record { op = refl; no_skip = refl; no_item = refl; no_type = refl }

store-back : (x address : TyText × Opd) → TypedBack x → TypedBack address → OpBack (op.Store x.0 x.1 address.0 address.1)
unfolding op_lexemes
store-back x y h k = started ops.Store _ (codes "store") _ refl store-known (back-step _ _ _ tt _ _ _ (word-fixed (codes "store") refl (omega arith) refl) refl
    (back-optional (codes "volatile") _ _ _ _ (λ after _. (head-no_word _ (typed-head x _ h after)).2)
    (back-then _ _ _ x _ _ _ h.back (back-step _ _ _ tt _ _ _ (sign-fixed 44 refl) refl (back-last _ _ _ y _ (back-any _ _ _ _ k.back))))))

store-gives : Gives rules.store PartsReadBack
store-gives = gives-bind _ _ Any _ (optional-any _) (λ _ _. gives-bind _ _ TypedReadsBack _ typed_reads-gives
    (λ x h. gives-bind _ _ Any _ (any-one _) (λ _ _. gives-bind _ _ TypedReadsBack _ typed_reads-gives (λ y k. gives-pure _ PartsReadBack (h, k)))))

-- ---- getelementptr

get-known : Known ops.Get (codes "getelementptr")
unfolding op_word skip_word is_stop_word item_word
get-known = record { op = refl; no_skip = refl; no_item = refl; no_type = refl }

TypedElement : TyText × Opd → Type 0
TypedElement x = Element sees_type typed_operand (parts.typed_operand x) x Always

typed-elements : (xs : List (TyText × Opd)) → EachOf TypedReadsBack xs → EachOf TypedElement xs
unfolding TypedElement
typed-elements [] h = tt
typed-elements (x ∷ xs) (h, hs) =
    let k = typed-back x h in (record { back = k.back; begins_so = λ after. type-begins _ x.0 _ k.type after }, typed-elements xs hs)

get-back : (of : TyText) (base : TyText × Opd) (indices : List (TyText × Opd)) → TypeBack type_text of → TypedBack base → EachOf TypedElement indices
    → OpBack (op.Get of base.0 base.1 indices)
unfolding op_lexemes TypedElement
get-back of base indices k h es = started ops.Get _ (codes "getelementptr") _ refl get-known
    (back-step _ _ _ tt _ _ _ (word-fixed (codes "getelementptr") refl (omega arith) refl) refl
    (back-none flagged _ _ _ _ (λ after _. flagged-none _ (head-no_flag _ (type-head _ of _ k after)))
    (back-then _ _ _ of _ _ _ k.back (back-step _ _ _ tt _ _ _ (sign-fixed 44 refl) refl (back-then _ _ _ base _ _ _ h.back
    (back-last _ _ _ indices _ (back-under _ _ _ Behind _ (λ after b. (no_comma_then sees_type after b, tt))
    (further-back sees_type typed_operand parts.typed_operand Always (λ _. tt) indices es))))))))

get-gives : Gives rules.get PartsReadBack
get-gives = gives-bind _ _ Any _ flagged-any (λ _ _. gives-bind _ _ TypeReadsBack _ type_reads-gives
    (λ of k. gives-bind _ _ Any _ (any-one _) (λ _ _. gives-bind _ _ TypedReadsBack _ typed_reads-gives (λ base h.
    gives-bind _ _ (EachOf TypedReadsBack) _ (gives-further sees_type _ TypedReadsBack typed_reads-gives)
    (λ indices es. gives-pure _ PartsReadBack (k, h, es))))))

-- ---- phi

phi-known : Known ops.Phi (codes "phi")
unfolding op_word skip_word is_stop_word item_word
phi-known = record { op = refl; no_skip = refl; no_item = refl; no_type = refl }

EntryBack : Opd × Name → Type 0
EntryBack e = Element (sees_sign 91) rules.entry (parts.entry e) e Always

entry-element : (e : Opd × Name) → EntryReadsBack e → EntryBack e
unfolding EntryBack
entry-element (x, n) (h, g) = let k = local-kept_back n g in record {
  back = back-step _ _ _ tt _ _ _ (sign-fixed 91 refl) refl (back-then _ _ _ x _ _ _ (operand-back x h).back
      (back-step _ _ _ tt _ _ _ (sign-fixed 44 refl) refl (back-step _ _ _ n _ _ _ (local-fixed n k) (local-again n k)
      (back-step _ _ _ tt _ _ _ (sign-fixed 93 refl) refl (back-pure _ _)))));
  begins_so = λ after. refl;
}

entry-elements : (es : List (Opd × Name)) → EachOf EntryReadsBack es → EachOf EntryBack es
entry-elements [] h = tt
entry-elements (e ∷ es) (h, hs) = (entry-element e h, entry-elements es hs)

entry-gives : Gives rules.entry EntryReadsBack
entry-gives = gives-bind _ _ Any _ (any-one _) (λ _ _. gives-bind _ _ OperandReadsBack _ operand_reads-gives
    (λ x h. gives-bind _ _ Any _ (any-one _) (λ _ _. gives-bind _ _ LocalReadsBack _ local_reads-gives (λ n k. gives-bind _ _ Any _ (any-one _) (λ _ _.
    gives-pure _ EntryReadsBack (h, k))))))

phi-back : (t : TyText) (entries : List (Opd × Name)) → TypeBack type_text t → SomeOf EntryReadsBack entries → OpBack (op.Phi t entries)
unfolding op_lexemes EntryBack
phi-back t [] k es = absurd es
phi-back t (e ∷ entries) k (h, hs) = started ops.Phi _ (codes "phi") _ refl phi-known
    (back-step _ _ _ tt _ _ _ (word-fixed (codes "phi") refl (omega arith) refl) refl
    (back-then _ _ _ t _ _ _ k.back (back-last _ _ _ (e ∷ entries) _ (back-under _ _ _ Behind _ (λ after b. (no_comma_then (sees_sign 91) after b, tt))
    (some-back (sees_sign 91) rules.entry parts.entry Always (λ _. tt) e entries (entry-element e h, entry-elements entries hs))))))

phi-gives : Gives rules.phi PartsReadBack
phi-gives = gives-bind _ _ TypeReadsBack _ type_reads-gives
    (λ t k. gives-bind _ _ (SomeOf EntryReadsBack) _ (gives-some_listed (sees_sign 91) _ EntryReadsBack entry-gives)
    (λ entries es. gives-pure _ PartsReadBack (k, es)))

-- ---- call

pub record ResultBack (t : TyText) : Type 0 where
  pub back : Back result_type (type_lexemes t) t Always
  pub no_skip : (b after : Lexemes) → sees_skip ((type_lexemes t ++ b) ++ after) ≡ false

void-no_skip : (ts : Lexemes) → sees_skip (word (codes "void") ∷ ts) ≡ false
unfolding sees_skip skip_start skip_word is_stop_word op_word
void-no_skip ts = refl

void-back : ResultBack ty.Void
void-back = record {
  back = back-same _ _ _ ty.Void _ lexemes-Void (back-yes (sees_word (codes "void")) _ _ _ ty.Void _ (λ after _. refl)
      (back-step _ _ _ tt _ _ _ (word-fixed (codes "void") refl (omega arith) refl) refl (back-pure _ _)));
  no_skip = λ b after. subst (λ c. sees_skip ((c ++ b) ++ after) ≡ false) (sym lexemes-Void) (void-no_skip (b ++ after));
}

scalar-back : (t : TyText) → TypeBack type_text t → ResultBack t
scalar-back t k = record {
  back = back-no (sees_word (codes "void")) _ _ _ t _ (λ after _. (head-no_word _ (k.head after)).0) k.back;
  no_skip = λ b after. head-no_skip _ (type-head _ t b k after);
}

pub result-gives : Gives result_type ResultBack
result-gives = gives-where_it _ _ _ _ (gives-bind _ _ Any _ (any-one _) (λ _ _. gives-pure _ _ void-back)) (gives-map type_text _ _ scalar-back type-gives)

result_reads-gives : Gives result_type ResultReadsBack
result_reads-gives = gives-map _ ResultBack _ (λ t k. back-text result_type (type_lexemes t) t Always k.back tt) result-gives

ArgumentBack : TyText × Opd → Type 0
ArgumentBack x = Element sees_type rules.argument (parts.typed_operand x) x Always

argument-elements : (xs : List (TyText × Opd)) → EachOf TypedReadsBack xs → EachOf ArgumentBack xs
unfolding ArgumentBack
argument-elements [] h = tt
argument-elements ((t, x) ∷ xs) ((a, b), hs) = let k = type-back t a in let g = operand-back x b in (
  record {
    back = back-then _ _ _ t _ _ _ k.back (back-none skipped _ _ _ _ (λ after _. skipped-none _ (operand-no_skip _ (g.head after)))
        (back-last _ _ _ x _ g.back));
    begins_so = type-begins _ t _ k;
  },
  argument-elements xs hs,
)

argument-gives : Gives rules.argument TypedReadsBack
argument-gives = gives-bind _ _ TypeReadsBack _ type_reads-gives
    (λ t k. gives-bind _ _ Any _ skipped-any (λ _ _. gives-bind _ _ OperandReadsBack _ operand_reads-gives (λ x h. gives-pure _ TypedReadsBack (k, h))))

call-known : Known ops.Call (codes "call")
unfolding op_word skip_word is_stop_word item_word
call-known = record { op = refl; no_skip = refl; no_item = refl; no_type = refl }

call-closes : (after : Lexemes) → Closes sees_type rules.argument parts.typed_operand Always (λ _. tt) (sign 41 ∷ after)
unfolding sees_type type_start
call-closes after = record { no_comma = refl; no_more = refl; after_element = tt }

call-back : (t : TyText) (n : Name) (arguments : List (TyText × Opd)) → ResultBack t → IsKept n → EachOf ArgumentBack arguments → OpBack (op.Call t n arguments)
unfolding op_lexemes ArgumentBack
call-back t n arguments k h es = started ops.Call _ (codes "call") _ refl call-known
    (back-step _ _ _ tt _ _ _ (word-fixed (codes "call") refl (omega arith) refl) refl
    (back-none skipped _ _ _ _ (λ after _. skipped-none _ (k.no_skip _ after))
    (back-then _ _ _ t _ _ _ k.back (back-step _ _ _ n _ _ _ (global-fixed n h) (global-again n h) (back-step _ _ _ tt _ _ _ (sign-fixed 40 refl) refl
    (back-then_if _ _ _ arguments _ _ _ _ (listed-back sees_type rules.argument parts.typed_operand Always (λ _. tt) arguments es)
    (λ after _. call-closes after) (back-step _ _ _ tt _ _ _ (sign-fixed 41 refl) refl
    (back-none skipped _ _ _ _ (λ after b. skipped-none after b.no_skip) (back-pure _ _)))))))))

call-gives : Gives rules.call PartsReadBack
call-gives = gives-bind _ _ Any _ skipped-any (λ _ _. gives-bind _ _ ResultReadsBack _ result_reads-gives (λ t k. gives-bind _ _ GlobalReadsBack _
    global_reads-gives (λ n h. gives-bind _ _ Any _ (any-one _) (λ _ _.
    gives-bind _ _ (EachOf TypedReadsBack) _ (gives-listed sees_type _ TypedReadsBack argument-gives) (λ arguments es. gives-bind _ _ Any _ (any-one _)
    (λ _ _. gives-bind _ _ Any _ skipped-any (λ _ _. gives-pure _ PartsReadBack (k, h, es))))))))

-- ---- br, switch, ret, unreachable

br-known : Known ops.Branch (codes "br")
unfolding op_word skip_word is_stop_word item_word
br-known = record { op = refl; no_skip = refl; no_item = refl; no_type = refl }

target-back : (n : Name) (F : Lexemes → Type 0) → IsKept n → Back rules.target (parts.target n) n F
target-back n F k = back-step _ _ _ tt _ _ _ (word-fixed (codes "label") refl (omega arith) refl) refl (back-one _ _ n _ (local-fixed n k) (local-again n k))

target-gives : Gives rules.target LocalReadsBack
target-gives = gives-bind _ _ Any _ (any-one _) (λ _ _. local_reads-gives)

jump-back : (to : Name) → IsKept to → OpBack (op.Jump to)
unfolding op_lexemes
jump-back to k = started ops.Branch _ (codes "br") _ refl br-known (back-step _ _ _ tt _ _ _ (word-fixed (codes "br") refl (omega arith) refl) refl
    (back-yes (sees_word (codes "label")) _ _ _ _ _ (λ after _. refl) (back-last _ _ _ to _ (target-back to _ k))))

conditional-back : (c : TyText × Opd) (chosen other : Name) → TypedBack c → IsKept chosen → IsKept other → OpBack (op.Branch c.0 c.1 chosen other)
unfolding op_lexemes
conditional-back c chosen other h k g = started ops.Branch _ (codes "br") _ refl br-known
    (back-step _ _ _ tt _ _ _ (word-fixed (codes "br") refl (omega arith) refl) refl
    (back-no (sees_word (codes "label")) _ _ _ _ _ (λ after _. (head-no_word _ (typed-head c _ h after)).1)
    (back-then _ _ _ c _ _ _ h.back (back-step _ _ _ tt _ _ _ (sign-fixed 44 refl) refl (back-then _ _ _ chosen _ _ _ (target-back chosen _ k)
    (back-step _ _ _ tt _ _ _ (sign-fixed 44 refl) refl (back-last _ _ _ other _ (target-back other _ g))))))))

branch-gives : Gives rules.branch PartsReadBack
branch-gives = gives-where_it _ _ _ _ (gives-bind _ _ LocalReadsBack _ target-gives (λ to k. gives-pure _ PartsReadBack k))
    (gives-bind _ _ TypedReadsBack _ typed_reads-gives (λ c h. gives-bind _ _ Any _ (any-one _)
    (λ _ _. gives-bind _ _ LocalReadsBack _ target-gives (λ chosen k. gives-bind _ _ Any _ (any-one _) (λ _ _.
    gives-bind _ _ LocalReadsBack _ target-gives (λ other g. gives-pure _ PartsReadBack (h, k, g)))))))

switch-known : Known ops.Switch (codes "switch")
unfolding op_word skip_word is_stop_word item_word
switch-known = record { op = refl; no_skip = refl; no_item = refl; no_type = refl }

CaseBack : TyText × Opd × Name → Type 0
CaseBack c = Element sees_type rules.case (parts.case c) c Always

case-elements : (cs : List (TyText × Opd × Name)) → EachOf CaseReadsBack cs → EachOf CaseBack cs
unfolding CaseBack
case-elements [] h = tt
case-elements ((t, v, to) ∷ cs) ((h, g), hs) = let x : TyText × Opd = (t, v) in let k = typed-back x h in (
  record {
    back = back-then _ _ _ x _ _ _ k.back (back-step _ _ _ tt _ _ _ (sign-fixed 44 refl) refl
        (back-last _ _ _ to _ (target-back to _ (local-kept_back to g))));
    begins_so = λ after. head-sees_type _ (typed-head x _ k after);
  },
  case-elements cs hs,
)

case-gives : Gives rules.case CaseReadsBack
case-gives = gives-bind _ _ TypedReadsBack _ typed_reads-gives (λ x h. gives-bind _ _ Any _ (any-one _)
    (λ _ _. gives-bind _ _ LocalReadsBack _ target-gives (λ to k. gives-pure _ CaseReadsBack (h, k))))

switch-ends : (after : Lexemes) → sees_type (sign 93 ∷ after) ≡ false
unfolding sees_type type_start
switch-ends after = refl

switch-back : (x : TyText × Opd) (other : Name) (cases : List (TyText × Opd × Name)) → TypedBack x → IsKept other → EachOf CaseBack cases
    → OpBack (op.Switch x.0 x.1 other cases)
unfolding op_lexemes CaseBack
switch-back x other cases h k es = started ops.Switch _ (codes "switch") _ refl switch-known
    (back-step _ _ _ tt _ _ _ (word-fixed (codes "switch") refl (omega arith) refl) refl
    (back-then _ _ _ x _ _ _ h.back (back-step _ _ _ tt _ _ _ (sign-fixed 44 refl) refl (back-then _ _ _ other _ _ _ (target-back other _ k)
    (back-step _ _ _ tt _ _ _ (sign-fixed 91 refl) refl
    (back-then_if _ _ _ cases _ _ _ _ (many-back sees_type rules.case parts.case Always (λ _ _. tt) cases es) (λ after _. (switch-ends after, tt))
    (back-step _ _ _ tt _ _ _ (sign-fixed 93 refl) refl (back-pure _ _))))))))

switch-gives : Gives rules.switch PartsReadBack
switch-gives = gives-bind _ _ TypedReadsBack _ typed_reads-gives (λ x h. gives-bind _ _ Any _ (any-one _)
    (λ _ _. gives-bind _ _ LocalReadsBack _ target-gives (λ other k. gives-bind _ _ Any _ (any-one _) (λ _ _.
    gives-bind _ _ (EachOf CaseReadsBack) _ (gives-many sees_type _ CaseReadsBack case-gives)
    (λ cases es. gives-bind _ _ Any _ (any-one _) (λ _ _. gives-pure _ PartsReadBack (h, k, es)))))))

ret-known : Known ops.Ret (codes "ret")
unfolding op_word skip_word is_stop_word item_word
ret-known = record { op = refl; no_skip = refl; no_item = refl; no_type = refl }

nothing-back : OpBack (op.Ret None)
unfolding op_lexemes
nothing-back = started ops.Ret _ (codes "ret") _ refl ret-known (back-step _ _ _ tt _ _ _ (word-fixed (codes "ret") refl (omega arith) refl) refl
    (back-yes (sees_word (codes "void")) _ _ _ _ _ (λ after _. refl) (back-step _ _ _ tt _ _ _ (word-fixed (codes "void") refl (omega arith) refl) refl
    (back-pure _ _))))

value-back : (x : TyText × Opd) → TypedBack x → OpBack (op.Ret (Some x))
unfolding op_lexemes
value-back x h = started ops.Ret _ (codes "ret") _ refl ret-known (back-step _ _ _ tt _ _ _ (word-fixed (codes "ret") refl (omega arith) refl) refl
    (back-no (sees_word (codes "void")) _ _ _ _ _ (λ after _. (head-no_word _ (type-head _ x.0 _ h.type after)).0)
    (back-last _ _ _ x _ (back-any _ _ _ _ h.back))))

ret-gives : Gives rules.ret PartsReadBack
ret-gives = gives-where_it _ _ _ _ (gives-bind _ _ Any _ (any-one _) (λ _ _. gives-pure _ PartsReadBack tt))
    (gives-bind _ _ TypedReadsBack _ typed_reads-gives (λ x h. gives-pure _ PartsReadBack h))

unreachable-known : Known ops.Unreachable (codes "unreachable")
unfolding op_word skip_word is_stop_word item_word
unreachable-known = record { op = refl; no_skip = refl; no_item = refl; no_type = refl }

unreachable-back : OpBack op.Unreachable
unfolding op_lexemes
unreachable-back = started ops.Unreachable _ (codes "unreachable") _ refl unreachable-known
    (back-step _ _ _ tt _ _ _ (word-fixed (codes "unreachable") refl (omega arith) refl) refl (back-pure _ _))

-- ---- all of them

op_by-gives : (s : OpStart) → Gives (op_by s) PartsReadBack
op_by-gives (ops.Bin b) = gives-bind _ _ Any _ (any-one _) (λ _ _. binary-gives b)
op_by-gives ops.Cmp = gives-bind _ _ Any _ (any-one _) (λ _ _. compare-gives)
op_by-gives ops.Select = gives-bind _ _ Any _ (any-one _) (λ _ _. select-gives)
op_by-gives (ops.Cast c) = gives-bind _ _ Any _ (any-one _) (λ _ _. cast-gives c)
op_by-gives ops.Freeze = gives-bind _ _ Any _ (any-one _) (λ _ _. freeze-gives)
op_by-gives ops.Alloca = gives-bind _ _ Any _ (any-one _) (λ _ _. alloca-gives)
op_by-gives ops.Load = gives-bind _ _ Any _ (any-one _) (λ _ _. load-gives)
op_by-gives ops.Store = gives-bind _ _ Any _ (any-one _) (λ _ _. store-gives)
op_by-gives ops.Get = gives-bind _ _ Any _ (any-one _) (λ _ _. get-gives)
op_by-gives ops.Phi = gives-bind _ _ Any _ (any-one _) (λ _ _. phi-gives)
op_by-gives ops.TailCall = gives-bind _ _ Any _ (any-one _) (λ _ _. gives-bind _ _ Any _ (any-one _) (λ _ _. call-gives))
op_by-gives ops.Call = gives-bind _ _ Any _ (any-one _) (λ _ _. call-gives)
op_by-gives ops.Branch = gives-bind _ _ Any _ (any-one _) (λ _ _. branch-gives)
op_by-gives ops.Switch = gives-bind _ _ Any _ (any-one _) (λ _ _. switch-gives)
op_by-gives ops.Ret = gives-bind _ _ Any _ (any-one _) (λ _ _. ret-gives)
op_by-gives ops.Unreachable = gives-bind _ _ Any _ (any-one _) (λ _ _. gives-pure _ PartsReadBack tt)
op_by-gives ops.Nothing = gives-refuse _

-- an instruction each of whose parts reads back is read again
pub op-back : (o : Op) → PartsReadBack o → OpBack o
op-back (op.Bin b t x y) (k, h, g) = binary-back b t x y (type-back t k) (operand-back x h) (operand-back y g)
op-back (op.Cmp p t x y) (k, h, g) = compare-back p t x y (type-back t k) (operand-back x h) (operand-back y g)
op-back (op.Select s c t x u y) (k, h, g) = select-back (s, c) (t, x) (u, y) (typed-back (s, c) k) (typed-back (t, x) h) (typed-back (u, y) g)
op-back (op.Cast c t x to) (h, k) = cast-back c (t, x) to (typed-back (t, x) h) (type-back to k)
op-back (op.Freeze t x) h = freeze-back (t, x) (typed-back (t, x) h)
op-back (op.Alloca t n) (k, h) = alloca-back t n (type-back t k) (count-back n h)
op-back (op.Load t u x) (k, h) = load-back t (u, x) (type-back t k) (typed-back (u, x) h)
op-back (op.Store t x u y) (h, g) = store-back (t, x) (u, y) (typed-back (t, x) h) (typed-back (u, y) g)
op-back (op.Get of t x indices) (k, h, es) = get-back of (t, x) indices (type-back of k) (typed-back (t, x) h) (typed-elements indices es)
op-back (op.Phi t entries) (k, es) = phi-back t entries (type-back t k) es
op-back (op.Call t n arguments) (k, h, es) = call-back t n arguments (text-gives result_type ResultBack _ t result-gives k) (global-kept_back n h)
    (argument-elements arguments es)
op-back (op.Jump to) k = jump-back to (local-kept_back to k)
op-back (op.Branch t c chosen other) (h, k, g) = conditional-back (t, c) chosen other (typed-back (t, c) h) (local-kept_back chosen k) (local-kept_back other g)
op-back (op.Switch t x other cases) (h, k, es) = switch-back (t, x) other cases (typed-back (t, x) h) (local-kept_back other k) (case-elements cases es)
op-back (op.Ret None) h = nothing-back
op-back (op.Ret (Some x)) h = value-back x (typed-back x h)
op-back op.Unreachable h = unreachable-back

pub instruction-gives : Gives instruction PartsReadBack
unfolding instruction
instruction-gives = gives-look op_start op_by _ op_by-gives
