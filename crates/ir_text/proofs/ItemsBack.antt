-- Items and whole modules are read again.
use Rattle.std.proofs.Common.{◌≡◌, Bool, true, false, List, [], ◌∷◌, ◌++◌, map, Option, Some, None, codes, refl, sym, ap, ◌∙◌, subst, arith}
use Rattle.std.proofs.lemmas.List.{append-nil}
use Rattle.ir_tree.specs.declared.name.Name.{Name}
use Rattle.ir_tree.specs.declared.type_text.TyText.{TyText}
use Rattle.ir_tree.specs.declared.operand.Init.{Init}
use Rattle.ir_tree.specs.declared.op.Op.{Op}
use Rattle.ir_tree.specs.declared.item.Item.{Item}
use Rattle.ir_tree.specs.declared.item.Item.TheVariants as tree
use Rattle.ir_grammar.specs.declared.starts.ItemStart.{ItemStart}
use Rattle.ir_grammar.specs.declared.starts.ItemStart.TheVariants as items
use Rattle.ir_grammar.specs.Lexeme.{Lexemes, sees_word, sees_local}
use Rattle.ir_grammar.specs.Rule.{◌>>=◌, ◌>>◌, pure}
use Rattle.ir_grammar.specs.Words.{meaning, value_of}
use Rattle.ir_grammar.specs.Starts.{sees_type, type_start, sees_skip, sees_head_skip, skip_start, skip_word, is_stop_word, op_word, item_start, item_word}
use Rattle.ir_grammar.specs.Starts.{sees_tail, sees_global_tail, tail_start}
use Rattle.ir_grammar.specs.Types.{type_text}
use Rattle.ir_grammar.specs.Skips.{skipped, head_skipped, global_tailed}
use Rattle.ir_grammar.specs.Operands.{initialiser}
use Rattle.ir_grammar.specs.Items as rules
use Rattle.ir_grammar.specs.Items.{SomeItem, item_by, item}
use Rattle.ir_text.specs.Spelling.{word, sign, comma, local, global, label}
use Rattle.ir_text.specs.Parts as parts
use Rattle.ir_text.specs.Parts.{type_lexemes, init_lexemes, op_lexemes, item_lexemes, joined, in_parentheses}
use Rattle.ir_text.specs.ReadBack.{EachOf, PartsReadBack}
use Rattle.ir_text.proofs.Gives.{Gives, Any, gives-bind, gives-pure, gives-one, gives-look, gives-where_it, gives-listed, any-one, any-where_it}
use Rattle.ir_text.proofs.Gives.{any-group}
use Rattle.ir_text.proofs.Back.{Fixed, Always, Back, back-pure, back-step, back-then, back-then_if, back-last, back-none, back-look, back-yes, back-no}
use Rattle.ir_text.proofs.Back.{back-same, back-any}
use Rattle.ir_text.proofs.Values.{IsKept, local-kept, local-again, global-kept, global-again, label-kept, label-again}
use Rattle.ir_text.proofs.FixedTokens.{sign-fixed, word-fixed, local-fixed, global-fixed, label-fixed}
use Rattle.ir_text.proofs.ListsBack.{Element, Closes, listed-back}
use Rattle.ir_text.proofs.TypesBack.{TypeBack, type-begins, type-gives}
use Rattle.ir_text.proofs.Skipped.{skipped-any, skipped-none, head_skipped-any, head_skipped-none, optional-any, tailed-any, tailed-none, global_tailed-any}
use Rattle.ir_text.proofs.Skipped.{global_tailed-none}
use Rattle.ir_text.proofs.InitsBack.{InitBack, init-gives}
use Rattle.ir_text.proofs.OpsBack.{Behind, OpBack, op-back, ResultBack, result-gives, instruction-gives}

-- each part of an item that is an instruction reads back
abbrev pub InstrBack : Item → Type 0
InstrBack (tree.Instr n o) = PartsReadBack o
InstrBack _ = Unit {0}

-- an item that is read again, and begins as what may stand behind another
pub record ItemBack (i : Item) : Type 0 where
  pub instr : InstrBack i
  pub back : Back item (item_lexemes i) (Some i) Behind
  pub head : (after : Lexemes) → Behind (item_lexemes i ++ after)

-- one that isn't in the tree leaves nothing to be read
abbrev pub SomeBack : SomeItem → Type 0
SomeBack None = Unit {0}
SomeBack (Some i) = ItemBack i

started : (s : ItemStart) (i : Item) (ls : Lexemes) → InstrBack i → item_lexemes i ≡ ls → ((after : Lexemes) → item_start (ls ++ after) ≡ s)
    → Back (item_by s) ls (Some i) Behind → ((after : Lexemes) → Behind (ls ++ after)) → ItemBack i
unfolding item
started s i ls o e f b h = record {
  instr = o;
  back = back-same _ _ ls (Some i) _ e (back-look item_start item_by s _ (Some i) _ (λ after _. f after) b);
  head = λ after. subst (λ c. Behind (c ++ after)) (sym e) (h after);
}

-- ---- lines that aren't kept

source-gives : Gives rules.source SomeBack
source-gives = gives-bind _ _ Any _ (any-one _) (λ _ _. gives-bind _ _ Any _ (any-one _) (λ _ _. gives-bind _ _ Any _ (any-one _) (λ _ _. gives-pure _ _ tt)))

target-gives : Gives rules.target_line SomeBack
target-gives = gives-bind _ _ Any _ (any-one _) (λ _ _. gives-bind _ _ Any _ (any-where_it _ _ _ (any-one _) (any-one _))
    (λ _ _. gives-bind _ _ Any _ (any-one _) (λ _ _. gives-bind _ _ Any _ (any-one _) (λ _ _. gives-pure _ _ tt))))

attributes-gives : Gives rules.attributes SomeBack
attributes-gives = gives-bind _ _ Any _ (any-one _) (λ _ _. gives-bind _ _ Any _ (any-one _)
    (λ _ _. gives-bind _ _ Any _ (any-one _) (λ _ _. gives-bind _ _ Any _ (any-group _) (λ _ _. gives-pure _ _ tt))))

metadata-gives : Gives rules.metadata SomeBack
metadata-gives = gives-bind _ _ Any _ (any-one _) (λ _ _. gives-bind _ _ Any _ (any-one _)
    (λ _ _. gives-bind _ _ Any _ (optional-any _) (λ _ _. gives-bind _ _ Any _ (any-one _)
    (λ _ _. gives-bind _ _ Any _ (any-group _) (λ _ _. gives-pure _ _ tt)))))

-- ---- instructions and type definitions

local-behind : (n : Name) (after : Lexemes) → Behind (local n ∷ after)
unfolding sees_skip skip_start sees_tail sees_global_tail tail_start
local-behind n after = record { no_comma = refl; no_skip = refl; no_tail = refl; no_global_tail = refl }

local-start : (n : Name) (after : Lexemes) → item_start (local n ∷ after) ≡ items.Local
unfolding item_start
local-start n after = refl

instruction-again : (n : Option Name) (o : Op) → OpBack o → Back (rules.instruction_of n) (op_lexemes o) (Some (tree.Instr n o)) Behind
instruction-again n o b = record {
  fixed = b.back.fixed;
  again = λ after h. (o, after, b.back.again after h, (tt, after, tailed-none after h.no_tail, (refl, refl)));
}

pub plain-back : (o : Op) → PartsReadBack o → ItemBack (tree.Instr None o)
unfolding item_lexemes
plain-back o h = let b = op-back o h in started items.Other _ (op_lexemes o) h refl (λ after. (b.head after).other) (instruction-again None o b) (λ after. (b.head after).behind)

bound-back : (n : Name) (o : Op) → IsKept n → PartsReadBack o → ItemBack (tree.Instr (Some n) o)
unfolding item_lexemes
bound-back n o k h = let b = op-back o h in started items.Local _ (local n ∷ sign 61 ∷ op_lexemes o) h refl (λ after. local-start n _)
    (back-step _ _ _ n _ _ _ (local-fixed n k) (local-again n k) (back-step _ _ _ tt _ _ _ (sign-fixed 61 refl) refl
    (back-no (sees_word (codes "type")) _ _ _ _ _ (λ after _. (b.head after).no_type) (instruction-again (Some n) o b)))) (λ after. local-behind n _)

type-back : (n : Name) (t : TyText) → IsKept n → TypeBack type_text t → ItemBack (tree.TypeDef n t)
unfolding item_lexemes
type-back n t k b = started items.Local _ (local n ∷ sign 61 ∷ word (codes "type") ∷ type_lexemes t) tt refl (λ after. local-start n _)
    (back-step _ _ _ n _ _ _ (local-fixed n k) (local-again n k) (back-step _ _ _ tt _ _ _ (sign-fixed 61 refl) refl
    (back-yes (sees_word (codes "type")) _ _ _ _ _ (λ after _. refl)
    (back-step _ _ _ tt _ _ _ (word-fixed (codes "type") refl (omega arith) refl) refl (back-last _ _ _ t _ (back-any _ _ _ _ b.back))))))
    (λ after. local-behind n _)

bound-gives : Gives rules.bound SomeBack
bound-gives = gives-bind _ _ IsKept _ (gives-one _ IsKept local-kept) (λ n k. gives-bind _ _ Any _ (any-one _) (λ _ _. gives-where_it _ _ _ _
    (gives-bind _ _ Any _ (any-one _) (λ _ _. gives-bind _ _ (TypeBack type_text) _ type-gives (λ t b. gives-pure _ _ (type-back n t k b))))
    (gives-bind _ _ PartsReadBack _ instruction-gives (λ o b. gives-bind _ _ Any _ tailed-any (λ _ _. gives-pure _ _ (bound-back n o k b))))))

plain-gives : Gives (rules.instruction_of None) SomeBack
plain-gives = gives-bind _ _ PartsReadBack _ instruction-gives (λ o b. gives-bind _ _ Any _ tailed-any (λ _ _. gives-pure _ _ (plain-back o b)))

-- ---- globals

global-behind : (n : Name) (after : Lexemes) → Behind (global n ∷ after)
unfolding sees_skip skip_start sees_tail sees_global_tail tail_start
global-behind n after = record { no_comma = refl; no_skip = refl; no_tail = refl; no_global_tail = refl }

global-start : (n : Name) (after : Lexemes) → item_start (global n ∷ after) ≡ items.Global
unfolding item_start
global-start n after = refl

kind-no_skip : (b : Bool) (after : Lexemes) → sees_skip (word (parts.global_kind b) ∷ after) ≡ false
unfolding sees_skip skip_start skip_word is_stop_word op_word
kind-no_skip true after = refl
kind-no_skip false after = refl

kind-fixed : (b : Bool) → Fixed (word (parts.global_kind b))
kind-fixed true = word-fixed (codes "constant") refl (omega arith) refl
kind-fixed false = word-fixed (codes "global") refl (omega arith) refl

kind-again : (b : Bool) → value_of (meaning rules.global_kinds None) (word (parts.global_kind b)) ≡ Some b
kind-again true = refl
kind-again false = refl

global-tail : (n : Name) (b : Bool) (t : TyText) (x : Init) → InitBack initialiser x
    → Back (initialiser >>= (λ v. global_tailed >> pure (Some (tree.Global n b t v)))) (init_lexemes x) (Some (tree.Global n b t x)) Behind
global-tail n b t x g = record {
  fixed = g.fixed;
  again = λ after h.
      (x, after, g.again after tt, (tt, after, global_tailed-none after h.no_global_tail, (refl, refl)));
}

global-back : (n : Name) (b : Bool) (t : TyText) (x : Init) → IsKept n → TypeBack type_text t → InitBack initialiser x → ItemBack (tree.Global n b t x)
unfolding item_lexemes
global-back n b t x k h g = started items.Global _ (global n ∷ sign 61 ∷ word (parts.global_kind b) ∷ (type_lexemes t ++ init_lexemes x)) tt refl
    (λ after. global-start n _)
    (back-step _ _ _ n _ _ _ (global-fixed n k) (global-again n k) (back-step _ _ _ tt _ _ _ (sign-fixed 61 refl) refl
    (back-none skipped _ _ _ _ (λ after _. skipped-none _ (kind-no_skip b _))
    (back-step _ _ _ b _ _ _ (kind-fixed b) (kind-again b) (back-then _ _ _ t _ _ _ h.back (global-tail n b t x g)))))) (λ after. global-behind n _)

global-gives : Gives rules.global SomeBack
global-gives = gives-bind _ _ IsKept _ (gives-one _ IsKept global-kept)
    (λ n k. gives-bind _ _ Any _ (any-one _) (λ _ _. gives-bind _ _ Any _ skipped-any
    (λ _ _. gives-bind _ _ Any _ (any-one _) (λ b _. gives-bind _ _ (TypeBack type_text) _ type-gives (λ t h.
    gives-bind _ _ (InitBack initialiser) _ init-gives (λ x g. gives-bind _ _ Any _ global_tailed-any (λ _ _. gives-pure _ _ (global-back n b t x k h g))))))))

-- ---- parameters

abbrev Ends : Lexemes → Type 0
Ends after = (sees_skip after ≡ false) × (sees_local after ≡ false)

pub record ParameterBack (p : TyText × Option Name) : Type 0 where
  pub type : TypeBack type_text p.0
  pub element : Element sees_type rules.parameter (parts.parameter p) p Ends

local-no_skip : (n : Name) (after : Lexemes) → sees_skip (local n ∷ after) ≡ false
unfolding sees_skip skip_start
local-no_skip n after = refl

named-back : (t : TyText) (n : Name) → TypeBack type_text t → IsKept n → ParameterBack (t, Some n)
named-back t n h k = record {
  type = h;
  element = record {
    back = back-then _ _ _ t _ _ _ h.back (back-none skipped _ _ _ _ (λ after _. skipped-none _ (local-no_skip n _))
        (back-last _ _ _ (Some n) _ (back-yes sees_local _ _ _ _ _ (λ after _. refl) (back-step _ _ _ n _ _ _ (local-fixed n k) (local-again n k)
        (back-pure _ _)))));
    begins_so = type-begins _ t _ h;
  };
}

unnamed-back : (t : TyText) → TypeBack type_text t → ParameterBack (t, None)
unnamed-back t h = record {
  type = h;
  element = record {
    back = back-then _ _ _ t _ _ _ h.back (back-none skipped _ _ _ _ (λ after e. skipped-none _ e.0)
        (back-last _ _ _ None _ (back-no sees_local _ _ _ _ _ (λ after e. e.1) (back-pure _ _))));
    begins_so = type-begins _ t _ h;
  };
}

abbrev IsSomeKept : Option Name → Type 0
IsSomeKept None = Unit {0}
IsSomeKept (Some n) = IsKept n

parameter-back : (t : TyText) (n : Option Name) → TypeBack type_text t → IsSomeKept n → ParameterBack (t, n)
parameter-back t None h k = unnamed-back t h
parameter-back t (Some n) h k = named-back t n h k

parameter-gives : Gives rules.parameter ParameterBack
parameter-gives = gives-bind _ _ (TypeBack type_text) _ type-gives (λ t h. gives-bind _ _ Any _ skipped-any (λ _ _. gives-bind _ _ IsSomeKept _
    (gives-where_it _ _ _ IsSomeKept (gives-bind _ _ IsKept _ (gives-one _ IsKept local-kept) (λ n k. gives-pure _ _ k)) (gives-pure _ _ tt))
    (λ n k. gives-pure _ _ (parameter-back t n h k))))

parameters-gives : Gives rules.parameters (EachOf ParameterBack)
parameters-gives = gives-bind _ _ Any _ (any-one _) (λ _ _. gives-bind _ _ (EachOf ParameterBack) _ (gives-listed sees_type _ ParameterBack parameter-gives)
    (λ ps es. gives-bind _ _ Any _ (any-one _) (λ _ _. gives-pure _ _ es)))

comma-ends : (after : Lexemes) → Ends (comma ∷ after)
unfolding sees_skip skip_start
comma-ends after = (refl, refl)

parameters-close : (after : Lexemes) → Closes sees_type rules.parameter parts.parameter Ends comma-ends (sign 41 ∷ after)
unfolding sees_type type_start sees_skip skip_start
parameters-close after = record { no_comma = refl; no_more = refl; after_element = (refl, refl) }

elements : (ps : List (TyText × Option Name)) → EachOf ParameterBack ps → EachOf (λ p. Element sees_type rules.parameter (parts.parameter p) p Ends) ps
elements [] es = tt
elements (p ∷ ps) (e, es) = (e.element, elements ps es)

parameters-back : (ps : List (TyText × Option Name)) → EachOf ParameterBack ps → Back rules.parameters (in_parentheses (map parts.parameter ps)) ps Always
parameters-back ps es = back-step _ _ _ tt _ _ _ (sign-fixed 40 refl) refl
    (back-then_if _ _ _ ps _ _ _ _ (listed-back sees_type rules.parameter parts.parameter Ends comma-ends ps (elements ps es))
    (λ after _. parameters-close after)
    (back-step _ _ _ tt _ _ _ (sign-fixed 41 refl) refl (back-pure _ _)))

-- ---- declared functions

abbrev bare : TyText → TyText × Option Name
bare t = (t, None)

bare-lexemes : (ts : List TyText) → map type_lexemes ts ≡ map parts.parameter (map bare ts)
bare-lexemes [] = refl
bare-lexemes (t ∷ ts) = ap (λ a. a ∷ map type_lexemes ts) (sym (append-nil (type_lexemes t))) ∙ ap (λ more. (type_lexemes t ++ []) ∷ more) (bare-lexemes ts)

bare-types : (ts : List TyText) → map (λ p. p.0) (map bare ts) ≡ ts
bare-types [] = refl
bare-types (t ∷ ts) = ap (λ more. t ∷ more) (bare-types ts)

bare-backs : (ts : List TyText) → EachOf (TypeBack type_text) ts → EachOf ParameterBack (map bare ts)
bare-backs [] bs = tt
bare-backs (t ∷ ts) (b, bs) = (unnamed-back t b, bare-backs ts bs)

types-of : (ps : List (TyText × Option Name)) → EachOf ParameterBack ps → EachOf (TypeBack type_text) (map (λ p. p.0) ps)
types-of [] es = tt
types-of (p ∷ ps) (e, es) = (e.type, types-of ps es)

declare-behind : (after : Lexemes) → Behind (word (codes "declare") ∷ after)
unfolding sees_skip skip_start skip_word is_stop_word op_word sees_tail sees_global_tail tail_start
declare-behind after = record { no_comma = refl; no_skip = refl; no_tail = refl; no_global_tail = refl }

declare-start : (after : Lexemes) → item_start (word (codes "declare") ∷ after) ≡ items.Declare
unfolding item_start item_word
declare-start after = refl

declare-tail : (n : Name) (t : TyText) (ts : List TyText) → EachOf (TypeBack type_text) ts
    → Back (rules.parameters >>= (λ ps. skipped >> pure (Some (tree.Declare n t (map (λ p. p.0) ps))))) (in_parentheses (map type_lexemes ts))
    (Some (tree.Declare n t ts)) Behind
declare-tail n t ts bs =
    let qs = map bare ts in
    let b = parameters-back qs (bare-backs ts bs) in
    subst (λ us. Back (rules.parameters >>= (λ ps. skipped >> pure (Some (tree.Declare n t (map (λ p. p.0) ps))))) (in_parentheses (map type_lexemes ts))
    (Some (tree.Declare n t us)) Behind) (bare-types ts)
    (back-same _ _ (in_parentheses (map parts.parameter qs)) _ _ (ap in_parentheses (bare-lexemes ts))
    (record { fixed = b.fixed; again = λ after h. (qs, after, b.again after tt, (tt, after, skipped-none after h.no_skip, (refl, refl))) }))

declare-back : (n : Name) (t : TyText) (ts : List TyText) → IsKept n → ResultBack t → EachOf (TypeBack type_text) ts → ItemBack (tree.Declare n t ts)
unfolding item_lexemes
declare-back n t ts k h bs = started items.Declare _ (word (codes "declare") ∷ (type_lexemes t ++ global n ∷ in_parentheses (map type_lexemes ts))) tt refl
    (λ after. declare-start _)
    (back-step _ _ _ tt _ _ _ (word-fixed (codes "declare") refl (omega arith) refl) refl
    (back-none skipped _ _ _ _ (λ after _. skipped-none _ (h.no_skip _ after)) (back-then _ _ _ t _ _ _ h.back
    (back-step _ _ _ n _ _ _ (global-fixed n k) (global-again n k) (declare-tail n t ts bs))))) (λ after. declare-behind _)

declare-gives : Gives rules.declare SomeBack
declare-gives = gives-bind _ _ Any _ (any-one _) (λ _ _. gives-bind _ _ Any _ skipped-any (λ _ _. gives-bind _ _ ResultBack _ result-gives
    (λ t h. gives-bind _ _ IsKept _ (gives-one _ IsKept global-kept) (λ n k.
    gives-bind _ _ (EachOf ParameterBack) _ parameters-gives
    (λ ps es. gives-bind _ _ Any _ skipped-any (λ _ _. gives-pure _ _ (declare-back n t _ k h (types-of ps es))))))))

-- ---- heads

head-behind : (after : Lexemes) → Behind (word (codes "define") ∷ after)
unfolding sees_skip skip_start skip_word is_stop_word op_word sees_tail sees_global_tail tail_start
head-behind after = record { no_comma = refl; no_skip = refl; no_tail = refl; no_global_tail = refl }

head-start : (after : Lexemes) → item_start (word (codes "define") ∷ after) ≡ items.Define
unfolding item_start item_word
head-start after = refl

head-ends : (after : Lexemes) → sees_head_skip (sign 123 ∷ after) ≡ false
unfolding sees_head_skip skip_start
head-ends after = refl

head-back : (n : Name) (t : TyText) (ps : List (TyText × Option Name)) → IsKept n → ResultBack t → EachOf ParameterBack ps → ItemBack (tree.Head n t ps)
unfolding item_lexemes
head-back n t ps k h es = started items.Define _ (word (codes "define") ∷
    (type_lexemes t ++ global n ∷ (in_parentheses (map parts.parameter ps) ++ sign 123 ∷ []))) tt refl (λ after. head-start _)
    (back-step _ _ _ tt _ _ _ (word-fixed (codes "define") refl (omega arith) refl) refl
    (back-none skipped _ _ _ _ (λ after _. skipped-none _ (h.no_skip _ after)) (back-then _ _ _ t _ _ _ h.back
    (back-step _ _ _ n _ _ _ (global-fixed n k) (global-again n k) (back-then _ _ _ ps _ _ _ (parameters-back ps es)
    (back-none head_skipped _ _ _ _ (λ after _. head_skipped-none _ (head-ends _)) (back-step _ _ _ tt _ _ _ (sign-fixed 123 refl) refl
    (back-pure _ _)))))))) (λ after. head-behind _)

head-gives : Gives rules.head SomeBack
head-gives = gives-bind _ _ Any _ (any-one _) (λ _ _. gives-bind _ _ Any _ skipped-any (λ _ _. gives-bind _ _ ResultBack _ result-gives
    (λ t h. gives-bind _ _ IsKept _ (gives-one _ IsKept global-kept) (λ n k.
    gives-bind _ _ (EachOf ParameterBack) _ parameters-gives
    (λ ps es. gives-bind _ _ Any _ head_skipped-any (λ _ _. gives-bind _ _ Any _ (any-one _) (λ _ _. gives-pure _ _ (head-back n t ps k h es))))))))

-- ---- labels and ends

label-back : (n : Name) → IsKept n → ItemBack (tree.Label n)
unfolding item_lexemes item_start sees_skip skip_start sees_tail sees_global_tail tail_start
label-back n k = started items.Label _ (label n ∷ []) tt refl (λ after. refl) (back-step _ _ _ n _ _ _ (label-fixed n k) (label-again n k) (back-pure _ _))
    (λ after. record { no_comma = refl; no_skip = refl; no_tail = refl; no_global_tail = refl })

end-back : ItemBack tree.End
unfolding item_lexemes item_start sees_skip skip_start sees_tail sees_global_tail tail_start
end-back = started items.End _ (sign 125 ∷ []) tt refl (λ after. refl) (back-step _ _ _ tt _ _ _ (sign-fixed 125 refl) refl (back-pure _ _))
    (λ after. record { no_comma = refl; no_skip = refl; no_tail = refl; no_global_tail = refl })

-- ---- items

item_by-gives : (s : ItemStart) → Gives (item_by s) SomeBack
item_by-gives items.Source = source-gives
item_by-gives items.Target = target-gives
item_by-gives items.Attributes = attributes-gives
item_by-gives items.Meta = metadata-gives
item_by-gives items.Local = bound-gives
item_by-gives items.Global = global-gives
item_by-gives items.Declare = declare-gives
item_by-gives items.Define = head-gives
item_by-gives items.Label = gives-bind _ _ IsKept _ (gives-one _ IsKept label-kept) (λ n k. gives-pure _ _ (label-back n k))
item_by-gives items.End = gives-bind _ _ Any _ (any-one _) (λ _ _. gives-pure _ _ end-back)
item_by-gives items.Other = plain-gives

pub item-gives : Gives item SomeBack
unfolding item
item-gives = gives-look item_start item_by _ item_by-gives
