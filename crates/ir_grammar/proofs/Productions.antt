-- Each production is read as it is defined.
use Rattle.std.proofs.Common.{◌≡◌, ℕ, zero, suc, ◌-◌, List, Option, Some, None, refl, ap, arith}
use Rattle.am_base.specs.declared.word.BinOp.{BinOp}
use Rattle.am_base.specs.declared.word.Cast.{Cast}
use Rattle.am_base.specs.declared.limits.TheConstants.{MAX_NESTING}
use Rattle.ir_tokens.specs.Bytes.{Text}
use Rattle.ir_tree.specs.declared.name.Name.{Name}
use Rattle.ir_tree.specs.declared.type_text.TyText.{TyText}
use Rattle.ir_tree.specs.declared.operand.Init.{Init}
use Rattle.ir_grammar.specs.declared.starts.TypeStart.{TypeStart}
use Rattle.ir_grammar.specs.declared.starts.TypeStart.TheVariants as types
use Rattle.ir_grammar.specs.declared.starts.SkipStart.{SkipStart}
use Rattle.ir_grammar.specs.declared.starts.SkipStart.TheVariants as skips
use Rattle.ir_grammar.specs.declared.starts.FlagStart.{FlagStart}
use Rattle.ir_grammar.specs.declared.starts.FlagStart.TheVariants as flags
use Rattle.ir_grammar.specs.declared.starts.TailStart.{TailStart}
use Rattle.ir_grammar.specs.declared.starts.TailStart.TheVariants as tails
use Rattle.ir_grammar.specs.declared.starts.OperandStart.{OperandStart}
use Rattle.ir_grammar.specs.declared.starts.OperandStart.TheVariants as operands
use Rattle.ir_grammar.specs.declared.starts.OpStart.{OpStart}
use Rattle.ir_grammar.specs.declared.starts.OpStart.TheVariants as ops
use Rattle.ir_grammar.specs.declared.starts.ItemStart.{ItemStart}
use Rattle.ir_grammar.specs.declared.starts.ItemStart.TheVariants as items
use Rattle.ir_grammar.specs.Rule.{Rule}
use Rattle.ir_grammar.specs.Lexeme.{Lexemes, sees_sign}
use Rattle.ir_grammar.specs.Starts.{type_start, sees_type}
use Rattle.ir_grammar.specs.Types.{simple, array, struct, nested, type_in, type_text, result_type}
use Rattle.ir_grammar.specs.Skips.{some_integer, skip_by, skip, skipped, head_skipped, flag_by, flag, flagged, word_flags, optional, tail_by, tail, tailed}
use Rattle.ir_grammar.specs.Skips.{global_tailed}
use Rattle.ir_grammar.specs.Operands.{constant_index, get_constant, operand_by, operand, typed_operand, element, init_array, init_struct, init_nested}
use Rattle.ir_grammar.specs.Operands.{init_simple, init_in}
use Rattle.ir_grammar.specs.Ops.{arithmetic_flags, cast_flags, binary, compare, select, conversion, freeze, count, alloca, load, store, get, entry, phi}
use Rattle.ir_grammar.specs.Ops.{argument, call, target, conditional, branch, case, switch, ret, op_by, instruction}
use Rattle.ir_grammar.specs.Items.{source, target_line, attributes, metadata, type_definition, instruction_of, bound, global, optional_local, parameter}
use Rattle.ir_grammar.specs.Items.{parameters, declare, head, item_by, item}
use Rattle.ir_grammar.proofs.Exact.{Exact, Firm, exact-bind, exact-pure, exact-one, exact-where_it, exact-repeated, exact-skip_many, exact-further}
use Rattle.ir_grammar.proofs.Exact.{exact-some_listed, exact-listed, firm-one, firm-refuse, firm-bind, firm-look, firm-where_it}
use Rattle.ir_grammar.proofs.GroupExact.{group-firm}

-- ---- types

simple-firm : (s : TypeStart) → Firm (simple s)
simple-firm (types.Int w) = firm-bind _ _ (firm-one _) (λ _. exact-pure _)
simple-firm types.Ptr = firm-bind _ _ (firm-one _) (λ _. exact-pure _)
simple-firm types.Named = firm-bind _ _ (firm-one _) (λ _. exact-pure _)
simple-firm types.Square = firm-refuse
simple-firm types.Curly = firm-refuse
simple-firm types.Nothing = firm-refuse

module _ (inner : Rule TyText) (e : Exact inner) where
  array-firm : Firm (array inner)
  array-firm = firm-bind _ _ (firm-one _) (λ _. exact-bind _ _ (exact-one _)
      (λ _. exact-bind _ _ (exact-one _) (λ _. exact-bind _ _ e (λ _. exact-bind _ _ (exact-one _) (λ _. exact-pure _)))))

  struct-firm : Firm (struct inner)
  struct-firm = firm-bind _ _ (firm-one _) (λ _. exact-bind _ _ (exact-listed sees_type _ e) (λ _. exact-bind _ _ (exact-one _) (λ _. exact-pure _)))

  nested-firm : (s : TypeStart) → Firm (nested inner s)
  nested-firm types.Square = array-firm
  nested-firm types.Curly = struct-firm
  nested-firm (types.Int w) = simple-firm (types.Int w)
  nested-firm types.Ptr = simple-firm types.Ptr
  nested-firm types.Named = simple-firm types.Named
  nested-firm types.Nothing = simple-firm types.Nothing

pub type_in-firm : (depth : ℕ) → Firm (type_in depth)
unfolding type_in
type_in-firm zero = firm-look _ simple simple-firm
type_in-firm (suc depth) = firm-look _ _ (nested-firm (type_in depth) (type_in-firm depth).exact)

-- one level, where a level is left
pub type_in-deep : (depth : ℕ) (ts : Lexemes) → (depth ≡ 0 → ⊥) → (type_in depth).parse ts ≡ (nested (type_in (depth - 1)) (type_start ts)).parse ts
unfolding type_in
type_in-deep zero ts some = absurd (some refl)
type_in-deep (suc depth) ts some = let e : depth ≡ suc depth - 1 = omega arith in ap (λ d. (nested (type_in d) (type_start ts)).parse ts) e

pub type_text-firm : Firm type_text
type_text-firm = type_in-firm MAX_NESTING

pub type_text-exact : Exact type_text
type_text-exact = type_text-firm.exact

pub result_type-exact : Exact result_type
result_type-exact = exact-where_it _ _ _ (exact-bind _ _ (exact-one _) (λ _. exact-pure _)) type_text-exact

-- ---- what is skipped

some_integer-exact : Exact some_integer
some_integer-exact = exact-bind _ _ (exact-one _) (λ _. exact-pure _)

skip_by-firm : (s : SkipStart) → Firm (skip_by s)
skip_by-firm skips.Attribute = firm-bind _ _ (firm-one _) (λ _. exact-where_it _ _ _ (group-firm _).exact (exact-pure _))
skip_by-firm skips.Align = firm-bind _ _ (firm-one _) (λ _. exact-where_it _ _ _ (group-firm _).exact some_integer-exact)
skip_by-firm skips.Quoted = firm-bind _ _ (firm-one _) (λ _. exact-where_it _ _ _ (exact-bind _ _ (exact-one _) (λ _. exact-one _)) (exact-pure _))
skip_by-firm skips.Hash = firm-one _
skip_by-firm skips.Meta = firm-bind _ _ (firm-one _) (λ _. exact-one _)
skip_by-firm skips.Nothing = firm-refuse

pub skip-firm : Firm skip
skip-firm = firm-look _ skip_by skip_by-firm

pub skipped-exact : Exact skipped
unfolding skipped
skipped-exact = exact-skip_many _ _ skip-firm

pub head_skipped-exact : Exact head_skipped
unfolding head_skipped
head_skipped-exact = exact-skip_many _ _ skip-firm

flag_by-firm : (s : FlagStart) → Firm (flag_by s)
flag_by-firm flags.Plain = firm-one _
flag_by-firm flags.InRange = firm-bind _ _ (firm-one _) (λ _. (group-firm _).exact)
flag_by-firm flags.Nothing = firm-refuse

pub flag-firm : Firm flag
flag-firm = firm-look _ flag_by flag_by-firm

pub flagged-exact : Exact flagged
unfolding flagged
flagged-exact = exact-skip_many _ _ flag-firm

pub word_flags-exact : (words : List Text) → Exact (word_flags words)
unfolding word_flags
word_flags-exact words = exact-skip_many _ _ (firm-one _)

pub optional-exact : (w : Text) → Exact (optional w)
optional-exact w = exact-where_it _ _ _ (exact-one _) (exact-pure _)

tail_by-firm : (s : TailStart) → Firm (tail_by s)
tail_by-firm tails.Align = firm-bind _ _ (firm-one _) (λ _. exact-bind _ _ (exact-one _) (λ _. some_integer-exact))
tail_by-firm tails.Section = firm-bind _ _ (firm-one _) (λ _. exact-bind _ _ (exact-one _) (λ _. exact-one _))
tail_by-firm tails.Meta = firm-bind _ _ (firm-one _) (λ _. exact-bind _ _ (exact-one _) (λ _. exact-one _))
tail_by-firm tails.Hash = firm-one _
tail_by-firm tails.Nothing = firm-refuse

pub tail-firm : Firm tail
tail-firm = firm-look _ tail_by tail_by-firm

pub tailed-exact : Exact tailed
unfolding tailed
tailed-exact = exact-skip_many _ _ tail-firm

pub global_tailed-exact : Exact global_tailed
unfolding global_tailed
global_tailed-exact = exact-skip_many _ _ tail-firm

-- ---- operands

pub constant_index-exact : Exact constant_index
constant_index-exact = exact-bind _ _ type_text-exact (λ _. exact-bind _ _ (exact-one _) (λ _. exact-pure _))

get_constant-firm : Firm get_constant
get_constant-firm = firm-bind _ _ (firm-one _) (λ _. exact-bind _ _ flagged-exact
    (λ _. exact-bind _ _ (exact-one _) (λ _. exact-bind _ _ type_text-exact (λ _. exact-bind _ _ (exact-one _) (λ _.
    exact-bind _ _ type_text-exact (λ _. exact-bind _ _ (exact-one _) (λ _. exact-bind _ _ (exact-further sees_type _ constant_index-exact)
    (λ _. exact-bind _ _ (exact-one _) (λ _. exact-pure _)))))))))

operand_by-firm : (s : OperandStart) → Firm (operand_by s)
operand_by-firm operands.Local = firm-bind _ _ (firm-one _) (λ _. exact-pure _)
operand_by-firm operands.Global = firm-bind _ _ (firm-one _) (λ _. exact-pure _)
operand_by-firm operands.Number = firm-bind _ _ (firm-one _) (λ _. exact-pure _)
operand_by-firm operands.True = firm-bind _ _ (firm-one _) (λ _. exact-pure _)
operand_by-firm operands.False = firm-bind _ _ (firm-one _) (λ _. exact-pure _)
operand_by-firm operands.Null = firm-bind _ _ (firm-one _) (λ _. exact-pure _)
operand_by-firm operands.Undef = firm-bind _ _ (firm-one _) (λ _. exact-pure _)
operand_by-firm operands.Poison = firm-bind _ _ (firm-one _) (λ _. exact-pure _)
operand_by-firm operands.Zero = firm-bind _ _ (firm-one _) (λ _. exact-pure _)
operand_by-firm operands.Get = get_constant-firm
operand_by-firm operands.Nothing = firm-refuse

pub operand-firm : Firm operand
unfolding operand
operand-firm = firm-look _ operand_by operand_by-firm

pub typed_operand-firm : Firm typed_operand
typed_operand-firm = firm-bind _ _ type_text-firm (λ _. exact-bind _ _ operand-firm.exact (λ _. exact-pure _))

-- ---- initialisers

init_simple-firm : Firm init_simple
init_simple-firm = firm-where_it _ _ _ (firm-bind _ _ (firm-one _) (λ _. exact-pure _)) (firm-bind _ _ operand-firm (λ _. exact-pure _))

module _ (inner : Rule Init) (e : Exact inner) where
  pub element-exact : Exact (element inner)
  element-exact = exact-bind _ _ type_text-exact (λ _. exact-bind _ _ e (λ _. exact-pure _))

  init_array-firm : Firm (init_array inner)
  init_array-firm = firm-bind _ _ (firm-one _) (λ _. exact-bind _ _ (exact-listed sees_type _ element-exact)
      (λ _. exact-bind _ _ (exact-one _) (λ _. exact-pure _)))

  init_struct-firm : Firm (init_struct inner)
  init_struct-firm = firm-bind _ _ (firm-one _) (λ _. exact-bind _ _ (exact-listed sees_type _ element-exact)
      (λ _. exact-bind _ _ (exact-one _) (λ _. exact-pure _)))

  init_nested-firm : Firm (init_nested inner)
  init_nested-firm = firm-where_it _ _ _ init_array-firm (firm-where_it _ _ _ init_struct-firm init_simple-firm)

pub init_in-firm : (depth : ℕ) → Firm (init_in depth)
unfolding init_in
init_in-firm zero = firm-where_it _ _ _ firm-refuse (firm-where_it _ _ _ firm-refuse init_simple-firm)
init_in-firm (suc depth) = init_nested-firm (init_in depth) (init_in-firm depth).exact

-- one level, where a level is left
pub init_in-deep : (depth : ℕ) (ts : Lexemes) → (depth ≡ 0 → ⊥) → (init_in depth).parse ts ≡ (init_nested (init_in (depth - 1))).parse ts
unfolding init_in
init_in-deep zero ts some = absurd (some refl)
init_in-deep (suc depth) ts some = let e : depth ≡ suc depth - 1 = omega arith in ap (λ d. (init_nested (init_in d)).parse ts) e

-- ---- instructions

typed-exact : Exact typed_operand
typed-exact = typed_operand-firm.exact

pub binary-exact : (b : BinOp) → Exact (binary b)
binary-exact b = exact-bind _ _ (word_flags-exact arithmetic_flags)
    (λ _. exact-bind _ _ type_text-exact (λ _. exact-bind _ _ operand-firm.exact
    (λ _. exact-bind _ _ (exact-one _) (λ _. exact-bind _ _ operand-firm.exact (λ _. exact-pure _)))))

pub compare-exact : Exact compare
compare-exact = exact-bind _ _ (optional-exact _) (λ _. exact-bind _ _ (exact-one _)
    (λ _. exact-bind _ _ type_text-exact (λ _. exact-bind _ _ operand-firm.exact
    (λ _. exact-bind _ _ (exact-one _) (λ _. exact-bind _ _ operand-firm.exact (λ _. exact-pure _))))))

pub select-exact : Exact select
select-exact = exact-bind _ _ typed-exact (λ _. exact-bind _ _ (exact-one _)
    (λ _. exact-bind _ _ typed-exact (λ _. exact-bind _ _ (exact-one _) (λ _. exact-bind _ _ typed-exact (λ _. exact-pure _)))))

pub conversion-exact : (c : Cast) → Exact (conversion c)
conversion-exact c = exact-bind _ _ (word_flags-exact cast_flags)
    (λ _. exact-bind _ _ typed-exact (λ _. exact-bind _ _ (exact-one _) (λ _. exact-bind _ _ type_text-exact (λ _. exact-pure _))))

pub freeze-exact : Exact freeze
freeze-exact = exact-bind _ _ typed-exact (λ _. exact-pure _)

pub count-exact : Exact count
count-exact = exact-where_it _ _ _ (exact-bind _ _ (exact-bind _ _ (exact-one _) (λ _. typed-exact)) (λ _. exact-pure _)) (exact-pure _)

pub alloca-exact : Exact alloca
alloca-exact = exact-bind _ _ type_text-exact (λ _. exact-bind _ _ count-exact (λ _. exact-pure _))

pub load-exact : Exact load
load-exact = exact-bind _ _ (optional-exact _) (λ _. exact-bind _ _ type_text-exact
    (λ _. exact-bind _ _ (exact-one _) (λ _. exact-bind _ _ typed-exact (λ _. exact-pure _))))

pub store-exact : Exact store
store-exact = exact-bind _ _ (optional-exact _) (λ _. exact-bind _ _ typed-exact
    (λ _. exact-bind _ _ (exact-one _) (λ _. exact-bind _ _ typed-exact (λ _. exact-pure _))))

pub get-exact : Exact get
get-exact = exact-bind _ _ flagged-exact (λ _. exact-bind _ _ type_text-exact
    (λ _. exact-bind _ _ (exact-one _) (λ _. exact-bind _ _ typed-exact (λ _. exact-bind _ _ (exact-further sees_type _ typed-exact) (λ _. exact-pure _)))))

pub entry-exact : Exact entry
entry-exact = exact-bind _ _ (exact-one _) (λ _. exact-bind _ _ operand-firm.exact
    (λ _. exact-bind _ _ (exact-one _) (λ _. exact-bind _ _ (exact-one _) (λ _. exact-bind _ _ (exact-one _) (λ _. exact-pure _)))))

pub phi-exact : Exact phi
phi-exact = exact-bind _ _ type_text-exact (λ _. exact-bind _ _ (exact-some_listed (sees_sign 91) _ entry-exact) (λ _. exact-pure _))

pub argument-exact : Exact argument
argument-exact = exact-bind _ _ type_text-exact (λ _. exact-bind _ _ skipped-exact (λ _. exact-bind _ _ operand-firm.exact (λ _. exact-pure _)))

pub call-exact : Exact call
call-exact = exact-bind _ _ skipped-exact (λ _. exact-bind _ _ result_type-exact (λ _. exact-bind _ _ (exact-one _) (λ _. exact-bind _ _ (exact-one _) (λ _.
    exact-bind _ _ (exact-listed sees_type _ argument-exact) (λ _. exact-bind _ _ (exact-one _) (λ _. exact-bind _ _ skipped-exact (λ _. exact-pure _)))))))

pub target-exact : Exact target
target-exact = exact-bind _ _ (exact-one _) (λ _. exact-one _)

pub conditional-exact : Exact conditional
conditional-exact = exact-bind _ _ typed-exact (λ _. exact-bind _ _ (exact-one _)
    (λ _. exact-bind _ _ target-exact (λ _. exact-bind _ _ (exact-one _) (λ _. exact-bind _ _ target-exact (λ _. exact-pure _)))))

pub branch-exact : Exact branch
branch-exact = exact-where_it _ _ _ (exact-bind _ _ target-exact (λ _. exact-pure _)) conditional-exact

pub case-firm : Firm case
case-firm = firm-bind _ _ typed_operand-firm (λ _. exact-bind _ _ (exact-one _) (λ _. exact-bind _ _ target-exact (λ _. exact-pure _)))

pub switch-exact : Exact switch
switch-exact = exact-bind _ _ typed-exact (λ _. exact-bind _ _ (exact-one _)
    (λ _. exact-bind _ _ target-exact (λ _. exact-bind _ _ (exact-one _) (λ _. exact-bind _ _ (exact-repeated sees_type _ case-firm)
    (λ _. exact-bind _ _ (exact-one _) (λ _. exact-pure _))))))

pub ret-exact : Exact ret
ret-exact = exact-where_it _ _ _ (exact-bind _ _ (exact-one _) (λ _. exact-pure _)) (exact-bind _ _ typed-exact (λ _. exact-pure _))

op_by-firm : (s : OpStart) → Firm (op_by s)
op_by-firm (ops.Bin b) = firm-bind _ _ (firm-one _) (λ _. binary-exact b)
op_by-firm ops.Cmp = firm-bind _ _ (firm-one _) (λ _. compare-exact)
op_by-firm ops.Select = firm-bind _ _ (firm-one _) (λ _. select-exact)
op_by-firm (ops.Cast c) = firm-bind _ _ (firm-one _) (λ _. conversion-exact c)
op_by-firm ops.Freeze = firm-bind _ _ (firm-one _) (λ _. freeze-exact)
op_by-firm ops.Alloca = firm-bind _ _ (firm-one _) (λ _. alloca-exact)
op_by-firm ops.Load = firm-bind _ _ (firm-one _) (λ _. load-exact)
op_by-firm ops.Store = firm-bind _ _ (firm-one _) (λ _. store-exact)
op_by-firm ops.Get = firm-bind _ _ (firm-one _) (λ _. get-exact)
op_by-firm ops.Phi = firm-bind _ _ (firm-one _) (λ _. phi-exact)
op_by-firm ops.TailCall = firm-bind _ _ (firm-one _) (λ _. exact-bind _ _ (exact-one _) (λ _. call-exact))
op_by-firm ops.Call = firm-bind _ _ (firm-one _) (λ _. call-exact)
op_by-firm ops.Branch = firm-bind _ _ (firm-one _) (λ _. branch-exact)
op_by-firm ops.Switch = firm-bind _ _ (firm-one _) (λ _. switch-exact)
op_by-firm ops.Ret = firm-bind _ _ (firm-one _) (λ _. ret-exact)
op_by-firm ops.Unreachable = firm-bind _ _ (firm-one _) (λ _. exact-pure _)
op_by-firm ops.Nothing = firm-refuse

pub instruction-firm : Firm instruction
unfolding instruction
instruction-firm = firm-look _ op_by op_by-firm

-- ---- items

source-firm : Firm source
source-firm = firm-bind _ _ (firm-one _) (λ _. exact-bind _ _ (exact-one _) (λ _. exact-bind _ _ (exact-one _) (λ _. exact-pure _)))

target_line-firm : Firm target_line
target_line-firm = firm-bind _ _ (firm-one _) (λ _. exact-bind _ _ (exact-where_it _ _ _ (exact-one _) (exact-one _))
    (λ _. exact-bind _ _ (exact-one _) (λ _. exact-bind _ _ (exact-one _) (λ _. exact-pure _))))

attributes-firm : Firm attributes
attributes-firm = firm-bind _ _ (firm-one _) (λ _. exact-bind _ _ (exact-one _)
    (λ _. exact-bind _ _ (exact-one _) (λ _. exact-bind _ _ (group-firm _).exact (λ _. exact-pure _))))

metadata-firm : Firm metadata
metadata-firm = firm-bind _ _ (firm-one _) (λ _. exact-bind _ _ (exact-one _)
    (λ _. exact-bind _ _ (optional-exact _) (λ _. exact-bind _ _ (exact-one _) (λ _. exact-bind _ _ (group-firm _).exact (λ _. exact-pure _)))))

type_definition-exact : (n : Name) → Exact (type_definition n)
type_definition-exact n = exact-bind _ _ (exact-one _) (λ _. exact-bind _ _ type_text-exact (λ _. exact-pure _))

pub instruction_of-firm : (n : Option Name) → Firm (instruction_of n)
instruction_of-firm n = firm-bind _ _ instruction-firm (λ _. exact-bind _ _ tailed-exact (λ _. exact-pure _))

bound-firm : Firm bound
bound-firm = firm-bind _ _ (firm-one _) (λ n. exact-bind _ _ (exact-one _) (λ _. exact-where_it _ _ _ (type_definition-exact n)
    (instruction_of-firm (Some n)).exact))

global-firm : Firm global
global-firm = firm-bind _ _ (firm-one _) (λ _. exact-bind _ _ (exact-one _)
    (λ _. exact-bind _ _ skipped-exact (λ _. exact-bind _ _ (exact-one _) (λ _. exact-bind _ _ type_text-exact (λ _.
    exact-bind _ _ (init_in-firm MAX_NESTING).exact (λ _. exact-bind _ _ global_tailed-exact (λ _. exact-pure _)))))))

optional_local-exact : Exact optional_local
optional_local-exact = exact-where_it _ _ _ (exact-bind _ _ (exact-one _) (λ _. exact-pure _)) (exact-pure _)

pub parameter-exact : Exact parameter
parameter-exact = exact-bind _ _ type_text-exact (λ _. exact-bind _ _ skipped-exact (λ _. exact-bind _ _ optional_local-exact (λ _. exact-pure _)))

parameters-exact : Exact parameters
parameters-exact = exact-bind _ _ (exact-one _) (λ _. exact-bind _ _ (exact-listed sees_type _ parameter-exact)
    (λ _. exact-bind _ _ (exact-one _) (λ _. exact-pure _)))

declare-firm : Firm declare
declare-firm = firm-bind _ _ (firm-one _) (λ _. exact-bind _ _ skipped-exact
    (λ _. exact-bind _ _ result_type-exact (λ _. exact-bind _ _ (exact-one _) (λ _. exact-bind _ _ parameters-exact (λ _.
    exact-bind _ _ skipped-exact (λ _. exact-pure _))))))

head-firm : Firm head
head-firm = firm-bind _ _ (firm-one _) (λ _. exact-bind _ _ skipped-exact
    (λ _. exact-bind _ _ result_type-exact (λ _. exact-bind _ _ (exact-one _) (λ _. exact-bind _ _ parameters-exact (λ _.
    exact-bind _ _ head_skipped-exact (λ _. exact-bind _ _ (exact-one _) (λ _. exact-pure _)))))))

item_by-firm : (s : ItemStart) → Firm (item_by s)
item_by-firm items.Source = source-firm
item_by-firm items.Target = target_line-firm
item_by-firm items.Attributes = attributes-firm
item_by-firm items.Meta = metadata-firm
item_by-firm items.Local = bound-firm
item_by-firm items.Global = global-firm
item_by-firm items.Declare = declare-firm
item_by-firm items.Define = head-firm
item_by-firm items.Label = firm-bind _ _ (firm-one _) (λ _. exact-pure _)
item_by-firm items.End = firm-bind _ _ (firm-one _) (λ _. exact-pure _)
item_by-firm items.Other = instruction_of-firm None

pub item-firm : Firm item
unfolding item
item-firm = firm-look _ item_by item_by-firm
