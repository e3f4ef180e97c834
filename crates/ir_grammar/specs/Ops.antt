-- Instructions, without their results.
use Rattle.std.specs.Prelude.{List, [], ◌∷◌, codes, Option, Some, None}
use Rattle.am_base.specs.declared.word.BinOp.{BinOp}
use Rattle.am_base.specs.declared.word.Cast.{Cast}
use Rattle.am_base.specs.declared.word.Pred.{Pred}
use Rattle.am_base.specs.declared.word.Pred.TheVariants as pred
use Rattle.ir_tokens.specs.Bytes.{Text}
use Rattle.ir_tree.specs.declared.name.Name.{Name}
use Rattle.ir_tree.specs.declared.type_text.TyText.{TyText}
use Rattle.ir_tree.specs.declared.operand.Opd.{Opd}
use Rattle.ir_tree.specs.declared.op.Op.{Op}
use Rattle.ir_tree.specs.declared.op.Op.TheVariants as op
use Rattle.ir_grammar.specs.declared.starts.OpStart.{OpStart}
use Rattle.ir_grammar.specs.declared.starts.OpStart.TheVariants as ops
use Rattle.ir_grammar.specs.Lexeme.{sees_sign, sees_word}
use Rattle.ir_grammar.specs.Rule.{Rule, ◌>>=◌, ◌>>◌, pure, refuse, one, next, look, where_it, many, sign, comma_then, further, some_listed, listed}
use Rattle.ir_grammar.specs.Words.{local, global_name, word, meaning, value_of}
use Rattle.ir_grammar.specs.Starts.{op_start, sees_type}
use Rattle.ir_grammar.specs.Types.{type_text, result_type}
use Rattle.ir_grammar.specs.Skips.{skipped, flagged, word_flags, optional}
use Rattle.ir_grammar.specs.Operands.{operand, typed_operand}

abbrev pub arithmetic_flags : List Text
arithmetic_flags = codes "nsw" ∷ codes "nuw" ∷ codes "exact" ∷ codes "disjoint" ∷ []

-- add .. xor (nsw | nuw | exact | disjoint)* T opd , opd
abbrev pub binary : BinOp → Rule Op
binary b = do
  word_flags arithmetic_flags
  t ← type_text
  x ← operand
  sign 44
  y ← operand
  pure (op.Bin b t x y)

abbrev pub predicates : List (Text × Option Pred)
predicates =
    (codes "eq", Some pred.Eq) ∷ (codes "ne", Some pred.Ne) ∷ (codes "ugt", Some pred.Ugt) ∷ (codes "uge", Some pred.Uge)
    ∷ (codes "ult", Some pred.Ult) ∷ (codes "ule", Some pred.Ule) ∷ (codes "sgt", Some pred.Sgt) ∷ (codes "sge", Some pred.Sge)
    ∷ (codes "slt", Some pred.Slt) ∷ (codes "sle", Some pred.Sle) ∷ []

unfoldable pub predicate_word : Text → Option Pred
predicate_word = meaning predicates None

abbrev pub predicate : Rule Pred
predicate = one (value_of predicate_word)

-- icmp samesign? predicate T opd , opd
abbrev pub compare : Rule Op
compare = do
  optional (codes "samesign")
  p ← predicate
  t ← type_text
  x ← operand
  sign 44
  y ← operand
  pure (op.Cmp p t x y)

-- select T opd , T opd , T opd
abbrev pub select : Rule Op
select = do
  c ← typed_operand
  sign 44
  x ← typed_operand
  sign 44
  y ← typed_operand
  pure (op.Select c.0 c.1 x.0 x.1 y.0 y.1)

abbrev pub cast_flags : List Text
cast_flags = codes "nneg" ∷ codes "nuw" ∷ codes "nsw" ∷ []

-- trunc .. inttoptr (nneg | nuw | nsw)* T opd to T
abbrev pub conversion : Cast → Rule Op
conversion c = do
  word_flags cast_flags
  x ← typed_operand
  word (codes "to")
  to ← type_text
  pure (op.Cast c x.0 x.1 to)

-- freeze T opd
abbrev pub freeze : Rule Op
freeze = do
  x ← typed_operand
  pure (op.Freeze x.0 x.1)

-- (, T opd)?
abbrev pub count : Rule (Option (TyText × Opd))
count = where_it (comma_then sees_type) (sign 44 >> typed_operand >>= (λ x. pure (Some x))) (pure None)

-- alloca T (, T opd)?
abbrev pub alloca : Rule Op
alloca = do
  t ← type_text
  n ← count
  pure (op.Alloca t n)

-- load volatile? T , T opd
abbrev pub load : Rule Op
load = do
  optional (codes "volatile")
  t ← type_text
  sign 44
  address ← typed_operand
  pure (op.Load t address.0 address.1)

-- store volatile? T opd , T opd
abbrev pub store : Rule Op
store = do
  optional (codes "volatile")
  x ← typed_operand
  sign 44
  address ← typed_operand
  pure (op.Store x.0 x.1 address.0 address.1)

-- getelementptr gflag* T , T opd (, T opd)*
abbrev pub get : Rule Op
get = do
  flagged
  of ← type_text
  sign 44
  base ← typed_operand
  indices ← further sees_type typed_operand
  pure (op.Get of base.0 base.1 indices)

-- [ opd , Local ]
abbrev pub entry : Rule (Opd × Name)
entry = do
  sign 91
  x ← operand
  sign 44
  from ← local
  sign 93
  pure (x, from)

-- phi T [ opd , Local ] (, [ opd , Local ])*
abbrev pub phi : Rule Op
phi = do
  t ← type_text
  entries ← some_listed (sees_sign 91) entry
  pure (op.Phi t entries)

-- arg = T skip* opd
abbrev pub argument : Rule (TyText × Opd)
argument = do
  t ← type_text
  skipped
  x ← operand
  pure (t, x)

-- call skip* R Global ( arg,* ) skip*
abbrev pub call : Rule Op
call = do
  skipped
  t ← result_type
  callee ← global_name
  sign 40
  arguments ← listed sees_type argument
  sign 41
  skipped
  pure (op.Call t callee arguments)

-- label Local
abbrev pub target : Rule Name
target = word (codes "label") >> local

-- T opd , label Local , label Local
abbrev pub conditional : Rule Op
conditional = do
  c ← typed_operand
  sign 44
  chosen ← target
  sign 44
  other ← target
  pure (op.Branch c.0 c.1 chosen other)

-- br label Local | br T opd , label Local , label Local
abbrev pub branch : Rule Op
branch = where_it (sees_word (codes "label")) (target >>= (λ to. pure (op.Jump to))) conditional

-- T opd , label Local
abbrev pub case : Rule (TyText × Opd × Name)
case = do
  x ← typed_operand
  sign 44
  to ← target
  pure (x.0, x.1, to)

-- switch T opd , label Local [ (T opd , label Local)* ]
abbrev pub switch : Rule Op
switch = do
  x ← typed_operand
  sign 44
  other ← target
  sign 91
  cases ← many sees_type case
  sign 93
  pure (op.Switch x.0 x.1 other cases)

-- ret void | ret T opd
abbrev pub ret : Rule Op
ret = where_it (sees_word (codes "void")) (next >> pure (op.Ret None)) (typed_operand >>= (λ x. pure (op.Ret (Some x))))

-- one of the forms, by its first word
abbrev pub op_by : OpStart → Rule Op
op_by (ops.Bin b) = next >> binary b
op_by ops.Cmp = next >> compare
op_by ops.Select = next >> select
op_by (ops.Cast c) = next >> conversion c
op_by ops.Freeze = next >> freeze
op_by ops.Alloca = next >> alloca
op_by ops.Load = next >> load
op_by ops.Store = next >> store
op_by ops.Get = next >> get
op_by ops.Phi = next >> phi
op_by ops.TailCall = next >> (word (codes "call") >> call)
op_by ops.Call = next >> call
op_by ops.Branch = next >> branch
op_by ops.Switch = next >> switch
op_by ops.Ret = next >> ret
op_by ops.Unreachable = next >> pure op.Unreachable
op_by ops.Nothing = refuse

unfoldable pub instruction : Rule Op
instruction = look op_start op_by
