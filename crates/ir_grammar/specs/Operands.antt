-- Operands and initialisers.
use Rattle.std.specs.Prelude.{ℕ, zero, suc, ℤ}
use Rattle.am_base.specs.declared.limits.TheConstants.{MAX_NESTING}
use Rattle.ir_tree.specs.declared.type_text.TyText.{TyText}
use Rattle.ir_tree.specs.declared.operand.Opd.{Opd}
use Rattle.ir_tree.specs.declared.operand.Opd.TheVariants as opd
use Rattle.ir_tree.specs.declared.operand.Init.{Init}
use Rattle.ir_tree.specs.declared.operand.Init.TheVariants as initial
use Rattle.ir_grammar.specs.declared.starts.OperandStart.{OperandStart}
use Rattle.ir_grammar.specs.declared.starts.OperandStart.TheVariants as operands
use Rattle.ir_grammar.specs.Lexeme.{sees_sign, sees_cstring}
use Rattle.ir_grammar.specs.Rule.{Rule, ◌>>=◌, ◌>>◌, pure, refuse, next, look, where_it, sign, further, listed}
use Rattle.ir_grammar.specs.Words.{local, global_name, integer, cstring}
use Rattle.ir_grammar.specs.Starts.{operand_start, sees_type}
use Rattle.ir_grammar.specs.Types.{type_text}
use Rattle.ir_grammar.specs.Skips.{flagged}

-- T Number
abbrev pub constant_index : Rule (TyText × ℤ)
constant_index = do
  t ← type_text
  n ← integer
  pure (t, n)

-- getelementptr gflag* ( T , T Global (, T Number)* )
abbrev pub get_constant : Rule Opd
get_constant = do
  next
  flagged
  sign 40
  of ← type_text
  sign 44
  base ← type_text
  name ← global_name
  indices ← further sees_type constant_index
  sign 41
  pure (opd.Get (of, base, name, indices))

abbrev pub operand_by : OperandStart → Rule Opd
operand_by operands.Local = local >>= (λ n. pure (opd.Local n))
operand_by operands.Global = global_name >>= (λ n. pure (opd.Global n))
operand_by operands.Number = integer >>= (λ n. pure (opd.Number n))
operand_by operands.True = next >> pure opd.True
operand_by operands.False = next >> pure opd.False
operand_by operands.Null = next >> pure opd.Null
operand_by operands.Undef = next >> pure opd.Undef
operand_by operands.Poison = next >> pure opd.Poison
operand_by operands.Zero = next >> pure opd.Zero
operand_by operands.Get = get_constant
operand_by operands.Nothing = refuse

-- opd
unfoldable pub operand : Rule Opd
operand = look operand_start operand_by

-- T opd
abbrev pub typed_operand : Rule (TyText × Opd)
typed_operand = do
  t ← type_text
  x ← operand
  pure (t, x)

-- ---- initialisers

-- opd | CString
abbrev pub init_simple : Rule Init
init_simple = where_it sees_cstring (cstring >>= (λ s. pure (initial.Text s))) (operand >>= (λ x. pure (initial.One x)))

module _ (inner : Rule Init) where
  -- elem = T init
  abbrev pub element : Rule (TyText × Init)
  element = do
    t ← type_text
    x ← inner
    pure (t, x)

  -- [ elem,* ]
  abbrev pub init_array : Rule Init
  init_array = do
    next
    elements ← listed sees_type element
    sign 93
    pure (initial.Array elements)

  -- { elem,* }
  abbrev pub init_struct : Rule Init
  init_struct = do
    next
    elements ← listed sees_type element
    sign 125
    pure (initial.Struct elements)

  abbrev pub init_nested : Rule Init
  init_nested = where_it (sees_sign 91) init_array (where_it (sees_sign 123) init_struct init_simple)

-- one that may have no bracket of its own
abbrev pub init_flat : Rule Init
init_flat = where_it (sees_sign 91) refuse (where_it (sees_sign 123) refuse init_simple)

-- an initialiser in which at most so many of its own `[` and `{` are open at once; the types in it are counted by themselves
unfoldable pub init_in : ℕ → Rule Init
init_in zero = init_flat
init_in (suc depth) = init_nested (init_in depth)

-- init
abbrev pub initialiser : Rule Init
initialiser = init_in MAX_NESTING
