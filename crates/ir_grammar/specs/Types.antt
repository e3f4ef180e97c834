-- Types.
use Rattle.std.specs.Prelude.{ℕ, zero, suc, codes}
use Rattle.am_base.specs.declared.limits.TheConstants.{MAX_NESTING}
use Rattle.ir_tree.specs.declared.type_text.TyText.{TyText}
use Rattle.ir_tree.specs.declared.type_text.TyText.TheVariants as ty
use Rattle.ir_grammar.specs.declared.starts.TypeStart.{TypeStart}
use Rattle.ir_grammar.specs.declared.starts.TypeStart.TheVariants as types
use Rattle.ir_grammar.specs.Lexeme.{sees_word}
use Rattle.ir_grammar.specs.Rule.{Rule, ◌>>=◌, ◌>>◌, pure, refuse, next, look, where_it, sign, listed}
use Rattle.ir_grammar.specs.Words.{local, word, array_length}
use Rattle.ir_grammar.specs.Starts.{type_start, sees_type}

-- i1 | i8 | i16 | i32 | i64 | ptr | Local
abbrev pub simple : TypeStart → Rule TyText
simple (types.Int w) = next >> pure (ty.Int w)
simple types.Ptr = next >> pure ty.Ptr
simple types.Named = local >>= (λ n. pure (ty.Named n))
simple _ = refuse

module _ (inner : Rule TyText) where
  -- [ Number x T ]
  abbrev pub array : Rule TyText
  array = do
    next
    n ← array_length
    word (codes "x")
    of ← inner
    sign 93
    pure (ty.Array n of)

  -- { T,* }
  abbrev pub struct : Rule TyText
  struct = do
    next
    fields ← listed sees_type inner
    sign 125
    pure (ty.Struct fields)

  abbrev pub nested : TypeStart → Rule TyText
  nested types.Square = array
  nested types.Curly = struct
  nested s = simple s

-- a type in which at most so many `[` and `{` are open at once
unfoldable pub type_in : ℕ → Rule TyText
type_in zero = look type_start simple
type_in (suc depth) = look type_start (nested (type_in depth))

-- T
abbrev pub type_text : Rule TyText
type_text = type_in MAX_NESTING

-- R = T | void
abbrev pub result_type : Rule TyText
result_type = where_it (sees_word (codes "void")) (next >> pure ty.Void) type_text
