-- Which part of an item a token starts. One token decides, or two if the first is a comma.
use Rattle.std.specs.Prelude.{ℕ, Bool, true, false, not, ◌&&◌, ◌||◌, ◌==◌, if◌then◌else◌, List, [], ◌∷◌, ◌++◌, drop, codes, Option, Some}
use Rattle.std.specs.Char.{is_ascii_digit, is_ascii_lowercase}
use Rattle.std.specs.List.{list_all}
use Rattle.std.specs.Str.{bytes_eq}
use Rattle.am_base.specs.declared.word.Width.TheVariants as width
use Rattle.am_base.specs.declared.word.BinOp.TheVariants as binary
use Rattle.am_base.specs.declared.word.Cast.TheVariants as cast
use Rattle.ir_tokens.specs.Bytes.{Text, begins}
use Rattle.ir_tokens.specs.Tokens.{is_digits}
use Rattle.ir_tokens.specs.declared.token.TokenKind.{TokenKind}
use Rattle.ir_tokens.specs.declared.token.TokenKind.TheVariants as kind
use Rattle.ir_grammar.specs.declared.starts.TypeStart.{TypeStart}
use Rattle.ir_grammar.specs.declared.starts.TypeStart.TheVariants as types
use Rattle.ir_grammar.specs.declared.starts.OperandStart.{OperandStart}
use Rattle.ir_grammar.specs.declared.starts.OperandStart.TheVariants as operands
use Rattle.ir_grammar.specs.declared.starts.SkipStart.{SkipStart}
use Rattle.ir_grammar.specs.declared.starts.SkipStart.TheVariants as skips
use Rattle.ir_grammar.specs.declared.starts.FlagStart.{FlagStart}
use Rattle.ir_grammar.specs.declared.starts.FlagStart.TheVariants as flags
use Rattle.ir_grammar.specs.declared.starts.TailStart.{TailStart}
use Rattle.ir_grammar.specs.declared.starts.TailStart.TheVariants as tails
use Rattle.ir_grammar.specs.declared.starts.OpStart.{OpStart}
use Rattle.ir_grammar.specs.declared.starts.OpStart.TheVariants as ops
use Rattle.ir_grammar.specs.declared.starts.ItemStart.{ItemStart}
use Rattle.ir_grammar.specs.declared.starts.ItemStart.TheVariants as items
use Rattle.ir_grammar.specs.Lexeme.{Lexemes, first_kind, first_text, behind}
use Rattle.ir_grammar.specs.Words.{meaning, is_one_of_words}

-- ---- types

abbrev pub type_words : List (Text × TypeStart)
type_words =
    (codes "i1", types.Int width.W1) ∷ (codes "i8", types.Int width.W8) ∷ (codes "i16", types.Int width.W16)
    ∷ (codes "i32", types.Int width.W32) ∷ (codes "i64", types.Int width.W64) ∷ (codes "ptr", types.Ptr) ∷ []

unfoldable pub type_word : Text → TypeStart
type_word = meaning type_words types.Nothing

abbrev pub type_sign : ℕ → TypeStart
type_sign b = if b == 91 then types.Square else (if b == 123 then types.Curly else types.Nothing)

abbrev pub type_at : Option TokenKind → Text → TypeStart
type_at (Some kind.Word) s = type_word s
type_at (Some (kind.Sign b)) s = type_sign b
type_at (Some kind.Local) s = types.Named
type_at _ s = types.Nothing

unfoldable pub type_start : Lexemes → TypeStart
type_start ts = type_at (first_kind ts) (first_text ts)

abbrev pub is_type : TypeStart → Bool
is_type types.Nothing = false
is_type _ = true

-- a type comes next
unfoldable pub sees_type : Lexemes → Bool
sees_type ts = is_type (type_start ts)

-- ---- operands

abbrev pub operand_words : List (Text × OperandStart)
operand_words =
    (codes "true", operands.True) ∷ (codes "false", operands.False) ∷ (codes "null", operands.Null)
    ∷ (codes "undef", operands.Undef) ∷ (codes "poison", operands.Poison) ∷ (codes "zeroinitializer", operands.Zero)
    ∷ (codes "getelementptr", operands.Get) ∷ []

unfoldable pub operand_word : Text → OperandStart
operand_word = meaning operand_words operands.Nothing

abbrev pub operand_at : Option TokenKind → Text → OperandStart
operand_at (Some kind.Local) s = operands.Local
operand_at (Some kind.Global) s = operands.Global
operand_at (Some kind.Number) s = operands.Number
operand_at (Some kind.Word) s = operand_word s
operand_at _ s = operands.Nothing

unfoldable pub operand_start : Lexemes → OperandStart
operand_start ts = operand_at (first_kind ts) (first_text ts)

-- ---- instructions

abbrev pub arithmetic_words : List (Text × OpStart)
arithmetic_words =
    (codes "add", ops.Bin binary.Add) ∷ (codes "sub", ops.Bin binary.Sub) ∷ (codes "mul", ops.Bin binary.Mul)
    ∷ (codes "udiv", ops.Bin binary.UDiv) ∷ (codes "sdiv", ops.Bin binary.SDiv)
    ∷ (codes "urem", ops.Bin binary.URem) ∷ (codes "srem", ops.Bin binary.SRem)
    ∷ (codes "shl", ops.Bin binary.Shl) ∷ (codes "lshr", ops.Bin binary.LShr) ∷ (codes "ashr", ops.Bin binary.AShr)
    ∷ (codes "and", ops.Bin binary.And) ∷ (codes "or", ops.Bin binary.Or) ∷ (codes "xor", ops.Bin binary.Xor) ∷ []

abbrev pub value_words : List (Text × OpStart)
value_words =
    (codes "icmp", ops.Cmp) ∷ (codes "select", ops.Select)
    ∷ (codes "trunc", ops.Cast cast.Trunc) ∷ (codes "zext", ops.Cast cast.ZExt) ∷ (codes "sext", ops.Cast cast.SExt)
    ∷ (codes "ptrtoint", ops.Cast cast.PtrToInt) ∷ (codes "inttoptr", ops.Cast cast.IntToPtr) ∷ (codes "freeze", ops.Freeze) ∷ []

abbrev pub memory_words : List (Text × OpStart)
memory_words =
    (codes "alloca", ops.Alloca) ∷ (codes "load", ops.Load) ∷ (codes "store", ops.Store) ∷ (codes "getelementptr", ops.Get) ∷ []

abbrev pub control_words : List (Text × OpStart)
control_words =
    (codes "phi", ops.Phi)
    ∷ (codes "tail", ops.TailCall) ∷ (codes "musttail", ops.TailCall) ∷ (codes "notail", ops.TailCall) ∷ (codes "call", ops.Call)
    ∷ (codes "br", ops.Branch) ∷ (codes "switch", ops.Switch) ∷ (codes "ret", ops.Ret) ∷ (codes "unreachable", ops.Unreachable) ∷ []

abbrev pub op_words : List (Text × OpStart)
op_words = arithmetic_words ++ (value_words ++ (memory_words ++ control_words))

unfoldable pub op_word : Text → OpStart
op_word = meaning op_words ops.Nothing

abbrev pub op_at : Option TokenKind → Text → OpStart
op_at (Some kind.Word) s = op_word s
op_at _ s = ops.Nothing

unfoldable pub op_start : Lexemes → OpStart
op_start ts = op_at (first_kind ts) (first_text ts)

abbrev pub is_op : OpStart → Bool
is_op ops.Nothing = false
is_op _ = true

-- ---- words that are skipped

-- the first words of items, those of an alias and of the order of uses among them
abbrev pub item_words : List Text
item_words =
    codes "source_filename" ∷ codes "target" ∷ codes "attributes" ∷ codes "declare" ∷ codes "define" ∷ codes "module"
    ∷ codes "uselistorder" ∷ codes "uselistorder_bb" ∷ []

abbrev pub global_words : List Text
global_words = codes "global" ∷ codes "constant" ∷ codes "external" ∷ codes "extern_weak" ∷ codes "alias" ∷ codes "ifunc" ∷ []

-- `void`, `ptr`, and `i` followed by digits
abbrev pub is_type_word : Text → Bool
is_type_word s = bytes_eq s (codes "void") || bytes_eq s (codes "ptr") || (begins (λ b. b == 105) s && is_digits (drop 1 s))

-- instructions of the language that aren't in the profile
abbrev pub other_op_words : List Text
other_op_words =
    codes "indirectbr" ∷ codes "invoke" ∷ codes "callbr" ∷ codes "resume" ∷ codes "catchret" ∷ codes "cleanupret" ∷ codes "fence"
    ∷ codes "cmpxchg" ∷ codes "atomicrmw" ∷ []

abbrev pub constant_words : List Text
constant_words = codes "true" ∷ codes "false" ∷ codes "null" ∷ codes "undef" ∷ codes "poison" ∷ codes "zeroinitializer" ∷ []

-- attributes that change what a call does
abbrev pub passing_words : List Text
passing_words = codes "byval" ∷ codes "inalloca" ∷ codes "preallocated" ∷ codes "swifterror" ∷ codes "nest" ∷ []

unfoldable pub is_stop_word : Text → Bool
is_stop_word s =
    is_one_of_words item_words s || is_one_of_words global_words s || is_type_word s || is_op (op_word s)
    || is_one_of_words other_op_words s || is_one_of_words constant_words s || is_one_of_words passing_words s

abbrev pub is_attribute_byte : ℕ → Bool
is_attribute_byte b = is_ascii_lowercase b || is_ascii_digit b || b == 95

-- lower-case letters, digits and `_`, the first a letter
abbrev pub is_attribute_shape : Text → Bool
is_attribute_shape [] = false
is_attribute_shape (b ∷ s) = is_ascii_lowercase b && list_all is_attribute_byte s

unfoldable pub skip_word : Text → SkipStart
skip_word s =
    if bytes_eq s (codes "align") then skips.Align
    else (if is_attribute_shape s && not (is_stop_word s) then skips.Attribute else skips.Nothing)

abbrev pub skip_at : Option TokenKind → Text → SkipStart
skip_at (Some kind.Word) s = skip_word s
skip_at (Some kind.Quoted) s = skips.Quoted
skip_at (Some kind.Hash) s = skips.Hash
skip_at (Some kind.Meta) s = skips.Meta
skip_at _ s = skips.Nothing

unfoldable pub skip_start : Lexemes → SkipStart
skip_start ts = skip_at (first_kind ts) (first_text ts)

abbrev pub is_skip : SkipStart → Bool
is_skip skips.Nothing = false
is_skip skips.Meta = false
is_skip _ = true

unfoldable pub sees_skip : Lexemes → Bool
sees_skip ts = is_skip (skip_start ts)

abbrev pub is_head_skip : SkipStart → Bool
is_head_skip skips.Nothing = false
is_head_skip _ = true

-- in the head of a function a Meta is skipped too
unfoldable pub sees_head_skip : Lexemes → Bool
sees_head_skip ts = is_head_skip (skip_start ts)

-- ---- flags of getelementptr

abbrev pub flag_words : List (Text × FlagStart)
flag_words =
    (codes "inbounds", flags.Plain) ∷ (codes "nusw", flags.Plain) ∷ (codes "nuw", flags.Plain) ∷ (codes "inrange", flags.InRange) ∷ []

unfoldable pub flag_word : Text → FlagStart
flag_word = meaning flag_words flags.Nothing

abbrev pub flag_at : Option TokenKind → Text → FlagStart
flag_at (Some kind.Word) s = flag_word s
flag_at _ s = flags.Nothing

unfoldable pub flag_start : Lexemes → FlagStart
flag_start ts = flag_at (first_kind ts) (first_text ts)

abbrev pub is_flag : FlagStart → Bool
is_flag flags.Nothing = false
is_flag _ = true

unfoldable pub sees_flag : Lexemes → Bool
sees_flag ts = is_flag (flag_start ts)

-- ---- parts after an instruction or a global

abbrev pub tail_word : Text → TailStart
tail_word s =
    if bytes_eq s (codes "align") then tails.Align else (if bytes_eq s (codes "section") then tails.Section else tails.Nothing)

abbrev pub behind_comma : Option TokenKind → Text → TailStart
behind_comma (Some kind.Word) s = tail_word s
behind_comma (Some kind.Meta) s = tails.Meta
behind_comma _ s = tails.Nothing

abbrev pub tail_at : Option TokenKind → Lexemes → TailStart
tail_at (Some kind.Hash) more = tails.Hash
tail_at (Some (kind.Sign b)) more = if b == 44 then behind_comma (first_kind more) (first_text more) else tails.Nothing
tail_at _ more = tails.Nothing

unfoldable pub tail_start : Lexemes → TailStart
tail_start ts = tail_at (first_kind ts) (behind ts)

-- , align and , Meta may follow an instruction
abbrev pub is_tail : TailStart → Bool
is_tail tails.Align = true
is_tail tails.Meta = true
is_tail _ = false

unfoldable pub sees_tail : Lexemes → Bool
sees_tail ts = is_tail (tail_start ts)

-- and these, , section and a Hash may follow a global
abbrev pub is_global_tail : TailStart → Bool
is_global_tail tails.Nothing = false
is_global_tail _ = true

unfoldable pub sees_global_tail : Lexemes → Bool
sees_global_tail ts = is_global_tail (tail_start ts)

-- ---- items

abbrev pub item_word_starts : List (Text × ItemStart)
item_word_starts =
    (codes "source_filename", items.Source) ∷ (codes "target", items.Target) ∷ (codes "attributes", items.Attributes)
    ∷ (codes "declare", items.Declare) ∷ (codes "define", items.Define) ∷ []

unfoldable pub item_word : Text → ItemStart
item_word = meaning item_word_starts items.Other

abbrev pub item_at : Option TokenKind → Text → ItemStart
item_at (Some kind.Word) s = item_word s
item_at (Some kind.Meta) s = items.Meta
item_at (Some kind.Local) s = items.Local
item_at (Some kind.Global) s = items.Global
item_at (Some kind.Label) s = items.Label
item_at (Some (kind.Sign b)) s = if b == 125 then items.End else items.Other
item_at _ s = items.Other

unfoldable pub item_start : Lexemes → ItemStart
item_start ts = item_at (first_kind ts) (first_text ts)
