-- The one spelling of each name, number and word that a canonical text has.
use Rattle.std.specs.Prelude.{ℕ, ◌/◌, ◌%◌, nat_le, nat_lt, Bool, true, not, ◌&&◌, ◌||◌, if◌then◌else◌, [], ◌∷◌, ◌++◌, length, flat_map, codes, ℤ}
use Rattle.std.specs.Char.{is_ascii_digit}
use Rattle.std.specs.Fmt.{decimal, signed_decimal, digit_glyph}
use Rattle.std.specs.List.{list_all}
use Rattle.am_base.specs.declared.word.Width.{Width}
use Rattle.am_base.specs.declared.word.Width.TheVariants as width
use Rattle.am_base.specs.declared.word.BinOp.{BinOp}
use Rattle.am_base.specs.declared.word.BinOp.TheVariants as binary
use Rattle.am_base.specs.declared.word.Cast.{Cast}
use Rattle.am_base.specs.declared.word.Cast.TheVariants as cast
use Rattle.am_base.specs.declared.word.Pred.{Pred}
use Rattle.am_base.specs.declared.word.Pred.TheVariants as pred
use Rattle.ir_tokens.specs.Bytes.{Text, is_quote, is_backslash, is_run_byte, begins}
use Rattle.ir_tokens.specs.Tokens.{is_digits}
use Rattle.ir_tokens.specs.declared.token.TokenKind.TheVariants as kind
use Rattle.ir_tree.specs.declared.name.Name.{Name}
use Rattle.ir_tree.specs.declared.name.Name.TheVariants as name
use Rattle.ir_grammar.specs.Lexeme.{Lexeme}

-- ---- in quotes

-- bytes from 32 to 126 other than `"` and `\` are written as they are
abbrev pub is_shown : ℕ → Bool
is_shown b = nat_le 32 b && nat_le b 126 && not (is_quote b || is_backslash b)

-- every other byte is `\` and two upper-case hexadecimal digits
abbrev pub escaped_byte : ℕ → Text
escaped_byte b = if is_shown b then b ∷ [] else 92 ∷ (digit_glyph true (b / 16) ∷ (digit_glyph true (b % 16) ∷ []))

abbrev pub escaped : Text → Text
escaped s = flat_map escaped_byte s

abbrev pub in_quotes : Text → Text
in_quotes s = 34 ∷ (escaped s ++ (34 ∷ []))

-- ---- names

abbrev pub is_run : Text → Bool
is_run s = nat_lt 0 (length s) && list_all is_run_byte s

-- the bytes, spelled plain after `%` or `@`, read back as this name: a run that doesn't begin with a digit
abbrev pub is_plain : Text → Bool
is_plain s = is_run s && not (begins is_ascii_digit s)

-- and before `:` a run that isn't digits alone
abbrev pub is_plain_label : Text → Bool
is_plain_label s = is_run s && not (is_digits s)

-- plain where the plain spelling reads back, else quoted
abbrev pub spelled_name : (Text → Bool) → Name → Text
spelled_name plain (name.Text s) = if plain s then s else in_quotes s
spelled_name plain (name.Number n) = decimal n

abbrev pub local : Name → Lexeme
local n = (kind.Local, 37 ∷ spelled_name is_plain n)

abbrev pub global : Name → Lexeme
global n = (kind.Global, 64 ∷ spelled_name is_plain n)

abbrev pub label : Name → Lexeme
label n = (kind.Label, spelled_name is_plain_label n ++ (58 ∷ []))

-- ---- numbers, texts, words and signs

abbrev pub number : ℤ → Lexeme
number z = (kind.Number, signed_decimal z)

abbrev pub array_length : ℕ → Lexeme
array_length n = (kind.Number, decimal n)

abbrev pub cstring : Text → Lexeme
cstring s = (kind.CString, 99 ∷ in_quotes s)

abbrev pub word : Text → Lexeme
word s = (kind.Word, s)

abbrev pub sign : ℕ → Lexeme
sign b = (kind.Sign b, b ∷ [])

abbrev pub comma : Lexeme
comma = sign 44

abbrev pub width_word : Width → Text
width_word width.W1 = codes "i1"
width_word width.W8 = codes "i8"
width_word width.W16 = codes "i16"
width_word width.W32 = codes "i32"
width_word width.W64 = codes "i64"

abbrev pub binary_word : BinOp → Text
binary_word binary.Add = codes "add"
binary_word binary.Sub = codes "sub"
binary_word binary.Mul = codes "mul"
binary_word binary.UDiv = codes "udiv"
binary_word binary.SDiv = codes "sdiv"
binary_word binary.URem = codes "urem"
binary_word binary.SRem = codes "srem"
binary_word binary.Shl = codes "shl"
binary_word binary.LShr = codes "lshr"
binary_word binary.AShr = codes "ashr"
binary_word binary.And = codes "and"
binary_word binary.Or = codes "or"
binary_word binary.Xor = codes "xor"

abbrev pub cast_word : Cast → Text
cast_word cast.Trunc = codes "trunc"
cast_word cast.ZExt = codes "zext"
cast_word cast.SExt = codes "sext"
cast_word cast.PtrToInt = codes "ptrtoint"
cast_word cast.IntToPtr = codes "inttoptr"

abbrev pub predicate_word : Pred → Text
predicate_word pred.Eq = codes "eq"
predicate_word pred.Ne = codes "ne"
predicate_word pred.Ugt = codes "ugt"
predicate_word pred.Uge = codes "uge"
predicate_word pred.Ult = codes "ult"
predicate_word pred.Ule = codes "ule"
predicate_word pred.Sgt = codes "sgt"
predicate_word pred.Sge = codes "sge"
predicate_word pred.Slt = codes "slt"
predicate_word pred.Sle = codes "sle"
