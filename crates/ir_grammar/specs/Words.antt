-- The values of single lexemes: names, numbers, quoted texts, and the words of the language.
use Rattle.std.specs.Prelude.{ℕ, ◌-◌, ◌^◌, nat_le, Bool, false, ◌&&◌, ◌||◌, ◌==◌, if◌then◌else◌, List, [], ◌∷◌, drop, Option, Some, None, ℤ, pos, neg_ℤ}
use Rattle.std.specs.Str.{bytes_eq}
use Rattle.std.specs.Str.Parse.{digits_value}
use Rattle.ir_tokens.specs.Bytes.{Text, is_quote, begins}
use Rattle.ir_tokens.specs.Tokens.{is_digits, is_small_number}
use Rattle.ir_tokens.specs.Names.{NameValue, Number, Bytes, name_part, quoted_value}
use Rattle.ir_tokens.specs.declared.token.TokenKind.TheVariants as kind
use Rattle.ir_tree.specs.declared.name.Name.{Name}
use Rattle.ir_tree.specs.declared.name.Name.TheVariants as name
use Rattle.ir_grammar.specs.Lexeme.{Lexeme}
use Rattle.ir_grammar.specs.Rule.{Rule, one}

-- ---- names

-- The name that bytes denote; the law `names_read` ties it to their meaning. Digits whose value isn't below 2 ^ 32 are no name, and no token has such a name.
unfoldable pub name_of : Text → Option Name
name_of s =
    if is_small_number s then Some (name.Number (digits_value 10 s))
    else (if is_digits s then None
    else (if begins is_quote s then Some (name.Text (quoted_value s)) else Some (name.Text s)))

-- the name as the value that a token's bytes stand for
abbrev pub denoted : Name → NameValue
denoted (name.Number n) = Number n
denoted (name.Text s) = Bytes s

abbrev pub local_of : Lexeme → Option Name
local_of (kind.Local, s) = name_of (drop 1 s)
local_of _ = None

abbrev pub global_of : Lexeme → Option Name
global_of (kind.Global, s) = name_of (drop 1 s)
global_of _ = None

abbrev pub label_of : Lexeme → Option Name
label_of (kind.Label, s) = name_of (name_part kind.Label s)
label_of _ = None

abbrev pub local : Rule Name
local = one local_of

abbrev pub global_name : Rule Name
global_name = one global_of

abbrev pub label_name : Rule Name
label_name = one label_of

-- ---- numbers

abbrev pub is_minus : ℕ → Bool
is_minus b = b == 45

-- the digits of a number, without the `-` before them
abbrev pub digits_of : Text → Text
digits_of s = if begins is_minus s then drop 1 s else s

abbrev pub magnitude : Text → ℕ
magnitude s = digits_value 10 (digits_of s)

-- the value of digits with at most one `-` before them
abbrev pub whole_value : Text → ℤ
whole_value s = if begins is_minus s then neg_ℤ (pos (magnitude s)) else pos (magnitude s)

-- digits with at most one `-` before them, whose value is from - least to most
abbrev pub is_from : ℕ → ℕ → Text → Bool
is_from least most s = is_digits (digits_of s) && nat_le (magnitude s) (if begins is_minus s then least else most)

-- within 128 signed bits
abbrev pub integer_of : Lexeme → Option ℤ
integer_of (kind.Number, s) = if is_from (2 ^ 127) (2 ^ 127 - 1) s then Some (whole_value s) else None
integer_of _ = None

abbrev pub integer : Rule ℤ
integer = one integer_of

-- from 0 to 2 ^ 32; `-0` is 0
abbrev pub length_of : Lexeme → Option ℕ
length_of (kind.Number, s) = if is_from 0 (2 ^ 32) s then Some (magnitude s) else None
length_of _ = None

abbrev pub array_length : Rule ℕ
array_length = one length_of

-- ---- quoted texts and marks

abbrev pub quoted_of : Lexeme → Option (Unit {0})
quoted_of (kind.Quoted, s) = Some tt
quoted_of _ = None

abbrev pub quoted : Rule (Unit {0})
quoted = one quoted_of

-- the value of a CString
abbrev pub cstring_of : Lexeme → Option Text
cstring_of (kind.CString, s) = Some (quoted_value (drop 1 s))
cstring_of _ = None

abbrev pub cstring : Rule Text
cstring = one cstring_of

abbrev pub hash_of : Lexeme → Option (Unit {0})
hash_of (kind.Hash, s) = Some tt
hash_of _ = None

abbrev pub hash : Rule (Unit {0})
hash = one hash_of

abbrev pub meta_of : Lexeme → Option (Unit {0})
meta_of (kind.Meta, s) = Some tt
meta_of _ = None

abbrev pub meta : Rule (Unit {0})
meta = one meta_of

-- ---- words

abbrev pub word_of : Text → Lexeme → Option (Unit {0})
word_of w (kind.Word, s) = if bytes_eq s w then Some tt else None
word_of w _ = None

-- this word
abbrev pub word : Text → Rule (Unit {0})
word w = one (word_of w)

-- what a word means by a table, and the last value where it isn't in it
abbrev pub meaning : {A : Type 0} → List (Text × A) → A → Text → A
meaning [] other s = other
meaning ((w, x) ∷ table) other s = if bytes_eq s w then x else meaning table other s

abbrev pub value_of : {A : Type 0} → (Text → Option A) → Lexeme → Option A
value_of f (kind.Word, s) = f s
value_of f _ = None

abbrev pub is_one_of_words : List Text → Text → Bool
is_one_of_words [] s = false
is_one_of_words (w ∷ words) s = bytes_eq s w || is_one_of_words words s
