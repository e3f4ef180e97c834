-- The values of quoted texts and of names.
use Rattle.std.specs.Prelude.{◌≡◌, ℕ, zero, suc, ◌<◌, ◌+◌, ◌-◌, ◌*◌, Bool, false, ◌&&◌, if◌then◌else◌, [], ◌∷◌, length, take, drop, IsTrue}
use Rattle.std.specs.Char.{is_ascii_digit, is_ascii_hexdigit, digit_value}
use Rattle.std.specs.List.{list_all}
use Rattle.std.specs.Str.Parse.{digits_value}
use Rattle.ir_tokens.specs.Bytes.{Text, Each, is_quote, is_backslash, is_run_byte}
use Rattle.ir_tokens.specs.declared.token.TokenKind.{TokenKind}
use Rattle.ir_tokens.specs.declared.token.TokenKind.TheVariants as kind
use Rattle.ir_tokens.specs.Tokens.{IsDigits, IsQuoted}

-- ---- the bytes between two quotes

-- `\\`, and `\` with two hexadecimal digits, are escapes
abbrev pub is_double : Text → Bool
is_double (b ∷ (c ∷ text)) = is_backslash b && is_backslash c
is_double _ = false

abbrev pub is_hexadecimal : Text → Bool
is_hexadecimal (b ∷ (h ∷ (l ∷ text))) = is_backslash b && is_ascii_hexdigit h && is_ascii_hexdigit l
is_hexadecimal _ = false

-- the bytes have the value: each escape is one byte of it, and any other byte is itself
pub data Unescapes : Text → Text → Type 0 where
  end : Unescapes [] []
  backslash : (text value : Text) → Unescapes text value → Unescapes (92 ∷ (92 ∷ text)) (92 ∷ value)
  hexadecimal : (h l : ℕ) (text value : Text) → IsTrue (is_ascii_hexdigit h) → IsTrue (is_ascii_hexdigit l) → Unescapes text value
      → Unescapes (92 ∷ (h ∷ (l ∷ text))) ((16 * digit_value h + digit_value l) ∷ value)
  itself : (b : ℕ) (text value : Text) → is_double (b ∷ text) ≡ false → is_hexadecimal (b ∷ text) ≡ false → Unescapes text value
      → Unescapes (b ∷ text) (b ∷ value)

-- the byte that two hexadecimal digits denote
abbrev pub hexadecimal_value : Text → ℕ
hexadecimal_value (h ∷ (l ∷ text)) = 16 * digit_value h + digit_value l
hexadecimal_value _ = 0

-- the value of the first byte, or of the escape that it starts
abbrev pub front_value : ℕ → Text → ℕ
front_value b text = if is_hexadecimal (b ∷ text) then hexadecimal_value text else b

-- the length of the escape without its first byte
abbrev pub escape_len : Text → ℕ
escape_len text = if is_double text then 1 else (if is_hexadecimal text then 2 else 0)

-- the value of the text after so many bytes
abbrev pub unescaped_behind : ℕ → Text → Text
unescaped_behind _ [] = []
unescaped_behind (suc n) (b ∷ text) = unescaped_behind n text
unescaped_behind zero (b ∷ text) = front_value b text ∷ unescaped_behind (escape_len (b ∷ text)) text

unfoldable pub unescaped : Text → Text
unescaped = unescaped_behind 0

-- the value of a quoted text
abbrev pub quoted_value : Text → Text
quoted_value s = unescaped (take (length s - 2) (drop 1 s))

-- ---- names

-- a token of the kind has a name
abbrev pub IsNamed : TokenKind → Type 0
IsNamed kind.Local = Unit {0}
IsNamed kind.Global = Unit {0}
IsNamed kind.Label = Unit {0}
IsNamed _ = ⊥

-- the name in the bytes of a token: without the `%` or `@` before it, or the `:` after it
abbrev pub name_part : TokenKind → Text → Text
name_part kind.Label s = take (length s - 1) s
name_part _ s = drop 1 s

-- A name that is a number isn't the name that is the same digits in quotes.
pub data NameValue : Type 0 where
  Number : ℕ → NameValue
  Bytes : Text → NameValue

-- the name is digits alone, a quoted text, or any other run
pub data StandsFor : Text → NameValue → Type 0 where
  number : (s : Text) → IsDigits s → StandsFor s (Number (digits_value 10 s))
  quoted : (s value : Text) (q : IsQuoted s) → Unescapes q.body value → StandsFor s (Bytes value)
  plain : (s : Text) → Each is_run_byte s → 0 < length s → (IsDigits s → ⊥) → StandsFor s (Bytes s)

unfoldable pub name_value : Text → NameValue
name_value [] = Bytes []
name_value (b ∷ s) =
    if list_all is_ascii_digit (b ∷ s) then Number (digits_value 10 (b ∷ s))
    else (if is_quote b then Bytes (quoted_value (b ∷ s)) else Bytes (b ∷ s))
