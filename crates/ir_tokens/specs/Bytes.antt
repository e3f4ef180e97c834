-- Texts, and the classes of bytes that they are made of.
use Rattle.std.specs.Prelude.{◌≡◌, ℕ, Bool, false, ◌||◌, ◌==◌, List, [], ◌∷◌, codes, IsTrue}
use Rattle.std.specs.Char.{is_ascii_alphanumeric}
use Rattle.std.specs.List.{list_all}

abbrev pub Text : Type 0
Text = List ℕ

-- each byte is of the class
abbrev pub Each : (ℕ → Bool) → Text → Type 0
Each class text = IsTrue (list_all class text)

-- no byte of the class comes first
abbrev pub NotFirst : (ℕ → Bool) → Text → Type 0
NotFirst class [] = Unit {0}
NotFirst class (b ∷ text) = class b ≡ false

-- a byte of the class comes first
abbrev pub begins : (ℕ → Bool) → Text → Bool
begins class [] = false
begins class (b ∷ text) = class b

abbrev pub is_one_of : List ℕ → ℕ → Bool
is_one_of [] b = false
is_one_of (c ∷ cs) b = b == c || is_one_of cs b

-- tab, line feed, carriage return and blank
abbrev pub separators : List ℕ
separators = 9 ∷ 10 ∷ 13 ∷ 32 ∷ []

abbrev pub is_separator : ℕ → Bool
is_separator = is_one_of separators

abbrev pub is_line_feed : ℕ → Bool
is_line_feed b = b == 10

abbrev pub is_semicolon : ℕ → Bool
is_semicolon b = b == 59

abbrev pub is_quote : ℕ → Bool
is_quote b = b == 34

abbrev pub is_colon : ℕ → Bool
is_colon b = b == 58

abbrev pub is_backslash : ℕ → Bool
is_backslash b = b == 92

-- letters, digits, `-`, `$`, `.` and `_`
abbrev pub is_run_byte : ℕ → Bool
is_run_byte b = is_ascii_alphanumeric b || is_one_of (codes "-$._") b

-- these, and `\`
abbrev pub is_meta_byte : ℕ → Bool
is_meta_byte b = is_run_byte b || is_backslash b

abbrev pub signs : List ℕ
signs = codes "()[]{}<>,=*:|"

abbrev pub is_sign : ℕ → Bool
is_sign = is_one_of signs
