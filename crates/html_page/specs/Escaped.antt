-- Bytes of the input in a page, and what character data is.
use Rattle.std.specs.Prelude.{◌≢◌, ℕ, ◌+◌, ◌/◌, ◌%◌, ◌==◌, ◌≤◌, ◌<◌, nat_lt, ◌||◌, if◌then◌else◌, List, [], ◌∷◌, ◌++◌, flat_map, codes}
use Rattle.std.specs.List.{Contains}

abbrev pub hex_digit : ℕ → ℕ
hex_digit n = if nat_lt n 10 then 48 + n else 55 + n

-- `\` and two hexadecimal digits
abbrev pub hex_of : ℕ → List ℕ
hex_of b = 92 ∷ hex_digit (b / 16) ∷ hex_digit (b % 16) ∷ []

-- `<`, `>`, `&` and both quotes by the names of their characters; other printed bytes of ASCII as they are; the rest in hexadecimal
abbrev pub escaped_byte : ℕ → List ℕ
escaped_byte b =
    if b == 60 then codes "&lt;"
    else (if b == 62 then codes "&gt;"
    else (if b == 38 then codes "&amp;"
    else (if b == 34 then codes "&quot;"
    else (if b == 39 then codes "&#39;" else (if (nat_lt b 32 || nat_lt 126 b) then hex_of b else b ∷ [])))))

abbrev pub escaped : List ℕ → List ℕ
escaped text = flat_map escaped_byte text

-- ---- character data

-- a printed byte that is none of `<`, `>`, `&` and the quotes
pub record IsPlain (b : ℕ) : Type 0 where
  pub printed : 32 ≤ b
  pub ascii : b ≤ 126
  pub less : b ≢ 60
  pub greater : b ≢ 62
  pub ampersand : b ≢ 38
  pub quote : b ≢ 34
  pub apostrophe : b ≢ 39

abbrev pub references : List (List ℕ)
references = codes "&lt;" ∷ codes "&gt;" ∷ codes "&amp;" ∷ codes "&quot;" ∷ codes "&#39;" ∷ []

-- plain bytes and references to characters, one after another: no tag, no attribute and no other reference begins or ends in it
pub data IsCharacterData : List ℕ → Type 0 where
  nothing : IsCharacterData []
  plain : (b : ℕ) (more : List ℕ) → IsPlain b → IsCharacterData more → IsCharacterData (b ∷ more)
  reference : (name more : List ℕ) → Contains references name → IsCharacterData more → IsCharacterData (name ++ more)
