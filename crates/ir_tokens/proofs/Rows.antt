-- Worked rows: what the definitions give on some texts.
use Rattle.std.proofs.Common.{◌≡◌, [], ◌∷◌, Some, None, codes, refl}
use Rattle.ir_tokens.specs.declared.token.TokenKind.TheVariants as kind
use Rattle.ir_tokens.specs.Names.{unescaped, name_value, Number, Bytes}
use Rattle.ir_tokens.specs.Tokens.{is_small_number}
use Rattle.ir_tokens.specs.Front.{name_len, quoted_len, run_token, marked_token, token}

-- `\\41` is `\`, `4` and `1`, and `\41` is `A`
double_first : unescaped (92 ∷ 92 ∷ 52 ∷ 49 ∷ []) ≡ 92 ∷ 52 ∷ 49 ∷ []
unfolding unescaped
double_first = refl

hexadecimal : unescaped (92 ∷ 52 ∷ 49 ∷ 92 ∷ 55 ∷ 101 ∷ 92 ∷ 90 ∷ []) ≡ 65 ∷ 126 ∷ 92 ∷ 90 ∷ []
unfolding unescaped
hexadecimal = refl

-- `007` is the number 7, and `"7"` the text
zeros_first : name_value (codes "007") ≡ Number 7
unfolding name_value
zeros_first = refl

digits_in_quotes : name_value (34 ∷ 55 ∷ 34 ∷ []) ≡ Bytes (codes "7")
unfolding name_value unescaped
digits_in_quotes = refl

minus_first : name_value (codes "-5") ≡ Bytes (codes "-5")
unfolding name_value
minus_first = refl

-- a run of digits alone is a label only below 2 ^ 32
small_label : token (codes "4294967295:") ≡ Some (kind.Label, 11)
unfolding token run_token is_small_number
small_label = refl

large_label : token (codes "4294967296:") ≡ Some (kind.Number, 10)
unfolding token run_token is_small_number
large_label = refl

-- `c` with a quoted text, and with a quote that no other closes
c_string : token (99 ∷ 34 ∷ 97 ∷ 34 ∷ []) ≡ Some (kind.CString, 4)
unfolding token run_token is_small_number quoted_len
c_string = refl

c_open : token (99 ∷ 34 ∷ 97 ∷ []) ≡ Some (kind.Word, 1)
unfolding token run_token is_small_number quoted_len
c_open = refl

local_open : token (37 ∷ 34 ∷ 97 ∷ []) ≡ None
unfolding token marked_token name_len quoted_len
local_open = refl
