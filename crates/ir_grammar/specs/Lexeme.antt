-- A token with its spelling.
use Rattle.std.specs.Prelude.{ℕ, Bool, true, false, ◌&&◌, ◌==◌, List, [], ◌∷◌, map, Option, Some, None}
use Rattle.std.specs.Str.{bytes_eq}
use Rattle.ir_tokens.specs.Bytes.{Text}
use Rattle.ir_tokens.specs.Tokens.{spelling}
use Rattle.ir_tokens.specs.declared.token.Token.{Token}
use Rattle.ir_tokens.specs.declared.token.TokenKind.{TokenKind}
use Rattle.ir_tokens.specs.declared.token.TokenKind.TheVariants as kind

abbrev pub Lexeme : Type 0
Lexeme = TokenKind × Text

abbrev pub Lexemes : Type 0
Lexemes = List Lexeme

abbrev pub lexeme : Text → Token → Lexeme
lexeme text t = (t.kind, spelling text t)

-- the tokens of a text, each with its spelling
abbrev pub lexemes : Text → List Token → Lexemes
lexemes text ts = map (lexeme text) ts

-- ---- what comes first

abbrev pub first_kind : Lexemes → Option TokenKind
first_kind [] = None
first_kind (l ∷ ts) = Some l.0

abbrev pub first_text : Lexemes → Text
first_text [] = []
first_text (l ∷ ts) = l.1

-- what follows the first one
abbrev pub behind : Lexemes → Lexemes
behind [] = []
behind (l ∷ ts) = ts

abbrev pub is_sign : ℕ → Option TokenKind → Bool
is_sign b (Some (kind.Sign c)) = c == b
is_sign b _ = false

abbrev pub is_word : Option TokenKind → Bool
is_word (Some kind.Word) = true
is_word _ = false

abbrev pub is_number : Option TokenKind → Bool
is_number (Some kind.Number) = true
is_number _ = false

abbrev pub is_local : Option TokenKind → Bool
is_local (Some kind.Local) = true
is_local _ = false

abbrev pub is_cstring : Option TokenKind → Bool
is_cstring (Some kind.CString) = true
is_cstring _ = false

-- the first one is the sign with this byte
abbrev pub sees_sign : ℕ → Lexemes → Bool
sees_sign b ts = is_sign b (first_kind ts)

-- the first one is this word
abbrev pub sees_word : Text → Lexemes → Bool
sees_word w ts = is_word (first_kind ts) && bytes_eq (first_text ts) w

abbrev pub sees_number : Lexemes → Bool
sees_number ts = is_number (first_kind ts)

abbrev pub sees_local : Lexemes → Bool
sees_local ts = is_local (first_kind ts)

abbrev pub sees_cstring : Lexemes → Bool
sees_cstring ts = is_cstring (first_kind ts)
