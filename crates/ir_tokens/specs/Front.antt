-- The token at the front of a text, found byte by byte. `proofs/` shows that it is the one that `Tokens` defines.
use Rattle.std.specs.Prelude.{ℕ, ◌+◌, Bool, true, false, not, ◌&&◌, ◌||◌, if◌then◌else◌, ◌==◌, nat_lt, [], ◌∷◌, length, take, drop, Option, Some, None}
use Rattle.std.specs.Char.{is_ascii_digit}
use Rattle.std.specs.List.{prefix_len}
use Rattle.ir_tokens.specs.Bytes.{Text, is_separator, is_line_feed, is_semicolon, is_quote, is_colon, is_run_byte, is_meta_byte, is_sign, begins}
use Rattle.ir_tokens.specs.Tokens.{is_digits, is_small_number}
use Rattle.ir_tokens.specs.declared.token.TokenKind.{TokenKind}
use Rattle.ir_tokens.specs.declared.token.TokenKind.TheVariants as kind

-- ---- numbers and names

abbrev pub is_number : Text → Bool
is_number [] = false
is_number (b ∷ s) = is_digits (b ∷ s) || (b == 45 && is_digits s)

-- whether a run may be a name after `%` or `@`, and before `:`
abbrev pub is_name : Text → Bool
is_name s = is_small_number s || not (begins is_ascii_digit s)

abbrev pub is_label_name : Text → Bool
is_label_name s = is_small_number s || not (is_digits s)

-- ---- how many bytes something has at the front, and 0 where it isn't there

abbrev pub run_len : Text → ℕ
run_len = prefix_len is_run_byte

abbrev pub body_len : Text → ℕ
body_len = prefix_len (λ b. not (is_quote b))

unfoldable pub quoted_len : Text → ℕ
quoted_len [] = 0
quoted_len (b ∷ text) = if is_quote b && nat_lt (body_len text) (length text) then body_len text + 2 else 0

unfoldable pub name_len : Text → ℕ
name_len text = if begins is_quote text then quoted_len text else (if is_name (take (run_len text) text) then run_len text else 0)

-- ---- tokens: the kind, and how many bytes

abbrev pub Found : Type 0
Found = Option (TokenKind × ℕ)

-- a token of one byte and n bytes after it, if n isn't 0
abbrev pub behind_mark : TokenKind → ℕ → Found
behind_mark k n = if nat_lt 0 n then Some (k, n + 1) else None

abbrev pub run_kind : Text → TokenKind
run_kind s = if is_number s then kind.Number else kind.Word

-- whether the run is `c`
abbrev pub is_c : Text → Bool
is_c (b ∷ []) = b == 99
is_c _ = false

-- a run, and what follows it
unfoldable pub run_token : Text → Text → TokenKind × ℕ
run_token s rest =
    if begins is_colon rest && is_label_name s then (kind.Label, length s + 1)
    else (if is_c s && nat_lt 0 (quoted_len rest) then (kind.CString, quoted_len rest + 1)
    else (run_kind s, length s))

-- a quoted text of n bytes, and what follows it
unfoldable pub quoted_token : ℕ → Text → Found
quoted_token n rest = if nat_lt 0 n then (if begins is_colon rest then Some (kind.Label, n + 1) else Some (kind.Quoted, n)) else None

-- the first byte is a mark
unfoldable pub marked_token : ℕ → Text → Found
marked_token b text =
    if b == 37 then behind_mark kind.Local (name_len text)
    else (if b == 64 then behind_mark kind.Global (name_len text)
    else (if b == 35 then behind_mark kind.Hash (prefix_len is_ascii_digit text)
    else (if b == 33 then Some (kind.Meta, prefix_len is_meta_byte text + 1)
    else (if is_sign b then Some (kind.Sign b, 1) else None))))

unfoldable pub token : Text → Found
token [] = None
token (b ∷ text) =
    if is_run_byte b then Some (run_token (take (run_len (b ∷ text)) (b ∷ text)) (drop (run_len (b ∷ text)) (b ∷ text)))
    else (if is_quote b then quoted_token (quoted_len (b ∷ text)) (drop (quoted_len (b ∷ text)) (b ∷ text))
    else marked_token b text)

-- ---- separators and comments

-- The text without the separators and comments at its front. The flag says that a comment is open.
abbrev pub skip_from : Bool → Text → Text
skip_from is_open [] = []
skip_from true (b ∷ text) = skip_from (not (is_line_feed b)) text
skip_from false (b ∷ text) = if is_separator b then skip_from false text else (if is_semicolon b then skip_from true text else b ∷ text)

unfoldable pub skip : Text → Text
skip = skip_from false
