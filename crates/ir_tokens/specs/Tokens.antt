-- How a text is cut into tokens, separators and comments, and where it can't be.
use Rattle.std.specs.Prelude.{◌≡◌, ◌≢◌, ℕ, ◌+◌, ◌^◌, ◌≤◌, ◌<◌, ◌&&◌, ◌||◌, ◌⊎◌, nat_lt, Bool, true, not, List, [], ◌∷◌, ◌++◌, length, drop, slice_range}
use Rattle.std.specs.Char.{is_ascii_digit}
use Rattle.std.specs.List.{list_all}
use Rattle.std.specs.Str.Parse.{digits_value}
use Rattle.ir_tokens.specs.declared.token.Token.{Token}
use Rattle.ir_tokens.specs.declared.token.TokenKind.{TokenKind}
use Rattle.ir_tokens.specs.declared.token.TokenKind.TheVariants as kind
use Rattle.ir_tokens.specs.Bytes.{Text, Each, NotFirst, is_separator, is_line_feed, is_semicolon, is_quote, is_run_byte, is_meta_byte, is_sign}

-- ---- separators and comments

-- a line ends here, at a byte 10 or with the text
abbrev pub EndsLine : Text → Type 0
EndsLine [] = Unit {0}
EndsLine (b ∷ text) = is_line_feed b ≡ true

-- what a separator or a comment begins with
abbrev pub begins_gap : ℕ → Bool
begins_gap b = is_separator b || is_semicolon b

-- the text is separators and comments, and then rest. A comment is a `;` and all that follows it on its line.
pub data Skips (rest : Text) : Text → Type 0 where
  here : Skips rest rest
  separator : (b : ℕ) (text : Text) → is_separator b ≡ true → Skips rest text → Skips rest (b ∷ text)
  comment : (body text : Text) → Each (λ b. not (is_line_feed b)) body → EndsLine text → Skips rest text → Skips rest (59 ∷ (body ++ text))

-- ---- spellings

-- s is the longest sequence of bytes of the class, where rest follows. It may be empty.
pub record IsRun (class : ℕ → Bool) (s rest : Text) : Type 0 where
  pub whole : Each class s
  pub ends : NotFirst class rest

-- one that isn't empty
pub record IsSomeRun (class : ℕ → Bool) (s rest : Text) : Type 0 where
  pub some : 0 < length s
  pub run : IsRun class s rest

pub record IsDigits (s : Text) : Type 0 where
  pub some : 0 < length s
  pub whole : Each is_ascii_digit s

-- digits with a value below 2 ^ 32, leading zeros allowed
pub record IsSmallNumber (s : Text) : Type 0 where
  pub digits : IsDigits s
  pub small : digits_value 10 s < 2 ^ 32

-- The same two as tests; the law `decided_numbers` says so.
abbrev pub is_digits : Text → Bool
is_digits s = nat_lt 0 (length s) && list_all is_ascii_digit s

unfoldable pub is_small_number : Text → Bool
is_small_number s = is_digits s && nat_lt (digits_value 10 s) 4294967296

-- digits with at most one `-` before them
abbrev pub IsNumber : Text → Type 0
IsNumber s = IsDigits s ⊎ ((digits : Text) × (s ≡ 45 ∷ digits) × IsDigits digits)

-- a text between two `"`, in which there is none. A `\` hides no `"`.
pub record IsQuoted (s : Text) : Type 0 where
  pub body : Text
  pub inside : Each (λ b. not (is_quote b)) body
  pub spelled : s ≡ 34 ∷ (body ++ (34 ∷ []))

-- the name of a local or global: a number below 2 ^ 32, another run that begins with no digit, or a quoted text
abbrev pub IsName : Text → Text → Type 0
IsName s rest = (IsSomeRun is_run_byte s rest × (IsSmallNumber s ⊎ NotFirst is_ascii_digit s)) ⊎ IsQuoted s

-- the name of a label: a number below 2 ^ 32, any run that isn't digits alone, or a quoted text
abbrev pub IsLabelName : Text → Text → Type 0
IsLabelName s rest = (IsSomeRun is_run_byte s rest × (IsSmallNumber s ⊎ (IsDigits s → ⊥))) ⊎ IsQuoted s

-- s spells a token of the kind, where rest follows
abbrev pub Spells : TokenKind → Text → Text → Type 0
Spells kind.Local s rest = (name : Text) × (s ≡ 37 ∷ name) × IsName name rest
Spells kind.Global s rest = (name : Text) × (s ≡ 64 ∷ name) × IsName name rest
Spells kind.Label s rest = (name : Text) × (s ≡ name ++ (58 ∷ [])) × IsLabelName name (58 ∷ rest)
Spells kind.CString s rest = (quoted : Text) × (s ≡ 99 ∷ quoted) × IsQuoted quoted
Spells kind.Quoted s rest = IsQuoted s
Spells kind.Number s rest = IsSomeRun is_run_byte s rest × IsNumber s
Spells kind.Word s rest = IsSomeRun is_run_byte s rest × (IsNumber s → ⊥)
Spells kind.Hash s rest = (digits : Text) × (s ≡ 35 ∷ digits) × IsSomeRun is_ascii_digit digits rest
Spells kind.Meta s rest = (name : Text) × (s ≡ 33 ∷ name) × IsRun is_meta_byte name rest
Spells (kind.Sign b) s rest = (s ≡ b ∷ []) × (is_sign b ≡ true)

-- s spells a token of the kind, and nothing longer spells one here
pub record IsToken (k : TokenKind) (s rest : Text) : Type 0 where
  pub spelled : Spells k s rest
  pub longest : (k' : TokenKind) (s' rest' : Text) → Spells k' s' rest' → s' ++ rest' ≡ s ++ rest → length s' ≤ length s

-- no token begins here
abbrev pub NoToken : Text → Type 0
NoToken text = (k : TokenKind) (s rest : Text) → Spells k s rest → s ++ rest ≡ text → ⊥

-- ---- whole texts

-- The text, the end of one of n bytes, is these tokens, each after its separators and comments, and then rest.
abbrev pub Begins : ℕ → Text → List Token → Text → Type 0
Begins n text [] rest = text ≡ rest
Begins n text (t ∷ ts) rest =
    (s : Text) × (after : Text) × Skips (s ++ after) text × IsToken t.kind s after
    × (t.from + length (s ++ after) ≡ n) × (t.to + length after ≡ n) × Begins n after ts rest

-- the text is cut into these tokens, separators and comments
abbrev pub HasTokens : Text → List Token → Type 0
HasTokens text tokens = (rest : Text) × Begins (length text) text tokens rest × Skips [] rest

-- why no token begins at a byte
pub data Fault : Type 0 where
  BadByte : Fault
  OpenQuote : Fault

-- a `"` that begins no token has no closing one, and any other byte is a bad one
abbrev pub FaultAt : Text → Fault → Type 0
FaultAt [] fault = ⊥
FaultAt (b ∷ text) OpenQuote = b ≡ 34
FaultAt (b ∷ text) BadByte = b ≢ 34

-- The text is cut into tokens, separators and comments up to the offset `at`, whose byte begins none of them.
pub record HasFault (text : Text) (at : ℕ) (fault : Fault) : Type 0 where
  pub before : List Token
  pub rest : Text
  pub left : Text
  pub begins : Begins (length text) text before rest
  pub skips : Skips left rest
  pub stops : NotFirst begins_gap left
  pub none : NoToken left
  pub cause : FaultAt left fault
  pub place : at + length left ≡ length text

-- ---- what follows from it

-- from the offset `at` on the tokens lie one after the other, each with a byte at least, up to the offset `end` at most
abbrev pub Rise : ℕ → List Token → ℕ → Type 0
Rise at [] end = at ≤ end
Rise at (t ∷ ts) end = (at ≤ t.from) × (t.from < t.to) × Rise t.to ts end

-- the bytes of a token
abbrev pub spelling : Text → Token → Text
spelling text t = slice_range text t.from t.to

-- each token spells its kind in the text, at its place
abbrev pub AreSpelled : Text → List Token → Type 0
AreSpelled text [] = Unit {0}
AreSpelled text (t ∷ ts) = IsToken t.kind (spelling text t) (drop t.to text) × AreSpelled text ts
