-- The spellings of a canonical text are tokens, wherever a token of their kind may end.
use Rattle.std.proofs.Common.{◌≡◌, ℕ, suc, ◌+◌, ◌^◌, ◌<◌, ◌≤◌, inl, inr, Bool, true, false, ◌&&◌, ◌||◌, [], ◌∷◌, ◌++◌, length, decimal, ℤ, pos}
use Rattle.std.proofs.Common.{negsuc, codes, Some, refl, ap, ◌∙◌, arith, nat_lt, nat_le, ◌/◌, ◌%◌}
use Rattle.std.specs.Char.{is_ascii_digit, is_ascii_alphanumeric}
use Rattle.std.specs.Int.{is_in_range}
use Rattle.std.specs.Fmt.{digit_glyph}
use Rattle.std.specs.List.{list_all}
use Rattle.std.proofs.lemmas.Bool.{and_parts, and_from, or_parts, or_left, or_right, or_cases, not-true, lt-ltb, ltb-true, leb-true, cond_both}
use Rattle.std.proofs.lemmas.List.{length-append, append_assoc}
use Rattle.am_base.specs.declared.word.Width.{Width}
use Rattle.am_base.specs.declared.word.Width.TheVariants as width
use Rattle.am_base.specs.declared.word.BinOp.{BinOp}
use Rattle.am_base.specs.declared.word.BinOp.TheVariants as binary
use Rattle.am_base.specs.declared.word.Cast.{Cast}
use Rattle.am_base.specs.declared.word.Cast.TheVariants as cast
use Rattle.am_base.specs.declared.word.Pred.{Pred}
use Rattle.am_base.specs.declared.word.Pred.TheVariants as pred
use Rattle.ir_tokens.specs.Bytes.{Text, Each, NotFirst, is_quote, is_colon, is_one_of, is_run_byte, signs, is_sign, begins}
use Rattle.ir_tokens.specs.Tokens.{IsSomeRun, IsName, IsLabelName, IsToken, is_digits}
use Rattle.ir_tokens.specs.Front.{quoted_len, is_c, run_kind, run_token, token}
use Rattle.ir_tokens.specs.declared.token.TokenKind.{TokenKind}
use Rattle.ir_tokens.specs.declared.token.TokenKind.TheVariants as kind
use Rattle.ir_tokens.proofs.Classes.{begins-NotFirst, one_of-passes}
use Rattle.ir_tokens.proofs.Spelled.{IsDigits-is_digits}
use Rattle.ir_tokens.proofs.Reached.{token-run, token-local, token-global, token-label, token-c, token-sign}
use Rattle.ir_tokens.proofs.Longest.{IsToken-token}
use Rattle.ir_tree.specs.declared.name.Name.{Name}
use Rattle.ir_tree.specs.declared.name.Name.TheVariants as name
use Rattle.ir_text.specs.Spelling as canon
use Rattle.ir_text.specs.Spelling.{is_shown, escaped_byte, escaped, in_quotes, is_run, is_plain, is_plain_label, spelled_name}
use Rattle.ir_text.proofs.Gives.{Bytes}
use Rattle.ir_text.proofs.Back.{goes_on, Fixed}
use Rattle.ir_text.specs.ReadBack.{IsWide}
use Rattle.ir_text.proofs.Values.{IsKept, decimal-IsDigits, decimal-value, decimal-is_digits, quoted-IsQuoted}

-- ---- what doesn't go on

ends-run : (rest : Text) → NotFirst goes_on rest → NotFirst is_run_byte rest
ends-run [] h = tt
ends-run (b ∷ rest) h = (or_parts _ _ (or_parts (is_run_byte b || is_quote b) _ h).0).0

ends-colon : (rest : Text) → NotFirst goes_on rest → begins is_colon rest ≡ false
ends-colon [] h = refl
ends-colon (b ∷ rest) h = (or_parts (is_run_byte b || is_quote b) _ h).1

ends-quote : (rest : Text) → NotFirst goes_on rest → quoted_len rest ≡ 0
unfolding quoted_len
ends-quote [] h = refl
ends-quote (b ∷ rest) h = let no = (or_parts (is_run_byte b) (is_quote b) (or_parts (is_run_byte b || is_quote b) _ h).0).1 in rw no refl

some_run : (s rest : Text) → 0 < length s → Each is_run_byte s → NotFirst goes_on rest → IsSomeRun is_run_byte s rest
some_run s rest some each h = record { some = some; run = record { whole = each; ends = ends-run rest h } }

-- ---- runs

and-no : (b : Bool) → (b && false) ≡ false
and-no true = refl
and-no false = refl

run_token-ends : (s rest : Text) → NotFirst goes_on rest → run_token s rest ≡ (run_kind s, length s)
unfolding run_token
run_token-ends s rest h = let no = ends-quote rest h in rw (ends-colon rest h, no, and-no (is_c s)) refl

run-token : (k : TokenKind) (s rest : Text) → run_kind s ≡ k → 0 < length s → Each is_run_byte s → NotFirst goes_on rest → IsToken k s rest
run-token k s rest e some each h = IsToken-token k s rest (token-run s rest (some_run s rest some each h) ∙ ap (λ t. Some t) (run_token-ends s rest h)
    ∙ ap (λ v. Some (v, length s)) e)

-- ---- bytes

in_range-byte : (low high b : ℕ) → nat_lt high 256 ≡ true → is_in_range low high b ≡ true → nat_lt b 256 ≡ true
in_range-byte low high b h e =
    let most = leb-true b high (and_parts (nat_le low b) (nat_le b high) e).1 in let small = ltb-true high 256 h in lt-ltb b 256 (omega arith)

run_byte-byte : (b : ℕ) → is_run_byte b ≡ true → nat_lt b 256 ≡ true
run_byte-byte b e = elim (or_cases (is_ascii_alphanumeric b) (is_one_of (codes "-$._") b) e) [
  | inl f ↦ elim (or_cases (is_in_range 48 57 b || is_in_range 65 90 b) (is_in_range 97 122 b) f) [
    | inl g ↦ elim (or_cases (is_in_range 48 57 b) (is_in_range 65 90 b) g) [
      | inl r ↦ in_range-byte 48 57 b refl r
      | inr r ↦ in_range-byte 65 90 b refl r
    ]
    | inr r ↦ in_range-byte 97 122 b refl r
  ]
  | inr f ↦ one_of-passes (λ c. nat_lt c 256) (codes "-$._") b refl f
]

run-bytes : (s : Text) → Each is_run_byte s → Bytes s
run-bytes [] h = refl
run-bytes (b ∷ s) h = let both = and_parts (is_run_byte b) (list_all is_run_byte s) h in and_from _ _ (run_byte-byte b both.0) (run-bytes s both.1)

pub bytes-append : (s t : Text) → Bytes s → Bytes t → Bytes (s ++ t)
bytes-append [] t h g = g
bytes-append (b ∷ s) t h g =
    let both = and_parts (nat_lt b 256) (list_all (λ c. nat_lt c 256) s) h in and_from _ _ both.0 (bytes-append s t both.1 g)

glyph-byte : (d : ℕ) → d < 16 → nat_lt (digit_glyph true d) 256 ≡ true
glyph-byte d h = cond_both (nat_lt d 10) (48 + d) (55 + d) (λ g. nat_lt g 256 ≡ true) (λ _. lt-ltb (48 + d) 256 (omega arith))
    (λ _. lt-ltb (55 + d) 256 (omega arith))

escaped-bytes : (s : Text) → Bytes s → Bytes (escaped s)
escaped-bytes [] h = refl
escaped-bytes (b ∷ s) h =
    let both = and_parts (nat_lt b 256) (list_all (λ c. nat_lt c 256) s) h in
    let small = ltb-true b 256 both.0 in
    bytes-append (escaped_byte b) (escaped s)
    (cond_both (is_shown b) (b ∷ []) (92 ∷ (digit_glyph true (b / 16) ∷ (digit_glyph true (b % 16) ∷ []))) Bytes (λ _. and_from _ _ both.0 refl)
    (λ _. and_from _ _ (glyph-byte (b / 16) (omega arith)) (and_from _ _ (glyph-byte (b % 16) (omega arith)) refl))) (escaped-bytes s both.1)

quoted-bytes : (s : Text) → Bytes s → Bytes (in_quotes s)
quoted-bytes s h = bytes-append (escaped s) (34 ∷ []) (escaped-bytes s h) refl

-- a word that a test computes
pub word-fixed : (s : Text) → list_all is_run_byte s ≡ true → 0 < length s → run_kind s ≡ kind.Word → Fixed (canon.word s)
word-fixed s each some e = (run-bytes s each, λ rest h. run-token kind.Word s rest e some each h)

digit-run_byte : (b : ℕ) → is_ascii_digit b ≡ true → is_run_byte b ≡ true
digit-run_byte b e = or_left _ _ (or_left _ _ (or_left _ _ e))

digits-run : (s : Text) → Each is_ascii_digit s → Each is_run_byte s
digits-run [] h = refl
digits-run (b ∷ s) h = let both = and_parts (is_ascii_digit b) (list_all is_ascii_digit s) h in and_from _ _ (digit-run_byte b both.0) (digits-run s both.1)

number-kind : (s : Text) → is_digits s ≡ true → run_kind s ≡ kind.Number
number-kind [] d = cc
number-kind (b ∷ s) d = rw (or_left (is_digits (b ∷ s)) _ d) refl

decimal-fixed : (n : ℕ) → n < 10 ^ 64 → Fixed (kind.Number, decimal n)
decimal-fixed n w =
    let d = decimal-IsDigits n w in
    let run = digits-run (decimal n) d.whole in
    (run-bytes (decimal n) run, λ rest h. run-token kind.Number (decimal n) rest (number-kind (decimal n) (decimal-is_digits n w)) d.some run h)

pub length-fixed : (n : ℕ) → n ≤ 2 ^ 32 → Fixed (canon.array_length n)
length-fixed n h = decimal-fixed n (omega arith)

minus-fixed : (n : ℕ) → n < 10 ^ 64 → Fixed (kind.Number, 45 ∷ decimal n)
minus-fixed n w =
    let run = digits-run (decimal n) (decimal-IsDigits n w).whole in (
      run-bytes (decimal n) run,
      λ rest h. run-token kind.Number (45 ∷ decimal n) rest (rw (or_right (is_digits (45 ∷ decimal n)) _ (decimal-is_digits n w)) refl) (omega arith) run h,
    )

pub number-fixed : (z : ℤ) → IsWide z → Fixed (canon.number z)
number-fixed (pos n) h = decimal-fixed n (omega arith)
number-fixed (negsuc n) h = minus-fixed (suc n) (omega arith)

-- ---- signs

pub sign-fixed : (b : ℕ) → is_sign b ≡ true → Fixed (canon.sign b)
sign-fixed b e = (
  and_from _ _ (one_of-passes (λ c. nat_lt c 256) signs b refl e) refl,
  λ rest h. IsToken-token (kind.Sign b) (b ∷ []) rest (token-sign b rest e),
)

-- ---- names

-- a run that begins with no digit
pub plain-IsName : (s : Text) → is_plain s ≡ true → (rest : Text) → NotFirst goes_on rest → IsName s rest
plain-IsName s e rest h =
    let both = and_parts (is_run s) _ e in let run = and_parts _ _ both.0 in
    inl (some_run s rest (ltb-true _ _ run.0) run.1 h, inr (begins-NotFirst is_ascii_digit s (not-true _ both.1)))

-- a run that is no digits
pub label-IsLabelName : (s : Text) → is_plain_label s ≡ true → (rest : Text) → IsLabelName s (58 ∷ rest)
label-IsLabelName s e rest =
    let both = and_parts (is_run s) _ e in let run = and_parts _ _ both.0 in
    inl (
      record { some = ltb-true _ _ run.0; run = record { whole = run.1; ends = refl } },
      inr (λ d. let yes = IsDigits-is_digits s d in let no =
          not-true _ both.1 in cc),
    )

spelled-IsName : (n : Name) → IsKept n → (rest : Text) → NotFirst goes_on rest → IsName (spelled_name is_plain n) rest
spelled-IsName (name.Number n) k rest h =
    let d = decimal-IsDigits n (omega arith) in
    let value = decimal-value n (omega arith) in
    inl (some_run (decimal n) rest d.some (digits-run (decimal n) d.whole) h, inl (record { digits = d; small = omega arith }))
spelled-IsName (name.Text s) k rest h = cond_both (is_plain s) s (in_quotes s) (λ t. IsName t rest) (λ e. plain-IsName s e rest h)
    (λ _. inr (quoted-IsQuoted s))

spelled-IsLabelName : (n : Name) → IsKept n → (rest : Text) → IsLabelName (spelled_name is_plain_label n) (58 ∷ rest)
spelled-IsLabelName (name.Number n) k rest =
    let d = decimal-IsDigits n (omega arith) in
    let value = decimal-value n (omega arith) in
    inl (record { some = d.some; run = record { whole = digits-run (decimal n) d.whole; ends = refl } }, inl (record { digits = d; small = omega arith }))
spelled-IsLabelName (name.Text s) k rest = cond_both (is_plain_label s) s (in_quotes s) (λ t. IsLabelName t (58 ∷ rest)) (λ e. label-IsLabelName s e rest)
    (λ _. inr (quoted-IsQuoted s))

spelled-bytes : (plain : Text → Bool) (n : Name) → IsKept n → Bytes (spelled_name plain n)
spelled-bytes plain (name.Number n) k = run-bytes (decimal n) (digits-run (decimal n) (decimal-IsDigits n (omega arith)).whole)
spelled-bytes plain (name.Text s) k = cond_both (plain s) s (in_quotes s) Bytes (λ _. k) (λ _. quoted-bytes s k)

one_more : (b : ℕ) (s : Text) → length s + 1 ≡ length (b ∷ s)
one_more b s = omega arith

pub local_name-fixed : (s rest : Text) → IsName s rest → IsToken kind.Local (37 ∷ s) rest
local_name-fixed s rest i = IsToken-token kind.Local (37 ∷ s) rest (token-local s rest i ∙ ap (λ m. Some (kind.Local, m)) (one_more 37 s))

pub global_name-fixed : (s rest : Text) → IsName s rest → IsToken kind.Global (64 ∷ s) rest
global_name-fixed s rest i = IsToken-token kind.Global (64 ∷ s) rest (token-global s rest i ∙ ap (λ m. Some (kind.Global, m)) (one_more 64 s))

pub local-fixed : (n : Name) → IsKept n → Fixed (canon.local n)
local-fixed n k = (spelled-bytes is_plain n k, λ rest h. local_name-fixed (spelled_name is_plain n) rest (spelled-IsName n k rest h))

pub global-fixed : (n : Name) → IsKept n → Fixed (canon.global n)
global-fixed n k = (spelled-bytes is_plain n k, λ rest h. global_name-fixed (spelled_name is_plain n) rest (spelled-IsName n k rest h))

pub label_name-fixed : (s rest : Text) → IsLabelName s (58 ∷ rest) → IsToken kind.Label (s ++ (58 ∷ [])) rest
label_name-fixed s rest i =
    let count : length s + 1 ≡ length (s ++ (58 ∷ [])) = simp length-append (omega arith) in
    IsToken-token kind.Label (s ++ (58 ∷ [])) rest (ap token (append_assoc s (58 ∷ []) rest) ∙ token-label s rest i ∙ ap (λ m. Some (kind.Label, m)) count)

pub label-fixed : (n : Name) → IsKept n → Fixed (canon.label n)
label-fixed n k = (
  bytes-append (spelled_name is_plain_label n) (58 ∷ []) (spelled-bytes is_plain_label n k) refl,
  λ rest h. label_name-fixed (spelled_name is_plain_label n) rest (spelled-IsLabelName n k rest),
)

-- ---- texts

pub cstring-fixed : (s : Text) → Bytes s → Fixed (canon.cstring s)
cstring-fixed s k = (
  quoted-bytes s k,
  λ rest h. IsToken-token kind.CString (99 ∷ in_quotes s) rest
      (token-c (in_quotes s) rest (quoted-IsQuoted s) ∙ ap (λ n. Some (kind.CString, n)) (one_more 99 (in_quotes s))),
)

-- ---- words of tables

pub width-fixed : (w : Width) → Fixed (canon.word (canon.width_word w))
width-fixed width.W1 = word-fixed (codes "i1") refl (omega arith) refl
width-fixed width.W8 = word-fixed (codes "i8") refl (omega arith) refl
width-fixed width.W16 = word-fixed (codes "i16") refl (omega arith) refl
width-fixed width.W32 = word-fixed (codes "i32") refl (omega arith) refl
width-fixed width.W64 = word-fixed (codes "i64") refl (omega arith) refl

pub binary-fixed : (b : BinOp) → Fixed (canon.word (canon.binary_word b))
binary-fixed binary.Add = word-fixed (codes "add") refl (omega arith) refl
binary-fixed binary.Sub = word-fixed (codes "sub") refl (omega arith) refl
binary-fixed binary.Mul = word-fixed (codes "mul") refl (omega arith) refl
binary-fixed binary.UDiv = word-fixed (codes "udiv") refl (omega arith) refl
binary-fixed binary.SDiv = word-fixed (codes "sdiv") refl (omega arith) refl
binary-fixed binary.URem = word-fixed (codes "urem") refl (omega arith) refl
binary-fixed binary.SRem = word-fixed (codes "srem") refl (omega arith) refl
binary-fixed binary.Shl = word-fixed (codes "shl") refl (omega arith) refl
binary-fixed binary.LShr = word-fixed (codes "lshr") refl (omega arith) refl
binary-fixed binary.AShr = word-fixed (codes "ashr") refl (omega arith) refl
binary-fixed binary.And = word-fixed (codes "and") refl (omega arith) refl
binary-fixed binary.Or = word-fixed (codes "or") refl (omega arith) refl
binary-fixed binary.Xor = word-fixed (codes "xor") refl (omega arith) refl

pub cast-fixed : (c : Cast) → Fixed (canon.word (canon.cast_word c))
cast-fixed cast.Trunc = word-fixed (codes "trunc") refl (omega arith) refl
cast-fixed cast.ZExt = word-fixed (codes "zext") refl (omega arith) refl
cast-fixed cast.SExt = word-fixed (codes "sext") refl (omega arith) refl
cast-fixed cast.PtrToInt = word-fixed (codes "ptrtoint") refl (omega arith) refl
cast-fixed cast.IntToPtr = word-fixed (codes "inttoptr") refl (omega arith) refl

pub predicate-fixed : (p : Pred) → Fixed (canon.word (canon.predicate_word p))
predicate-fixed pred.Eq = word-fixed (codes "eq") refl (omega arith) refl
predicate-fixed pred.Ne = word-fixed (codes "ne") refl (omega arith) refl
predicate-fixed pred.Ugt = word-fixed (codes "ugt") refl (omega arith) refl
predicate-fixed pred.Uge = word-fixed (codes "uge") refl (omega arith) refl
predicate-fixed pred.Ult = word-fixed (codes "ult") refl (omega arith) refl
predicate-fixed pred.Ule = word-fixed (codes "ule") refl (omega arith) refl
predicate-fixed pred.Sgt = word-fixed (codes "sgt") refl (omega arith) refl
predicate-fixed pred.Sge = word-fixed (codes "sge") refl (omega arith) refl
predicate-fixed pred.Slt = word-fixed (codes "slt") refl (omega arith) refl
predicate-fixed pred.Sle = word-fixed (codes "sle") refl (omega arith) refl
