-- One turn of the lexer: a gap, and then a token, the end or a fault.
use Rattle.std.proofs.Common.{◌≡◌, ℕ, ◌+◌, ◌<◌, ◌≤◌, List, [], ◌∷◌, ◌++◌, length, drop, Some, refl, sym, ap, ◌∙◌, subst, arith}
use Rattle.std.proofs.lemmas.List.{length-append}
use Rattle.std.proofs.Math.Seq.{drop-append_seam}
use Rattle.ir_tokens.specs.declared.token.TokenKind.{TokenKind}
use Rattle.ir_tokens.specs.declared.token.Token.{Token}
use Rattle.ir_tokens.specs.Bytes.{Text}
use Rattle.ir_tokens.specs.Tokens.{Skips, NoToken, Begins, HasTokens, Fault, BadByte, OpenQuote, FaultAt, HasFault}
use Rattle.ir_tokens.specs.Front.{token, skip}
use Rattle.ir_tokens.proofs.Longest.{token-First, IsToken-some}
use Rattle.ir_tokens.proofs.Gaps.{Skipped, skip-Skipped}
use Rattle.ir_tokens.proofs.Cut.{Begins-push}
use Rattle.ir_lexer.specs.Answer.{Follows, NamesFront, NamesFault}
use Rattle.ir_lexer.specs.declared.error.LexError.{LexError}
use Rattle.ir_lexer.specs.declared.error.LexError.TheVariants as error

-- ---- the token at the front

pub token-le : (text : Text) (k : TokenKind) (n : ℕ) → token text ≡ Some (k, n) → n ≤ length text
token-le text k n e =
    let f = (token-First text k n e).front in let c = f.counts in
    let len : length text ≡ length f.s + length f.rest = ap length f.whole ∙ length-append f.s f.rest in omega arith

pub token-Follows : (text : Text) (k : TokenKind) (n : ℕ) → token text ≡ Some (k, n) → Follows text k (drop n text)
token-Follows text k n e =
    let f = (token-First text k n e).front in
    let back : drop n text ≡ f.rest = ap (λ m. drop m text) (sym f.counts) ∙ ap (λ t. drop (length f.s) t) f.whole ∙ drop-append_seam f.s f.rest in
    subst (Follows text k) (sym back) (record { s = f.s; whole = f.whole; is_token = f.has })

pub Follows-shorter : (text : Text) (k : TokenKind) (rest : Text) → Follows text k rest → length rest < length text
Follows-shorter text k rest f =
    let some = IsToken-some k f.s rest f.is_token in
    let len : length text ≡ length f.s + length rest = ap length f.whole ∙ length-append f.s rest in omega arith

-- ---- the text so far

pub Begins-next : (n : ℕ) (text : Text) (ts : List Token) (rest left after : Text) (t : Token) → Begins n text ts rest → left ≡ skip rest
    → Follows left t.kind after
    → t.from + length left ≡ n → t.to + length after ≡ n → Begins n text (ts ++ (t ∷ [])) after
Begins-next n text ts rest left after t begins e f from to =
    Begins-push n text ts rest f.s after t begins (subst (λ c. Skips c rest) (sym e ∙ f.whole) (skip-Skipped rest).skips) f.is_token
    (subst (λ c. t.from + length c ≡ n) f.whole from) to

length-zero : (text : Text) → length text ≡ 0 → text ≡ []
length-zero [] h = refl
length-zero (b ∷ text) h = absurd (omega arith)

pub HasTokens-end : (text : Text) (ts : List Token) (rest left : Text) → Begins (length text) text ts rest → left ≡ skip rest → length left ≡ 0
    → HasTokens text ts
HasTokens-end text ts rest left begins e none =
    let nil : skip rest ≡ [] = sym e ∙ length-zero left none in (rest, begins, subst (λ c. Skips c rest) nil (skip-Skipped rest).skips)

fault_here : (text : Text) (ts : List Token) (rest left : Text) (at : ℕ) (f : Fault) → Begins (length text) text ts rest → left ≡ skip rest → NoToken left
    → FaultAt left f → at + length left ≡ length text → HasFault text at f
fault_here text ts rest left at f begins e none cause place =
    let s : Skipped rest left = subst (Skipped rest) (sym e) (skip-Skipped rest) in
    record { before = ts; rest = rest; left = left; begins = begins; skips = s.skips; stops = s.stops; none = none; cause = cause; place = place }

pub NamesFault-here : (text : Text) (ts : List Token) (rest left : Text) (at : ℕ) (err : LexError) → Begins (length text) text ts rest → left ≡ skip rest
    → NoToken left → NamesFront left at err → at + length left ≡ length text → NamesFault text err
NamesFault-here text ts rest left at (error.BadByte n) begins same none (cause, is) place = fault_here text ts rest left n BadByte begins same none cause
    (omega arith)
NamesFault-here text ts rest left at (error.OpenQuote n) begins same none (cause, is) place = fault_here text ts rest left n OpenQuote begins same none cause
    (omega arith)
NamesFault-here text ts rest left at error.OutOfMemory begins same none h place = absurd h
