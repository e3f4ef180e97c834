-- Where the tokens of a text lie in it.
use Rattle.std.proofs.Common.{◌≡◌, ℕ, ◌+◌, ◌-◌, ◌≤◌, List, [], ◌∷◌, ◌++◌, length, take, drop, refl, sym, ap, ◌∙◌, arith}
use Rattle.std.proofs.lemmas.List.{append_assoc, length-append}
use Rattle.std.proofs.Math.Seq.{take-append_seam, drop-append_seam}
use Rattle.ir_tokens.specs.declared.token.Token.{Token}
use Rattle.ir_tokens.specs.Bytes.{Text}
use Rattle.ir_tokens.specs.Tokens.{Skips, IsToken, Begins, HasTokens, Rise, spelling, AreSpelled}
use Rattle.ir_tokens.proofs.Longest.{IsToken-some}
use Rattle.ir_tokens.proofs.Gaps.{Skips-front}

Skips-shorter : (rest text : Text) → Skips rest text → length rest ≤ length text
Skips-shorter rest text s = let f = Skips-front rest text s in let len : length text ≡ length f.0 + length rest = ap length f.1 ∙ length-append f.0 rest in
    omega arith

Begins-Rise : (n at : ℕ) (text : Text) (ts : List Token) (rest : Text) → Begins n text ts rest → at + length text ≡ n → Rise at ts n
Begins-Rise n at text [] rest b p = omega arith
Begins-Rise n at text (t ∷ ts) rest (s, after, skips, is, from, to, more) p =
    let within = Skips-shorter (s ++ after) text skips in
    let some = IsToken-some t.kind s after is in
    let len = length-append s after in
    (omega arith, omega arith, Begins-Rise n t.to after ts rest more to)

pub HasTokens-Rise : (text : Text) (ts : List Token) → HasTokens text ts → Rise 0 ts (length text)
HasTokens-Rise text ts (rest, b, s) = Begins-Rise (length text) 0 text ts rest b (omega arith)

-- the bytes between two places
spelled_at : (whole front s after : Text) (t : Token) → whole ≡ front ++ (s ++ after) → t.from ≡ length front → t.to ≡ length front + length s
    → IsToken t.kind s after
    → IsToken t.kind (spelling whole t) (drop t.to whole)
spelled_at whole front s after t e from to is =
    let behind : drop (length front) whole ≡ s ++ after = ap (λ w. drop (length front) w) e ∙ drop-append_seam front (s ++ after) in
    let count : t.to - t.from ≡ length s = omega arith in
    let spelled : spelling whole t ≡ s = ap (λ m. take m (drop t.from whole)) count ∙ ap (λ m. take (length s) (drop m whole)) from
    ∙ ap (λ w. take (length s) w) behind ∙ take-append_seam s after in
    let end : t.to ≡ length (front ++ s) = to ∙ sym (length-append front s) in
    let left : drop t.to whole ≡ after = ap (λ m. drop m whole) end ∙ ap (λ w. drop (length (front ++ s)) w) (e ∙ sym (append_assoc front s after))
    ∙ drop-append_seam (front ++ s) after in
    rw (spelled, left) is

Begins-AreSpelled : (whole front text : Text) (ts : List Token) (rest : Text) → whole ≡ front ++ text → Begins (length whole) text ts rest → AreSpelled whole ts
Begins-AreSpelled whole front text [] rest e b = tt
Begins-AreSpelled whole front text (t ∷ ts) rest e (s, after, skips, is, from, to, more) =
    let gap = Skips-front (s ++ after) text skips in
    let ahead : whole ≡ (front ++ gap.0) ++ (s ++ after) = e ∙ ap (λ w. front ++ w) gap.1 ∙ sym (append_assoc front gap.0 (s ++ after)) in
    let len : length whole ≡ length (front ++ gap.0) + length (s ++ after) = ap length ahead ∙ length-append (front ++ gap.0) (s ++ after) in
    let two = length-append s after in (
      spelled_at whole (front ++ gap.0) s after t ahead (omega arith) (omega arith) is,
      Begins-AreSpelled whole ((front ++ gap.0) ++ s) after ts rest (ahead ∙ sym (append_assoc (front ++ gap.0) s after)) more,
    )

pub HasTokens-AreSpelled : (text : Text) (ts : List Token) → HasTokens text ts → AreSpelled text ts
HasTokens-AreSpelled text ts (rest, b, s) = Begins-AreSpelled text [] text ts rest refl b
