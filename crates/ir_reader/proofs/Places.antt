-- Where the tokens of a text lie, and how many there are.
use Rattle.std.proofs.Common.{◌≡◌, ℕ, ◌+◌, ◌-◌, ◌<◌, ◌≤◌, List, [], ◌∷◌, length, slice_index_or, arith}
use Rattle.ir_tokens.specs.declared.token.Token.{Token}
use Rattle.ir_tokens.specs.Bytes.{Text}
use Rattle.ir_tokens.specs.Tokens.{HasTokens, Rise}
use Rattle.ir_tokens.proofs.Places.{HasTokens-Rise}
use Rattle.ir_reader_tokens.specs.Cursor.{LieIn}

rise_end : (at : ℕ) (ts : List Token) (end : ℕ) → Rise at ts end → at + length ts ≤ end
rise_end at [] end r = omega arith
rise_end at (t ∷ ts) end (from, some, more) = let e = rise_end t.to ts end more in omega arith

rise_lie : (at : ℕ) (ts : List Token) (text : Text) → Rise at ts (length text) → LieIn text ts
rise_lie at [] text r = tt
rise_lie at (t ∷ ts) text (from, some, more) = let e = rise_end t.to ts (length text) more in (omega arith, omega arith, rise_lie t.to ts text more)

pub tokens_lie : (text : Text) (ts : List Token) → HasTokens text ts → LieIn text ts
tokens_lie text ts h = rise_lie 0 ts text (HasTokens-Rise text ts h)

rise_last : (at : ℕ) (t : Token) (ts : List Token) (end : ℕ) (d : Token) → Rise at (t ∷ ts) end
    → at + length (t ∷ ts) ≤ (slice_index_or (t ∷ ts) (length ts) d).to
rise_last at t [] end d (from, some, more) = omega arith
rise_last at t (u ∷ ts) end d (from, some, more) = let e = rise_last t.to u ts end d more in omega arith

-- there are no more tokens than the place where the last one ends
pub rise_few : (ts : List Token) (end last : ℕ) (d : Token) → Rise 0 ts end → 0 < length ts → last ≡ (slice_index_or ts (length ts - 1) d).to → length ts ≤ last
rise_few [] end last d r some is = absurd (omega arith)
rise_few (t ∷ ts) end last d r some is =
    let e : length (t ∷ ts) - 1 ≡ length ts = omega arith in
    let f = rise_last 0 t ts end d r in
    let g : last ≡ (slice_index_or (t ∷ ts) (length ts) d).to = rw e at is in
    omega arith
