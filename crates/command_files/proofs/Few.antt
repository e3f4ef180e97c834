-- A text has no more items than bytes.
use Rattle.std.proofs.Common.{◌≡◌, ℕ, ◌+◌, ◌≤◌, ◌<◌, Bool, false, refl, List, [], ◌∷◌, length, map, Option, Some, None, sym, ap, subst, ◌∙◌, arith}
use Rattle.ir_tokens.specs.Bytes.{Text}
use Rattle.ir_tokens.specs.Tokens.{HasTokens, Rise}
use Rattle.ir_tokens.specs.declared.token.Token.{Token}
use Rattle.ir_tokens.proofs.Places.{HasTokens-Rise}
use Rattle.ir_tree.specs.declared.item.Item.{Item}
use Rattle.ir_grammar.specs.Lexeme.{Lexemes, lexeme, lexemes}
use Rattle.ir_grammar.specs.Modules.{Piece, Front, kept, leaves_open, IsModule}
use Rattle.ir_grammar.proofs.Productions.{item-firm}
use Rattle.command_files.specs.Modules.{HasItems}

rise-few : (at : ℕ) (ts : List Token) (end : ℕ) → Rise at ts end → at + length ts ≤ end
rise-few at [] end h = omega (arith, h)
rise-few at (t ∷ ts) end h =
    let more = rise-few t.to ts end h.2 in
    let from = h.0 in
    let to = h.1 in
    omega (arith, more, from, to)

length-lexemes : (text : Text) (ts : List Token) → length (lexemes text ts) ≡ length ts
length-lexemes text [] = refl
length-lexemes text (t ∷ ts) = let e = length-lexemes text ts in omega (arith, e)

kept-few : (ps : List Piece) → length (kept ps) ≤ length ps
kept-few [] = omega arith
kept-few ((None, at) ∷ ps) = let h = kept-few ps in omega (arith, h)
kept-few ((Some x, at) ∷ ps) = let h = kept-few ps in omega (arith, h)

front-few : (n : ℕ) (i : Bool) (ts : Lexemes) (ps : List Piece) (j : Bool) (rest : Lexemes) → Front n i ts ps j rest → length ps + length rest ≤ length ts
front-few n i ts [] j rest h = let l = ap length h.1 in omega (arith, l)
front-few n i ts (p ∷ ps) j rest h =
    let s = item-firm.strict ts p.0 h.0 h.1 in
    let more = front-few n (leaves_open p.0) h.0 ps j rest h.4 in
    omega (arith, s, more)

pub few-items : (text : Text) (tokens : List Token) (items : List Item) (starts : List ℕ) → HasItems text tokens items starts → length items ≤ length text
few-items text tokens items starts h =
    let rise = rise-few 0 tokens (length text) (HasTokens-Rise text tokens h.cut) in
    let equal = length-lexemes text tokens in
    let front = front-few (length (lexemes text tokens)) false (lexemes text tokens) h.whole.pieces false [] h.whole.whole in
    let kept = kept-few h.whole.pieces in
    let tree = ap length h.whole.tree in
    omega (arith, rise, equal, front, kept, tree)
