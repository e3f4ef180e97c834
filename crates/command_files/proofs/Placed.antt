-- The item that breaks a rule begins at a token of the text.
use Rattle.std.proofs.Common.{◌≡◌, ℕ, zero, suc, ◌<◌, Bool, false, List, [], ◌∷◌, length, Some, None, ap, refl, subst, sym, ◌∙◌, arith}
use Rattle.std.specs.Prelude.{slice_get}
use Rattle.std.proofs.lemmas.List.{length-map}
use Rattle.code_form.specs.declared.sign.PortSign.{PortSign}
use Rattle.ir_tokens.specs.Bytes.{Text}
use Rattle.ir_tokens.specs.declared.token.Token.{Token}
use Rattle.ir_tree.specs.declared.item.Item.{Item}
use Rattle.ir_grammar.specs.Lexeme.{Lexemes, lexeme, lexemes}
use Rattle.ir_grammar.specs.Modules.{leaves_open, Piece, Front, kept, kept_starts}
use Rattle.ir_grammar.proofs.Productions.{item-firm}
use Rattle.ir_rules.specs.Rules.{fault}
use Rattle.ir_rules.specs.declared.rule.Fault.{Fault}
use Rattle.ir_rules.proofs.FirstFaults.{fault-broken}
use Rattle.command_files.specs.Modules.{HasItems}

-- an item that is kept begins at one of n lexemes
kept-start : (n : ℕ) (i j : Bool) (ts rest : Lexemes) (ps : List Piece) (k : ℕ) (x : Item) → Front n i ts ps j rest → slice_get (kept ps) k ≡ Some x
    → (start : ℕ) × (slice_get (kept_starts ps) k ≡ Some start) × (start < n)
kept-start n i j ts rest [] k x f e = absurd (cc e)
kept-start n i j ts rest ((None, at) ∷ ps) k x (mid, h, a, p, more) e = kept-start n (leaves_open None) j mid rest ps k x more e
kept-start n i j ts rest ((Some y, at) ∷ ps) zero x (mid, h, a, p, more) e = let s = item-firm.strict ts (Some y) mid h in (at, refl, omega (arith, p))
kept-start n i j ts rest ((Some y, at) ∷ ps) (suc k) x (mid, h, a, p, more) e = kept-start n (leaves_open (Some y)) j mid rest ps k x more e

some_token : (tokens : List Token) (k : ℕ) → k < length tokens → (t : Token) × (slice_get tokens k ≡ Some t)
some_token [] k h = absurd (omega (arith, h))
some_token (t ∷ ts) zero h = (t, refl)
some_token (t ∷ ts) (suc k) h = some_token ts k (omega (arith, h))

pub fault-placed : (signs : List PortSign) (text : Text) (tokens : List Token) (items : List Item) (starts : List ℕ) (f : Fault)
    → HasItems text tokens items starts → fault items signs ≡ Some f
    → (start : ℕ) × (token : Token) × (slice_get starts f.item ≡ Some start) × (slice_get tokens start ≡ Some token)
fault-placed signs text tokens items starts f h e =
    let (x, here, _) = fault-broken items signs f e in
    let m = h.whole in
    let (start, at, below) = kept-start (length (lexemes text tokens)) false false (lexemes text tokens) [] m.pieces f.item x m.whole (ap (λ xs. slice_get xs f.item) m.tree ∙ here) in
    let (token, there) = some_token tokens start (subst (λ n. start < n) (length-map tokens (lexeme text)) below) in
    (start, token, ap (λ xs. slice_get xs f.item) (sym m.places) ∙ at, there)
