-- A text of a module is read: neither its tokens nor its items are refused.
use Rattle.std.proofs.Common.{◌≡◌, ℕ, ◌<◌, suc, [], ◌∷◌, get_or, List, refl, subst}
use Rattle.std.proofs.lemmas.Bool.{and_from, lt-ltb}
use Rattle.ir_tokens.specs.Bytes.{Text}
use Rattle.ir_tokens.proofs.Cut.{HasTokens-same, HasTokens-HasFault}
use Rattle.ir_tree.specs.declared.item.Item.{Item}
use Rattle.ir_grammar.specs.Lexeme.{lexemes}
use Rattle.ir_grammar.specs.Modules.{IsModule}
use Rattle.ir_grammar.proofs.ModuleLemmas.{either-one}
use Rattle.ir_text.specs.Texts.{AreBytes, IsTextOf}
use Rattle.ir_rows.specs.ReadBack.{IsUnreadable, IsWant}
use Rattle.ir_rows.specs.declared.again.ReadBackError.{ReadBackError}
use Rattle.ir_rows.specs.declared.again.ReadBackError.TheVariants as error

pub are_bytes : (text : Text) → ((k : ℕ) → get_or text k 0 < 256) → AreBytes text
are_bytes [] h = refl
are_bytes (b ∷ text) h = and_from _ _ (lt-ltb b 256 (h 0)) (are_bytes text (λ k. h (suc k)))

pub readable : (text : Text) (items : List Item) (e : ReadBackError) → IsTextOf text items → IsUnreadable text e → IsWant e
readable text items (error.NoToken at) t (fault, f) = HasTokens-HasFault text t.tokens at fault t.cut f
readable text items (error.NoItem at) t (tokens, cut, unread) =
    let same = HasTokens-same text t.tokens tokens t.cut cut in
    either-one (lexemes text tokens) items t.starts at (subst (λ ts. IsModule (lexemes text ts) items t.starts) same t.whole) unread
readable text items error.TooLong t u = u
readable text items error.OutOfMemory t u = tt
