-- When lexemes, and a text, are one instruction.
use Rattle.std.proofs.Common.{◌≡◌, ℕ, ◌<◌, List, [], length, Option, Some, None, Result, Ok, Err, IfOk, IfErr, sym, ap, ◌∙◌, subst, arith}
use Rattle.ir_tokens.specs.declared.token.Token.{Token}
use Rattle.ir_tokens.specs.Bytes.{Text}
use Rattle.ir_tokens.specs.Tokens.{Fault, HasTokens, HasFault}
use Rattle.ir_tokens.proofs.Cut.{HasTokens-same, HasTokens-HasFault}
use Rattle.ir_tree.specs.declared.item.Item.{Item}
use Rattle.ir_tree.specs.declared.item.Item.TheVariants as tree
use Rattle.ir_grammar.specs.Instructions.{AreInstruction}
use Rattle.ir_grammar.specs.Lexeme.{Lexemes, lexemes}
use Rattle.ir_grammar.specs.Items.{SomeItem, item}
use Rattle.ir_grammar.proofs.ModuleLemmas.{item-one}
use Rattle.ir_grammar.proofs.Productions.{item-firm}
use Rattle.ir_reader.specs.declared.error.InstrError.{InstrError}
use Rattle.ir_reader.specs.declared.error.InstrError.TheVariants as instr_error
use Rattle.ir_reader.specs.Answers.{IsWhole, SaysWhole, IsWholeInstruction, IsNoInstruction, IsBare}
use Rattle.ir_reader.proofs.Turns.{empty}

pub nothing_whole : (ts : Lexemes) → item.parse ts ≡ None → (x : Item) → IsWhole ts x → ⊥
nothing_whole ts e x w = let f : ◌≡◌ {A = Option (SomeItem × Lexemes)} None (Some (Some (tree.Instr None w.op), [])) = sym e
    ∙ item-firm.exact.only ts (Some (tree.Instr None w.op)) [] w.whole in cc

pub more_left : (ts : Lexemes) (found : SomeItem) (rest : Lexemes) → item.parse ts ≡ Some (found, rest) → 0 < length rest → (x : Item) → IsWhole ts x → ⊥
more_left ts found rest e some x w =
    let one = item-one ts found (Some (tree.Instr None w.op)) rest [] (item-firm.exact.sound ts found rest e) w.whole in
    let l = ap length one.1 in absurd (omega arith)

pub all_read : (ts : Lexemes) (found : SomeItem) (rest : Lexemes) → item.parse ts ≡ Some (found, rest) → length rest ≡ 0 → (r : Result Item InstrError)
    → IsBare found r → SaysWhole ts r
all_read ts found rest e none (Ok x) (o, f, b) = record {
  op = o;
  bare = b;
  whole = subst (λ y. item.reads ts y []) (f ∙ ap (λ y. Some y) b) (subst (λ c. item.reads ts found c) (empty rest none)
      (item-firm.exact.sound ts found rest e));
}
all_read ts found rest e none (Err instr_error.NotAnInstruction) h = λ x w.
    let one = item-one ts found (Some (tree.Instr None w.op)) rest [] (item-firm.exact.sound ts found rest e) w.whole in
    h w.op one.0
all_read ts found rest e none (Err instr_error.OutOfMemory) h = tt

pub faulty : (text : Text) (at : ℕ) (f : Fault) → HasFault text at f → (x : Item) → IsWholeInstruction text x → ⊥
faulty text at f h x w = HasTokens-HasFault text w.whole.tokens at f w.whole.cut h

pub cut_whole : (text : Text) (ts : List Token) → HasTokens text ts → (r : Result Item InstrError) → SaysWhole (lexemes text ts) r
    → IfErr r (λ e. IsNoInstruction text e)
cut_whole text ts cut (Ok x) h = tt
cut_whole text ts cut (Err instr_error.NotAnInstruction) h = λ x w. h x (record {
  op = w.op;
  bare = w.bare;
  whole = subst (λ us. AreInstruction (lexemes text us) w.op) (HasTokens-same text w.whole.tokens ts w.whole.cut cut) w.whole.whole;
})
cut_whole text ts cut (Err instr_error.OutOfMemory) h = tt

pub cut_given : (text : Text) (ts : List Token) → HasTokens text ts → (r : Result Item InstrError) → SaysWhole (lexemes text ts) r
    → IfOk r (λ x. IsWholeInstruction text x)
cut_given text ts cut (Ok x) h = record { op = h.op; bare = h.bare; whole = record { tokens = ts; cut = cut; whole = h.whole } }
cut_given text ts cut (Err e) h = tt
