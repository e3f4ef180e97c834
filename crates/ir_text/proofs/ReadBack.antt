-- The canonical text of what was read is read as it.
use Rattle.std.proofs.Common.{◌≡◌, false, ℕ, ◌<◌, zero, suc, get_or, List, [], ◌∷◌, length, Contains, Option, Some, None, sym, ◌∙◌, subst, arith}
use Rattle.std.proofs.lemmas.List.{append-nil}
use Rattle.ir_tokens.specs.Bytes.{Text}
use Rattle.ir_tokens.specs.Tokens.{Fault, HasFault}
use Rattle.ir_tokens.proofs.Cut.{HasTokens-same, HasTokens-HasFault}
use Rattle.ir_tree.specs.declared.name.Name.{Name}
use Rattle.ir_tree.specs.declared.op.Op.{Op}
use Rattle.ir_tree.specs.declared.item.Item.{Item}
use Rattle.ir_tree.specs.declared.item.Item.TheVariants as tree
use Rattle.ir_grammar.specs.Lexeme.{lexemes}
use Rattle.ir_grammar.specs.Instructions.{AreInstruction, IsInstruction}
use Rattle.ir_grammar.specs.Modules.{IsModule}
use Rattle.ir_grammar.proofs.ModuleLemmas.{module-one}
use Rattle.ir_text.specs.Parts.{op_lexemes, item_lexemes}
use Rattle.ir_text.specs.Lines.{canon, instruction_text}
use Rattle.ir_text.specs.Texts.{AreBytes, IsTextOf}
use Rattle.ir_text.specs.ReadBack.{EachOf, PartsReadBack}
use Rattle.ir_text.proofs.PartsBack.{lexemes-bytes}
use Rattle.ir_text.proofs.ItemsBack.{ItemBack, plain-back, item-gives}
use Rattle.ir_text.proofs.ModulesBack.{module_lexemes, Kept, module-kept, module-again, nothing-behind}
use Rattle.ir_text.proofs.LinesCut.{cut-canon}
use Rattle.ir_text.proofs.SpacedCut.{cut-tokens, cut-alone}

text-kept : (text : Text) (items : List Item) → AreBytes text → IsTextOf text items → Kept false items
text-kept text items h t = module-kept (lexemes text t.tokens) items t.starts (lexemes-bytes text t.tokens h) t.whole

pub canon-reads : (text : Text) (items : List Item) → AreBytes text → IsTextOf text items → IsTextOf (canon items) items
canon-reads text items h t =
    let k = text-kept text items h t in
    let c = cut-tokens (canon items) (module_lexemes items) (cut-canon items k.backs) in
    let again = module-again items k in
    record { tokens = c.0; starts = again.0; cut = c.1; whole = subst (λ ls. IsModule ls items again.0) (sym c.2) again.1 }

pub canon-no_fault : (text : Text) (items : List Item) (at : ℕ) (fault : Fault) → AreBytes text → IsTextOf text items → HasFault (canon items) at fault → ⊥
canon-no_fault text items at fault h t f = let c = canon-reads text items h t in HasTokens-HasFault (canon items) c.tokens at fault c.cut f

-- a text is that of one module
pub one-module : (text : Text) (items others : List Item) → IsTextOf text items → IsTextOf text others → others ≡ items
one-module text items others a b =
    let same = HasTokens-same text b.tokens a.tokens b.cut a.cut in
    (module-one (lexemes text a.tokens) others items b.starts a.starts (subst (λ ts. IsModule (lexemes text ts) others b.starts) same b.whole) a.whole).0

-- ---- one instruction

item-at : (items : List Item) (k : ℕ) (x : Item) → EachOf ItemBack items → k < length items → get_or items k x ≡ x → ItemBack x
item-at [] k x bs h e = absurd (omega arith)
item-at (y ∷ items) zero x (b, bs) h e = subst ItemBack e b
item-at (y ∷ items) (suc k) x (b, bs) h e = item-at items k x bs (omega arith) e

-- one each of whose parts reads back
pub made-reads : (o : Op) → PartsReadBack o → IsInstruction (instruction_text o) o
unfolding item_lexemes
made-reads o h =
    let plain = (plain-back o h).back in
    let c = cut-tokens (instruction_text o) (op_lexemes o) (cut-alone (op_lexemes o) plain.fixed) in
    record { tokens = c.0; cut = c.1; whole = subst (λ ls. AreInstruction ls o) (append-nil (op_lexemes o) ∙ sym c.2) (plain.again [] nothing-behind) }

-- one that stands in a module
pub instruction-parts : (text : Text) (items : List Item) (n : Option Name) (o : Op) → AreBytes text → IsTextOf text items → Contains items (tree.Instr n o)
    → PartsReadBack o
instruction-parts text items n o h t (k, within, e) = (item-at items k (tree.Instr n o) (text-kept text items h t).backs within e).instr

-- one that is a text by itself
pub alone-parts : (text : Text) (o : Op) → AreBytes text → IsInstruction text o → PartsReadBack o
alone-parts text o h i = (item-gives.gives (lexemes text i.tokens) (Some (tree.Instr None o)) [] (lexemes-bytes text i.tokens h) i.whole).0.instr
