-- The lines of a canonical text are cut into exactly the lexemes that were meant.
use Rattle.std.proofs.Common.{[], ◌∷◌, ◌++◌, List, refl, sym, ap, ◌∙◌, ◌≡◌, subst}
use Rattle.std.proofs.lemmas.List.{append_assoc}
use Rattle.ir_tokens.specs.Bytes.{Text}
use Rattle.ir_tokens.specs.Tokens.{Skips, here, separator}
use Rattle.ir_tree.specs.declared.item.Item.{Item}
use Rattle.ir_tree.specs.declared.item.Item.TheVariants as tree
use Rattle.ir_text.specs.Parts.{item_lexemes}
use Rattle.ir_text.specs.Lines.{spaced, indent, line, canon}
use Rattle.ir_text.specs.ReadBack.{EachOf}
use Rattle.ir_text.proofs.ItemsBack.{ItemBack}
use Rattle.ir_text.proofs.ModulesBack.{module_lexemes}
use Rattle.ir_text.proofs.SpacedCut.{Cut, cut-skips, cut-spaced}

indent-skips : (x : Item) (z : Text) → Skips z (indent x ++ z)
indent-skips (tree.TypeDef n t) z = here
indent-skips (tree.Global n b t i) z = here
indent-skips (tree.Declare n t ts) z = here
indent-skips (tree.Head n t ps) z = here
indent-skips (tree.Label n) z = here
indent-skips (tree.Instr n o) z = separator 32 (32 ∷ z) refl (separator 32 z refl here)
indent-skips tree.End z = here

pub cut-canon : (xs : List Item) → EachOf ItemBack xs → Cut (module_lexemes xs) (canon xs)
unfolding Cut
cut-canon [] bs = here
cut-canon (x ∷ xs) (b, bs) =
    let ls = item_lexemes x in
    let end : Text = 10 ∷ canon xs in
    let more = cut-skips (module_lexemes xs) (canon xs) end (separator 10 (canon xs) refl here) (cut-canon xs bs) in
    let apart : (indent x ++ (spaced ls ++ 10 ∷ [])) ++ canon xs ≡ indent x ++ (spaced ls ++ end) =
    append_assoc (indent x) (spaced ls ++ 10 ∷ []) (canon xs) ∙ ap (λ z. indent x ++ z) (append_assoc (spaced ls) (10 ∷ []) (canon xs)) in
    cut-skips (ls ++ module_lexemes xs) (spaced ls ++ end) (line x ++ canon xs)
    (subst (Skips (spaced ls ++ end)) (sym apart) (indent-skips x (spaced ls ++ end))) (cut-spaced ls end (module_lexemes xs) b.back.fixed refl more)
