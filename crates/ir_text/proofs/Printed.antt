-- The text of a sheet that grew by tokens.
use Rattle.std.proofs.Common.{◌≡◌, [], ◌∷◌, ◌++◌, Option, Some, None, codes, refl, sym, ap, ◌∙◌}
use Rattle.std.proofs.lemmas.List.{append_assoc, append-nil}
use Rattle.ir_tokens.specs.Bytes.{Text}
use Rattle.ir_tokens.specs.declared.token.TokenKind.{TokenKind}
use Rattle.ir_tokens.specs.declared.token.TokenKind.TheVariants as kind
use Rattle.ir_tree.specs.declared.name.Name.{Name}
use Rattle.ir_tree.specs.declared.op.Op.{Op}
use Rattle.ir_tree.specs.declared.op.Op.TheVariants as op
use Rattle.ir_tree.specs.declared.item.Item.{Item}
use Rattle.ir_tree.specs.declared.item.Item.TheVariants as tree
use Rattle.ir_grammar.specs.Lexeme.{Lexemes}
use Rattle.ir_text.specs.declared.sheet.Sheet.{Sheet}
use Rattle.ir_text.specs.Parts.{op_lexemes, item_lexemes}
use Rattle.ir_text.specs.Lines.{spaced_behind, spaced, indent, line, instruction_text, result_text}
use Rattle.ir_text.specs.Spelling.{local}
use Rattle.ir_text.specs.Printing.{gap_after, with_token, with_tokens}

behind_text : (s : Sheet) (k : TokenKind) (ls : Lexemes) → s.last ≡ Some k → (with_tokens s ls).text ≡ s.text ++ spaced_behind k ls
unfolding with_tokens
behind_text s k [] e = sym (append-nil s.text)
behind_text s k (l ∷ ls) e =
    behind_text (with_token s l) l.0 ls refl ∙ append_assoc s.text (gap_after s.last l.0 ++ l.1) (spaced_behind l.0 ls)
    ∙ ap (λ z. s.text ++ z) (append_assoc (gap_after s.last l.0) l.1 (spaced_behind l.0 ls))
    ∙ ap (λ o. s.text ++ (gap_after o l.0 ++ (l.1 ++ spaced_behind l.0 ls))) e

-- on a new line
pub tokens_text : (s : Sheet) (ls : Lexemes) → s.last ≡ None → (with_tokens s ls).text ≡ s.text ++ spaced ls
unfolding with_tokens
tokens_text s [] e = sym (append-nil s.text)
tokens_text s (l ∷ ls) e =
    behind_text (with_token s l) l.0 ls refl ∙ append_assoc s.text (gap_after s.last l.0 ++ l.1) (spaced_behind l.0 ls)
    ∙ ap (λ z. s.text ++ z) (append_assoc (gap_after s.last l.0) l.1 (spaced_behind l.0 ls))
    ∙ ap (λ o. s.text ++ (gap_after o l.0 ++ (l.1 ++ spaced_behind l.0 ls))) e

-- a line, by its three parts
pub line_text : (old : Text) (s t : Sheet) (x : Item) → s.text ≡ old ++ indent x → s.last ≡ None → t ≡ with_tokens s (item_lexemes x)
    → t.text ++ (10 ∷ []) ≡ old ++ line x
line_text old s t x a n e =
    ap (λ u. u.text ++ (10 ∷ [])) e ∙ ap (λ z. z ++ (10 ∷ [])) (tokens_text s (item_lexemes x) n) ∙ ap (λ z. (z ++ spaced (item_lexemes x)) ++ (10 ∷ [])) a
    ∙ append_assoc (old ++ indent x) (spaced (item_lexemes x)) (10 ∷ []) ∙ append_assoc old (indent x) (spaced (item_lexemes x) ++ (10 ∷ []))

-- on an empty sheet
pub whole_text : (s t : Sheet) (ls : Lexemes) → s.text ≡ [] → s.last ≡ None → t ≡ with_tokens s ls → t.text ≡ spaced ls
whole_text s t ls a n e = ap (λ u. u.text) e ∙ tokens_text s ls n ∙ ap (λ z. z ++ spaced ls) a

-- ---- the line of an instruction

behind_equals : (o : Op) → spaced_behind (kind.Sign 61) (op_lexemes o) ≡ 32 ∷ instruction_text o
unfolding op_lexemes
behind_equals (op.Bin b t x y) = refl
behind_equals (op.Cmp p t x y) = refl
behind_equals (op.Select s c t x u y) = refl
behind_equals (op.Cast c t x to) = refl
behind_equals (op.Freeze t x) = refl
behind_equals (op.Alloca t n) = refl
behind_equals (op.Load t u a) = refl
behind_equals (op.Store t x u a) = refl
behind_equals (op.Get of t b i) = refl
behind_equals (op.Phi t e) = refl
behind_equals (op.Call t c a) = refl
behind_equals (op.Jump to) = refl
behind_equals (op.Branch t c x y) = refl
behind_equals (op.Switch t x o c) = refl
behind_equals (op.Ret x) = refl
behind_equals op.Unreachable = refl

pub instruction-line : (n : Option Name) (o : Op) → line (tree.Instr n o) ≡ codes "  " ++ (result_text n ++ (instruction_text o ++ 10 ∷ []))
unfolding item_lexemes
instruction-line None o = refl
instruction-line (Some n) o =
    let m = (local n).1 in
    ap (λ z. codes "  " ++ ((m ++ (32 ∷ (61 ∷ z))) ++ 10 ∷ [])) (behind_equals o)
    ∙ ap (λ z. codes "  " ++ z) (append_assoc m (codes " = " ++ instruction_text o) (10 ∷ [])
    ∙ sym (append_assoc m (codes " = ") (instruction_text o ++ 10 ∷ [])))
