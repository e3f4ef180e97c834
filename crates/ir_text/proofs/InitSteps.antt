-- The tokens of each form of an initialiser, and how deep its lists are.
use Rattle.std.proofs.Common.{◌≡◌, ℕ, zero, suc, ◌+◌, ◌<◌, ◌≤◌, List, [], ◌∷◌, ◌++◌, map, length, get_or, sym, ap, ◌∙◌, subst, arith}
use Rattle.ir_tokens.specs.Bytes.{Text}
use Rattle.ir_tree.specs.declared.type_text.TyText.{TyText}
use Rattle.ir_tree.specs.declared.operand.Opd.{Opd}
use Rattle.ir_tree.specs.declared.operand.Init.{Init}
use Rattle.ir_tree.specs.declared.operand.Init.TheVariants as initial
use Rattle.ir_tree.specs.declared.operand.Init.TheOpen.{Init-F}
use Rattle.ir_tree.specs.declared.operand.Init.TheFolds.{fold-Init, fold-roll-Init}
use Rattle.ir_grammar.specs.Lexeme.{Lexemes}
use Rattle.ir_text.specs.declared.sheet.Sheet.{Sheet}
use Rattle.ir_text.specs.Spelling.{sign, cstring}
use Rattle.ir_text.specs.Parts.{operand_lexemes, init_lexemes, init_element, with_commas}
use Rattle.ir_text.specs.Printing.{with_tokens}
use Rattle.ir_text.proofs.InitsBack.{maps, lexemes-One, lexemes-Text, lexemes-Array, lexemes-Struct}

-- ---- tokens

abbrev Writes : Sheet → Sheet → Lexemes → Type 0
Writes s t ls = t ≡ with_tokens s ls

of_form : (s t : Sheet) (x form : Init) (ls : Lexemes) → x ≡ form → init_lexemes form ≡ ls → Writes s t ls → Writes s t (init_lexemes x)
of_form s t x form ls e f h = subst (Writes s t) (sym (ap init_lexemes e ∙ f)) h

pub of_one : (s t : Sheet) (x : Init) (o : Opd) → x ≡ initial.One o → Writes s t (operand_lexemes o) → Writes s t (init_lexemes x)
of_one s t x o e h = of_form s t x _ _ e (lexemes-One o) h

pub of_text : (s t : Sheet) (x : Init) (text y : Text) → x ≡ initial.Text text → y ≡ text → Writes s t (cstring y ∷ []) → Writes s t (init_lexemes x)
of_text s t x text y e f h = of_form s t x _ _ (e ∙ ap initial.Text (sym f)) (lexemes-Text y) h

pub of_array : (s t : Sheet) (x : Init) (elements ys : List (TyText × Init)) → x ≡ initial.Array elements → ys ≡ elements
    → Writes s t (sign 91 ∷ (with_commas (map init_element ys) ++ sign 93 ∷ [])) → Writes s t (init_lexemes x)
of_array s t x elements ys e f h = of_form s t x _ _ (e ∙ ap initial.Array (sym f)) (lexemes-Array ys) h

pub of_struct : (s t : Sheet) (x : Init) (fields ys : List (TyText × Init)) → x ≡ initial.Struct fields → ys ≡ fields
    → Writes s t (sign 123 ∷ (with_commas (map init_element ys) ++ sign 125 ∷ [])) → Writes s t (init_lexemes x)
of_struct s t x fields ys e f h = of_form s t x _ _ (e ∙ ap initial.Struct (sym f)) (lexemes-Struct ys) h

-- ---- depth

abbrev most : List ℕ → ℕ
most [] = 0
most (n ∷ ns) = n + most ns

abbrev inner : TyText × ℕ → ℕ
inner e = e.1

abbrev depth_step : Init-F ℕ → ℕ
depth_step (Init-F.One x) = 0
depth_step (Init-F.Text s) = 0
depth_step (Init-F.Array es) = suc (most (map inner es))
depth_step (Init-F.Struct es) = suc (most (map inner es))

-- how many lists there are in an initialiser
pub lists : Init → ℕ
lists = fold-Init ℕ depth_step

abbrev pub lists_of : TyText × Init → ℕ
lists_of e = lists e.1

pub all_lists : List (TyText × Init) → ℕ
all_lists es = most (map lists_of es)

pub lists-Array : (es : List (TyText × Init)) → lists (initial.Array es) ≡ suc (all_lists es)
unfolding lists all_lists
lists-Array es = ap lists (sym (initial.rolls-Array es)) ∙ fold-roll-Init ℕ depth_step (Init-F.Array es) ∙ ap (λ ns. suc (most ns)) (maps inner _ es)

pub lists-Struct : (es : List (TyText × Init)) → lists (initial.Struct es) ≡ suc (all_lists es)
unfolding lists all_lists
lists-Struct es = ap lists (sym (initial.rolls-Struct es)) ∙ fold-roll-Init ℕ depth_step (Init-F.Struct es) ∙ ap (λ ns. suc (most ns)) (maps inner _ es)

pub lists-element : (es : List (TyText × Init)) (i : ℕ) (e : TyText × Init) → i < length es → e ≡ get_or es i e → lists e.1 ≤ all_lists es
unfolding all_lists
lists-element [] i e h f = absurd (omega arith)
lists-element (x ∷ es) zero e h f = let same = ap lists_of f in omega arith
lists-element (x ∷ es) (suc i) e h f = let more = lists-element es i e (omega arith) f in omega arith
