-- The tokens of each form of a type.
use Rattle.std.proofs.Common.{◌≡◌, ℕ, List, [], ◌∷◌, ◌++◌, map, codes, subst, sym, ap, ◌∙◌}
use Rattle.am_base.specs.declared.word.Width.{Width}
use Rattle.ir_tree.specs.declared.name.Name.{Name}
use Rattle.ir_tree.specs.declared.type_text.TyText.{TyText}
use Rattle.ir_tree.specs.declared.type_text.TyText.TheVariants as ty
use Rattle.ir_grammar.specs.Lexeme.{Lexemes}
use Rattle.ir_text.specs.declared.sheet.Sheet.{Sheet}
use Rattle.ir_text.specs.Spelling.{word, sign, local, array_length, width_word}
use Rattle.ir_text.specs.Parts.{type_lexemes, with_commas}
use Rattle.ir_text.specs.Printing.{with_tokens}
use Rattle.ir_text.proofs.TypesBack.{lexemes-Int, lexemes-Ptr, lexemes-Void, lexemes-Named, lexemes-Array, lexemes-Struct}

abbrev Writes : Sheet → Sheet → Lexemes → Type 0
Writes s t ls = t ≡ with_tokens s ls

-- x is written where the lexemes of its form are
of_form : (s t : Sheet) (x form : TyText) (ls : Lexemes) → x ≡ form → type_lexemes form ≡ ls → Writes s t ls → Writes s t (type_lexemes x)
of_form s t x form ls e f h = subst (Writes s t) (sym (ap type_lexemes e ∙ f)) h

pub of_int : (s t : Sheet) (x : TyText) (w : Width) → x ≡ ty.Int w → Writes s t (word (width_word w) ∷ []) → Writes s t (type_lexemes x)
of_int s t x w e h = of_form s t x _ _ e (lexemes-Int w) h

pub of_ptr : (s t : Sheet) (x : TyText) → x ≡ ty.Ptr → Writes s t (word (codes "ptr") ∷ []) → Writes s t (type_lexemes x)
of_ptr s t x e h = of_form s t x _ _ e lexemes-Ptr h

pub of_void : (s t : Sheet) (x : TyText) → x ≡ ty.Void → Writes s t (word (codes "void") ∷ []) → Writes s t (type_lexemes x)
of_void s t x e h = of_form s t x _ _ e lexemes-Void h

pub of_named : (s t : Sheet) (x : TyText) (n : Name) → x ≡ ty.Named n → Writes s t (local n ∷ []) → Writes s t (type_lexemes x)
of_named s t x n e h = of_form s t x _ _ e (lexemes-Named n) h

pub of_array : (s t : Sheet) (x : TyText) (n : ℕ) (of y : TyText) → x ≡ ty.Array n of → y ≡ of
    → Writes s t (sign 91 ∷ array_length n ∷ word (codes "x") ∷ (type_lexemes y ++ sign 93 ∷ [])) → Writes s t (type_lexemes x)
of_array s t x n of y e f h = of_form s t x _ _ (e ∙ ap (ty.Array n) (sym f)) (lexemes-Array n y) h

pub of_struct : (s t : Sheet) (x : TyText) (fields ys : List TyText) → x ≡ ty.Struct fields → ys ≡ fields
    → Writes s t (sign 123 ∷ (with_commas (map type_lexemes ys) ++ sign 125 ∷ [])) → Writes s t (type_lexemes x)
of_struct s t x fields ys e f h = of_form s t x _ _ (e ∙ ap ty.Struct (sym f)) (lexemes-Struct ys) h
