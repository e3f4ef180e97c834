-- The operands and types of each form of an initialiser, and how many lists there are in one.
use Rattle.std.proofs.Common.{◌≡◌, ℕ, zero, suc, ◌+◌, ◌<◌, ◌≤◌, List, [], ◌∷◌, ◌++◌, map, length, get_or, refl, sym, ap, ◌∙◌, arith}
use Rattle.std.specs.List.{flat_map}
use Rattle.std.proofs.lemmas.List.Folds.{flat_map-map}
use Rattle.ir_tree.specs.declared.type_text.TyText.{TyText}
use Rattle.ir_tree.specs.declared.operand.Opd.{Opd}
use Rattle.ir_tree.specs.declared.operand.Init.{Init}
use Rattle.ir_tree.specs.declared.operand.Init.TheVariants as initial
use Rattle.ir_tree.specs.declared.operand.Init.TheOpen.{Init-F}
use Rattle.ir_tree.specs.declared.operand.Init.TheFolds.{fold-Init, fold-roll-Init}
use Rattle.ir_rules.specs.Parts.{Typed, init_operands, init_operands_step, init_types, init_types_step}

maps : {A B C : Type 0} (f : B → C) (g : A → B) (xs : List A) → map f (map g xs) ≡ map (λ x. f (g x)) xs
maps f g [] = refl
maps f g (x ∷ xs) = ap (λ ys. f (g x) ∷ ys) (maps f g xs)

-- ---- operands

pub operands-One : (t : TyText) (i : Init) (a : Opd) → i ≡ initial.One a → (t, a) ∷ [] ≡ init_operands t i
unfolding init_operands
operands-One t i a e =
    sym (ap (init_operands t) (e ∙ sym (initial.rolls-One a))
    ∙ ap (λ (g : TyText → List Typed). g t) (fold-roll-Init (TyText → List Typed) init_operands_step (Init-F.One a)))

pub operands-Array : (t : TyText) (i : Init) (es : List (TyText × Init)) → i ≡ initial.Array es → flat_map (λ e. init_operands e.0 e.1) es ≡ init_operands t i
unfolding init_operands
operands-Array t i es e =
    sym (ap (init_operands t) (e ∙ sym (initial.rolls-Array es))
    ∙ ap (λ (g : TyText → List Typed). g t) (fold-roll-Init (TyText → List Typed) init_operands_step (Init-F.Array es))
    ∙ flat_map-map (λ (e : TyText × (TyText → List Typed)). e.1 e.0) _ es)

pub operands-Struct : (t : TyText) (i : Init) (es : List (TyText × Init)) → i ≡ initial.Struct es → flat_map (λ e. init_operands e.0 e.1) es ≡ init_operands t i
unfolding init_operands
operands-Struct t i es e =
    sym (ap (init_operands t) (e ∙ sym (initial.rolls-Struct es))
    ∙ ap (λ (g : TyText → List Typed). g t) (fold-roll-Init (TyText → List Typed) init_operands_step (Init-F.Struct es))
    ∙ flat_map-map (λ (e : TyText × (TyText → List Typed)). e.1 e.0) _ es)

-- ---- types

pub types-Array : (i : Init) (es : List (TyText × Init)) → i ≡ initial.Array es → flat_map (λ e. e.0 ∷ init_types e.1) es ≡ init_types i
unfolding init_types
types-Array i es e =
    sym (ap init_types (e ∙ sym (initial.rolls-Array es)) ∙ fold-roll-Init (List TyText) init_types_step (Init-F.Array es)
    ∙ flat_map-map (λ (e : TyText × List TyText). e.0 ∷ e.1) _ es)

pub types-Struct : (i : Init) (es : List (TyText × Init)) → i ≡ initial.Struct es → flat_map (λ e. e.0 ∷ init_types e.1) es ≡ init_types i
unfolding init_types
types-Struct i es e =
    sym (ap init_types (e ∙ sym (initial.rolls-Struct es)) ∙ fold-roll-Init (List TyText) init_types_step (Init-F.Struct es)
    ∙ flat_map-map (λ (e : TyText × List TyText). e.0 ∷ e.1) _ es)

-- ---- how many lists there are

abbrev sum_of : List ℕ → ℕ
sum_of [] = 0
sum_of (n ∷ ns) = n + sum_of ns

abbrev inner : TyText × ℕ → ℕ
inner e = e.1

abbrev lists_step : Init-F ℕ → ℕ
lists_step (Init-F.One x) = 0
lists_step (Init-F.Text s) = 0
lists_step (Init-F.Array es) = suc (sum_of (map inner es))
lists_step (Init-F.Struct es) = suc (sum_of (map inner es))

pub lists : Init → ℕ
lists = fold-Init ℕ lists_step

abbrev pub lists_of : TyText × Init → ℕ
lists_of e = lists e.1

pub all_lists : List (TyText × Init) → ℕ
all_lists es = sum_of (map lists_of es)

pub lists-Array : (es : List (TyText × Init)) → lists (initial.Array es) ≡ suc (all_lists es)
unfolding lists all_lists
lists-Array es = ap lists (sym (initial.rolls-Array es)) ∙ fold-roll-Init ℕ lists_step (Init-F.Array es) ∙ ap (λ ns. suc (sum_of ns)) (maps inner _ es)

pub lists-Struct : (es : List (TyText × Init)) → lists (initial.Struct es) ≡ suc (all_lists es)
unfolding lists all_lists
lists-Struct es = ap lists (sym (initial.rolls-Struct es)) ∙ fold-roll-Init ℕ lists_step (Init-F.Struct es) ∙ ap (λ ns. suc (sum_of ns)) (maps inner _ es)

pub lists-element : (es : List (TyText × Init)) (i : ℕ) (e : TyText × Init) → i < length es → e ≡ get_or es i e → lists e.1 ≤ all_lists es
unfolding all_lists
lists-element [] i e h f = absurd (omega arith)
lists-element (x ∷ es) zero e h f = let same = ap lists_of f in omega arith
lists-element (x ∷ es) (suc i) e h f = let more = lists-element es i e (omega arith) f in omega arith
