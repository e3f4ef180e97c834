-- The operands and types of each form of an initialiser, and how many lists there are in one.
use Rattle.std.proofs.Common.{Bor, ℤ, ◌≡◌, ℕ, zero, suc, ◌+◌, ◌<◌, ◌≤◌, List, [], ◌∷◌, ◌++◌, map, length, get_or, refl, sym, ap, ◌∙◌, arith}
use Rattle.std.specs.List.{flat_map}
use Rattle.std.proofs.lemmas.List.{append-nil, map-append}
use Rattle.ir_tree.specs.declared.type_text.TyText.{TyText}
use Rattle.ir_tree.specs.declared.operand.Opd.{Opd}
use Rattle.ir_tree.specs.declared.operand.Init.{Init}
use Rattle.ir_tree.specs.declared.operand.Init.TheVariants as initial
use Rattle.ir_tree.specs.declared.operand.Init.TheOpen.{Init-F}
use Rattle.ir_tree.specs.declared.operand.Init.TheFolds.{fold-Init, fold-roll-Init}
use Rattle.ir_rules.specs.Parts.{Typed, indices_of, opd_types, init_operands, init_operands_step, init_types, init_types_step}

maps : {A B C : Type 0} (f : B → C) (g : A → B) (xs : List A) → map f (map g xs) ≡ map (λ x. f (g x)) xs
maps f g [] = refl
maps f g (x ∷ xs) = ap (λ ys. f (g x) ∷ ys) (maps f g xs)

flat-maps : {A B C : Type 0} (f : B → List C) (g : A → B) (xs : List A) → flat_map f (map g xs) ≡ flat_map (λ x. f (g x)) xs
flat-maps f g [] = refl
flat-maps f g (x ∷ xs) = ap (λ ys. f (g x) ++ ys) (flat-maps f g xs)

-- ---- operands

pub operands-One : (t : TyText) (i : Init) (a : Opd) → i ≡ initial.One a → (t, a) ∷ [] ≡ init_operands t i
unfolding init_operands
operands-One t i a e =
    sym (ap (init_operands t) (e ∙ sym (initial.rolls-One a))
    ∙ ap (λ (g : TyText → List Typed). g t) (fold-roll-Init (TyText → List Typed) init_operands_step (Init-F.One a)))

pub operands-Text : (t : TyText) (i : Init) (s : List ℕ) (list : List Typed) → i ≡ initial.Text s → list ≡ list ++ init_operands t i
unfolding init_operands
operands-Text t i s list e =
    sym (ap (λ l. list ++ l) (ap (init_operands t) (e ∙ sym (initial.rolls-Text s))
    ∙ ap (λ (g : TyText → List Typed). g t) (fold-roll-Init (TyText → List Typed) init_operands_step (Init-F.Text s))) ∙ append-nil list)

pub operands-Array : (t : TyText) (i : Init) (es : List (TyText × Init)) → i ≡ initial.Array es → flat_map (λ e. init_operands e.0 e.1) es ≡ init_operands t i
unfolding init_operands
operands-Array t i es e =
    sym (ap (init_operands t) (e ∙ sym (initial.rolls-Array es))
    ∙ ap (λ (g : TyText → List Typed). g t) (fold-roll-Init (TyText → List Typed) init_operands_step (Init-F.Array es))
    ∙ flat-maps (λ (e : TyText × (TyText → List Typed)). e.1 e.0) _ es)

pub operands-Struct : (t : TyText) (i : Init) (es : List (TyText × Init)) → i ≡ initial.Struct es → flat_map (λ e. init_operands e.0 e.1) es ≡ init_operands t i
unfolding init_operands
operands-Struct t i es e =
    sym (ap (init_operands t) (e ∙ sym (initial.rolls-Struct es))
    ∙ ap (λ (g : TyText → List Typed). g t) (fold-roll-Init (TyText → List Typed) init_operands_step (Init-F.Struct es))
    ∙ flat-maps (λ (e : TyText × (TyText → List Typed)). e.1 e.0) _ es)

-- ---- types

pub types-One : (i : Init) (a : Opd) (list : List TyText) → i ≡ initial.One a → list ≡ list ++ init_types i
unfolding init_types
types-One i a list e =
    sym (ap (λ l. list ++ l) (ap init_types (e ∙ sym (initial.rolls-One a)) ∙ fold-roll-Init (List TyText) init_types_step (Init-F.One a)) ∙ append-nil list)

pub types-Text : (i : Init) (s : List ℕ) (list : List TyText) → i ≡ initial.Text s → list ≡ list ++ init_types i
unfolding init_types
types-Text i s list e =
    sym (ap (λ l. list ++ l) (ap init_types (e ∙ sym (initial.rolls-Text s)) ∙ fold-roll-Init (List TyText) init_types_step (Init-F.Text s)) ∙ append-nil list)

pub types-Array : (i : Init) (es : List (TyText × Init)) → i ≡ initial.Array es → flat_map (λ e. e.0 ∷ init_types e.1) es ≡ init_types i
unfolding init_types
types-Array i es e =
    sym (ap init_types (e ∙ sym (initial.rolls-Array es)) ∙ fold-roll-Init (List TyText) init_types_step (Init-F.Array es)
    ∙ flat-maps (λ (e : TyText × List TyText). e.0 ∷ e.1) _ es)

pub types-Struct : (i : Init) (es : List (TyText × Init)) → i ≡ initial.Struct es → flat_map (λ e. e.0 ∷ init_types e.1) es ≡ init_types i
unfolding init_types
types-Struct i es e =
    sym (ap init_types (e ∙ sym (initial.rolls-Struct es)) ∙ fold-roll-Init (List TyText) init_types_step (Init-F.Struct es)
    ∙ flat-maps (λ (e : TyText × List TyText). e.0 ∷ e.1) _ es)

-- ---- how many lists there are

abbrev sum_of : List ℕ → ℕ
sum_of [] = 0
sum_of (n ∷ ns) = n + sum_of ns

abbrev inner : TyText × ℕ → ℕ
inner e = e.1

abbrev lists_step : Init-F ℕ → ℕ
lists_step (Init-F.One x) = 0
lists_step (Init-F.Text s) = 0
lists_step (Init-F.Array es) = suc (sum_of (map inner es))
lists_step (Init-F.Struct es) = suc (sum_of (map inner es))

pub lists : Init → ℕ
lists = fold-Init ℕ lists_step

abbrev pub lists_of : TyText × Init → ℕ
lists_of e = lists e.1

pub all_lists : List (TyText × Init) → ℕ
all_lists es = sum_of (map lists_of es)

pub lists-Array : (es : List (TyText × Init)) → lists (initial.Array es) ≡ suc (all_lists es)
unfolding lists all_lists
lists-Array es = ap lists (sym (initial.rolls-Array es)) ∙ fold-roll-Init ℕ lists_step (Init-F.Array es) ∙ ap (λ ns. suc (sum_of ns)) (maps inner _ es)

pub lists-Struct : (es : List (TyText × Init)) → lists (initial.Struct es) ≡ suc (all_lists es)
unfolding lists all_lists
lists-Struct es = ap lists (sym (initial.rolls-Struct es)) ∙ fold-roll-Init ℕ lists_step (Init-F.Struct es) ∙ ap (λ ns. suc (sum_of ns)) (maps inner _ es)

pub lists-element : (es : List (TyText × Init)) (i : ℕ) (e : TyText × Init) → i < length es → e ≡ get_or es i e → lists e.1 ≤ all_lists es
unfolding all_lists
lists-element [] i e h f = absurd (omega arith)
lists-element (x ∷ es) zero e h f = let same = ap lists_of f in omega arith
lists-element (x ∷ es) (suc i) e h f = let more = lists-element es i e (omega arith) f in omega arith

-- ---- the types of operands

pub types-joined : (bs : List (Bor TyText × Bor Opd)) (ops : List Typed) → map {B = Typed} (λ v. (v.0.now, v.1.now)) bs ≡ ops
    → flat_map (λ v. v.0.now ∷ opd_types v.1.now) bs ≡ flat_map (λ (v : Typed). v.0 ∷ opd_types v.1) ops
types-joined bs ops e =
    let pair : Bor TyText × Bor Opd → Typed = λ v. (v.0.now, v.1.now) in
    sym (flat-maps (λ (v : Typed). v.0 ∷ opd_types v.1) pair bs) ∙ ap (flat_map (λ (v : Typed). v.0 ∷ opd_types v.1)) e

pub written-types : (bs : List (Bor TyText × Bor Opd)) (ops : List Typed) → map {B = Typed} (λ v. (v.0.now, v.1.now)) bs ≡ ops
    → map (λ v. v.0.now) bs ≡ map (λ (v : Typed). v.0) ops
written-types bs ops e =
    let pair : Bor TyText × Bor Opd → Typed = λ v. (v.0.now, v.1.now) in
    sym (maps (λ (v : Typed). v.0) pair bs) ∙ ap (map (λ (v : Typed). v.0)) e

map-flat : {A B C : Type 0} (f : B → C) (g : A → List B) (xs : List A) → map f (flat_map g xs) ≡ flat_map (λ x. map f (g x)) xs
map-flat f g [] = refl
map-flat f g (x ∷ xs) = map-append f (g x) (flat_map g xs) ∙ ap (λ ys. map f (g x) ++ ys) (map-flat f g xs)

pub indices-joined : (bs : List (Bor TyText × Bor Opd)) (ops : List Typed) → map {B = Typed} (λ v. (v.0.now, v.1.now)) bs ≡ ops
    → flat_map (λ v. map (λ i. i.0) (indices_of v.1.now)) bs ≡ map (λ (i : TyText × ℤ). i.0) (flat_map (λ (v : Typed). indices_of v.1) ops)
indices-joined bs ops e =
    let pair : Bor TyText × Bor Opd → Typed = λ v. (v.0.now, v.1.now) in
    let first : TyText × ℤ → TyText = λ i. i.0 in
    sym (flat-maps (λ (v : Typed). map first (indices_of v.1)) pair bs) ∙ ap (flat_map (λ (v : Typed). map first (indices_of v.1))) e
    ∙ sym (map-flat first (λ (v : Typed). indices_of v.1) ops)
