-- An initialiser fits a type where its elements fit the parts.
use Rattle.std.proofs.Common.{◌≡◌, ℕ, zero, suc, ◌+◌, ◌<◌, nat_eq, Bool, true, false, ◌&&◌, List, [], ◌∷◌, ◌++◌, length, map, take, get_or}
use Rattle.std.proofs.Common.{Option, Some, slice_get, unwrap_or, refl, sym, ap, ◌∙◌, arith}
use Rattle.std.proofs.lemmas.List.{take_more, length-take-le, length-map}
use Rattle.std.proofs.lemmas.Option.{slice_get_within}
use Rattle.std.proofs.lemmas.Bool.{eqb-true, eq-eqb}
use Rattle.type_layout.specs.declared.ty.Ty.{Ty, out-Ty}
use Rattle.type_layout.specs.declared.ty.Ty.TheVariants as ty
use Rattle.type_layout.specs.declared.ty.Ty.TheOpen.{Ty-F}
use Rattle.type_table.specs.Table.{Keeps, type_at}
use Rattle.type_table.proofs.Tables.{type-kept}
use Rattle.ir_tree.specs.declared.type_text.TyText.{TyText}
use Rattle.ir_tree.specs.declared.operand.Opd.{Opd}
use Rattle.ir_tree.specs.declared.operand.Init.{Init}
use Rattle.ir_tree.specs.declared.operand.Init.TheVariants as initial
use Rattle.ir_tree.specs.declared.operand.Init.TheOpen.{Init-F}
use Rattle.ir_tree.specs.declared.operand.Init.TheFolds.{fold-roll-Init}
use Rattle.ir_rules.specs.Types.{TypeDefs, expanded, scalar_of}
use Rattle.ir_rules.specs.Initialisers.{same_type, init_fits, fits_step, constant_fits, text_fits, each_fits, array_fits, fields_fit, struct_fits}
use Rattle.ir_init_rules.specs.Same.{same_at}
use Rattle.ir_init_rules.specs.Levels.{is_array_of, is_struct_of, part_type}
use Rattle.ir_init_rules.specs.Fits.{element_fits, elements_fit}
use Rattle.ir_init_rules.proofs.Lists.{and-assoc, and-true}
use Rattle.ir_init_rules.proofs.Structures.{some-at}

-- ---- one element more

elements-append : (defs : TypeDefs) (wanted : ℕ → Option Ty) (es : List (TyText × Init)) (e : TyText × Init) (n : ℕ) → n ≡ length es
    → elements_fit defs wanted (es ++ e ∷ []) ≡ (elements_fit defs wanted es && element_fits defs (wanted n) e)
elements-append defs wanted [] e zero h = and-true (element_fits defs (wanted zero) e)
elements-append defs wanted [] e (suc n) h = absurd (omega arith)
elements-append defs wanted (x ∷ es) e zero h = absurd (omega arith)
elements-append defs wanted (x ∷ es) e (suc n) h =
    ap (λ b. element_fits defs (wanted zero) x && b) (elements-append defs (λ k. wanted (suc k)) es e n (omega arith))
    ∙ and-assoc (element_fits defs (wanted zero) x) (elements_fit defs (λ k. wanted (suc k)) es) (element_fits defs (wanted (suc n)) e)

pub elements-more : (defs : TypeDefs) (wanted : ℕ → Option Ty) (es : List (TyText × Init)) (k : ℕ) (e : TyText × Init) (w f h r : Bool) → k < length es
    → e ≡ get_or es k e → f ≡ (w && elements_fit defs wanted (take k es)) → h ≡ element_fits defs (wanted k) e → r ≡ (f && h)
    → r ≡ (w && elements_fit defs wanted (take (k + 1) es))
elements-more defs wanted es k e w f h r l at before here both =
    both ∙ (λ i. before i && here i) ∙ sym (and-assoc w (elements_fit defs wanted (take k es)) (element_fits defs (wanted k) e))
    ∙ ap (λ x. w && (elements_fit defs wanted (take k es) && element_fits defs (wanted k) x)) at
    ∙ ap (λ b. w && b) (sym (elements-append defs wanted (take k es) (get_or es k e) k (sym (length-take-le k es (omega arith))))
    ∙ sym (ap (elements_fit defs wanted) (take_more es k e l)))

-- where the first elements don't all fit, not all elements do
short : (defs : TypeDefs) (wanted : ℕ → Option Ty) (es : List (TyText × Init)) (k : ℕ) → false ≡ elements_fit defs wanted (take k es)
    → false ≡ elements_fit defs wanted es
short defs wanted [] zero h = h
short defs wanted [] (suc k) h = h
short defs wanted (e ∷ es) zero h = absurd cc
short defs wanted (e ∷ es) (suc k) h = by (element_fits defs (wanted zero) e) (short defs (λ k. wanted (suc k)) es k) h
  where
    by : (b : Bool) → (false ≡ elements_fit defs (λ k. wanted (suc k)) (take k es) → false ≡ elements_fit defs (λ k. wanted (suc k)) es)
        → false ≡ (b && elements_fit defs (λ k. wanted (suc k)) (take k es)) → false ≡ (b && elements_fit defs (λ k. wanted (suc k)) es)
    by true later h = later h
    by false later h = refl

pub elements-short : (defs : TypeDefs) (wanted : ℕ → Option Ty) (es : List (TyText × Init)) (k : ℕ) (w : Bool)
    → false ≡ (w && elements_fit defs wanted (take k es)) → false ≡ (w && elements_fit defs wanted es)
elements-short defs wanted es k true h = short defs wanted es k h
elements-short defs wanted es k false h = refl

-- ---- the forms of an initialiser

pub fits-One : (defs : TypeDefs) (i : Init) (t : Ty) (a : Opd) → i ≡ initial.One a → constant_fits (scalar_of t) a ≡ init_fits defs i t
unfolding init_fits
fits-One defs i t a e =
    sym (ap (λ i. init_fits defs i t) (e ∙ sym (initial.rolls-One a)) ∙ (λ j. fold-roll-Init (Ty → Bool) (fits_step defs) (Init-F.One a) j t))

pub fits-Text : (defs : TypeDefs) (i : Init) (t : Ty) (s : List ℕ) → i ≡ initial.Text s → text_fits s (out-Ty t) ≡ init_fits defs i t
unfolding init_fits
fits-Text defs i t s e =
    sym (ap (λ i. init_fits defs i t) (e ∙ sym (initial.rolls-Text s)) ∙ (λ j. fold-roll-Init (Ty → Bool) (fits_step defs) (Init-F.Text s) j t))

abbrev tested : TypeDefs → TyText × Init → TyText × (Ty → Bool)
tested defs e = (e.0, λ t. init_fits defs e.1 t)

by-Array : (defs : TypeDefs) (es : List (TyText × Init)) (t : Ty) → init_fits defs (initial.Array es) t ≡ array_fits defs (map (tested defs) es) (out-Ty t)
unfolding init_fits
by-Array defs es t =
    ap (λ i. init_fits defs i t) (sym (initial.rolls-Array es)) ∙ (λ j. fold-roll-Init (Ty → Bool) (fits_step defs) (Init-F.Array es) j t)

by-Struct : (defs : TypeDefs) (es : List (TyText × Init)) (t : Ty) → init_fits defs (initial.Struct es) t ≡ struct_fits defs (map (tested defs) es) (out-Ty t)
unfolding init_fits
by-Struct defs es t =
    ap (λ i. init_fits defs i t) (sym (initial.rolls-Struct es)) ∙ (λ j. fold-roll-Init (Ty → Bool) (fits_step defs) (Init-F.Struct es) j t)

-- ---- elements

each-element : (defs : TypeDefs) (es : List (TyText × Init)) (of : Ty) → each_fits defs (map (tested defs) es) of ≡ elements_fit defs (λ k. Some of) es
each-element defs [] of = refl
each-element defs (e ∷ es) of = ap (λ b. element_fits defs (Some of) e && b) (each-element defs es of)

array-layer : (defs : TypeDefs) (es : List (TyText × Init)) (x : Ty-F Ty)
    → array_fits defs (map (tested defs) es) x ≡ (is_array_of (length es) x && elements_fit defs (part_type x) es)
array-layer defs es (Ty-F.Int w) = refl
array-layer defs es Ty-F.Ptr = refl
array-layer defs es (Ty-F.Array n of) = λ i. nat_eq (length-map es (tested defs) i) n && each-element defs es of i
array-layer defs es (Ty-F.Struct ts) = refl

pub fits-Array : (defs : TypeDefs) (i : Init) (t : Ty) (es ms : List (TyText × Init)) → i ≡ initial.Array es → ms ≡ es
    → (is_array_of (length ms) (out-Ty t) && elements_fit defs (part_type (out-Ty t)) ms) ≡ init_fits defs i t
fits-Array defs i t es ms e f =
    ap (λ (l : List (TyText × Init)). is_array_of (length l) (out-Ty t) && elements_fit defs (part_type (out-Ty t)) l) f
    ∙ sym (ap (λ i. init_fits defs i t) e ∙ by-Array defs es t ∙ array-layer defs es (out-Ty t))

fields-same : (defs : TypeDefs) (es : List (TyText × Init)) (ts : List Ty) → length es ≡ length ts
    → fields_fit defs (map (tested defs) es) ts ≡ elements_fit defs (slice_get ts) es
fields-same defs [] [] h = refl
fields-same defs [] (t ∷ ts) h = absurd (omega arith)
fields-same defs (e ∷ es) [] h = absurd (omega arith)
fields-same defs (e ∷ es) (t ∷ ts) h = ap (λ b. element_fits defs (Some t) e && b) (fields-same defs es ts (omega arith))

and-false : (b : Bool) → (b && false) ≡ false
and-false true = refl
and-false false = refl

fields-none : (defs : TypeDefs) (es : List (TyText × Init)) (ts : List Ty) → (length es ≡ length ts → ⊥) → fields_fit defs (map (tested defs) es) ts ≡ false
fields-none defs [] [] h = absurd (h refl)
fields-none defs [] (t ∷ ts) h = refl
fields-none defs (e ∷ es) [] h = refl
fields-none defs (e ∷ es) (t ∷ ts) h =
    ap (λ b. element_fits defs (Some t) e && b) (fields-none defs es ts (λ k. h (omega arith))) ∙ and-false (element_fits defs (Some t) e)

fields-both : (defs : TypeDefs) (es : List (TyText × Init)) (ts : List Ty)
    → fields_fit defs (map (tested defs) es) ts ≡ (nat_eq (length es) (length ts) && elements_fit defs (slice_get ts) es)
fields-both defs es ts = by (nat_eq (length es) (length ts)) refl
  where
    by : (b : Bool) → nat_eq (length es) (length ts) ≡ b → fields_fit defs (map (tested defs) es) ts ≡ (b && elements_fit defs (slice_get ts) es)
    by true e = fields-same defs es ts (eqb-true (length es) (length ts) e)
    by false e = fields-none defs es ts (λ k. let p = eq-eqb (length es) (length ts) k in cc)

struct-layer : (defs : TypeDefs) (es : List (TyText × Init)) (x : Ty-F Ty)
    → struct_fits defs (map (tested defs) es) x ≡ (is_struct_of (length es) x && elements_fit defs (part_type x) es)
struct-layer defs es (Ty-F.Int w) = refl
struct-layer defs es Ty-F.Ptr = refl
struct-layer defs es (Ty-F.Array n of) = refl
struct-layer defs es (Ty-F.Struct ts) = fields-both defs es ts

pub fits-Struct : (defs : TypeDefs) (i : Init) (t : Ty) (es ms : List (TyText × Init)) → i ≡ initial.Struct es → ms ≡ es
    → (is_struct_of (length ms) (out-Ty t) && elements_fit defs (part_type (out-Ty t)) ms) ≡ init_fits defs i t
fits-Struct defs i t es ms e f =
    ap (λ (l : List (TyText × Init)). is_struct_of (length l) (out-Ty t) && elements_fit defs (part_type (out-Ty t)) l) f
    ∙ sym (ap (λ i. init_fits defs i t) e ∙ by-Struct defs es t ∙ struct-layer defs es (out-Ty t))

-- ---- types that stay

pub keeps-own : (ts : List Ty) → Keeps ts ts
keeps-own ts n t h = h

pub keeps-both : (ts us vs : List Ty) → Keeps ts us → Keeps us vs → Keeps ts vs
keeps-both ts us vs f g n t h = g n t (f n t h)

pub keeps-within : (ts us : List Ty) (n : ℕ) → Keeps ts us → n < length ts → n < length us
keeps-within ts us n f h = slice_get_within us n (type_at ts n) (f n (type_at ts n) (some-at ts n h))

-- ---- one element

pub element-found : (defs ds : TypeDefs) (ts us : List Ty) (e : TyText × Init) (o : Option Ty) (own wanted : ℕ) (same fits r : Bool) → Keeps ts us
    → wanted < length ts → slice_get ts wanted ≡ o → ds ≡ defs → slice_get us own ≡ Some (expanded defs e.0) → same ≡ same_at us own wanted
    → fits ≡ init_fits ds e.1 (type_at us wanted) → r ≡ (same && fits) → r ≡ element_fits defs o e
element-found defs ds ts us e o own wanted same fits r keeps h at known number alike inner both =
    let kept : type_at us wanted ≡ type_at ts wanted = type-kept ts us keeps wanted h in
    let first : type_at us own ≡ expanded defs e.0 = ap (λ o. unwrap_or o (ty.Struct [])) number in
    let there : o ≡ Some (type_at ts wanted) = sym at ∙ some-at ts wanted h in
    let one : same ≡ same_type (expanded defs e.0) (type_at ts wanted) = alike ∙ (λ i. same_type (first i) (kept i)) in
    let other : fits ≡ init_fits defs e.1 (type_at ts wanted) = inner ∙ (λ i. init_fits (known i) e.1 (kept i)) in
    both ∙ (λ i. one i && other i) ∙ sym (ap (λ o. element_fits defs o e) there)
