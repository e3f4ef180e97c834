-- How a walk grows by the replacements of an instruction.
use Rattle.std.proofs.Common.{◌≡◌, ◌+◌, ◌<◌, List, [], ◌∷◌, ◌++◌, length, map, take, get_or, refl, sym, ap, ◌∙◌, append-nil, arith, ℕ}
use Rattle.std.specs.Prelude.{fold, flat_map, ◌≤◌, cond, if◌then◌else◌, Bool, true, false}
use Rattle.std.proofs.lemmas.Bool.{lt-ltb, le-ltb}
use Rattle.std.proofs.lemmas.List.{get_or_default}
use Rattle.am_base.specs.declared.limits.TheConstants.{MAX_LISTED_MUTANTS}
use Rattle.std.proofs.lemmas.List.{map-append, map_more, take_more}
use Rattle.std.proofs.lemmas.Grind.{flat_map-append, common_steps}
use Rattle.std.proofs.lemmas.List.Sums.{fold-append}
use Rattle.ir_tree.specs.declared.operand.Opd.{Opd}
use Rattle.ir_tree.specs.declared.op.Op.{Op}
use Rattle.mutant_maker.specs.declared.rows.Row.{Row}
use Rattle.mutant_maker.specs.declared.rows.Walk.{Walk}
use Rattle.mutant_maker.specs.Lists.{Made, made_in}
use Rattle.mutant_maker.specs.Walks.{row_of, with_made, with_all, with_ops}

pub done : (w : Walk) → w ≡ with_ops w []
unfolding with_ops
done w = refl

pub joined : (w : Walk) (xs ys : List Op) → with_ops (with_ops w xs) ys ≡ with_ops w (xs ++ ys)
unfolding with_ops
joined w xs ys =
    let f = made_in w.function w.instruction in
    ap (λ (rows : List Row). record w { rows = rows })
    (sym (fold-append with_made w.rows (map f xs) (map f ys)) ∙ ap (fold with_made w.rows) (sym (map-append f xs ys)))

pub part : (w u v : Walk) (xs ys : List Op) → u ≡ with_ops w xs → v ≡ with_ops u ys → v ≡ with_ops w (xs ++ ys)
part w u v xs ys a b = b ∙ ap (λ x. with_ops x ys) a ∙ joined w xs ys

-- two lists, the second one with nothing behind it
pub pair : (w u v : Walk) (xs ys : List Op) → u ≡ with_ops w xs → v ≡ with_ops u ys → v ≡ with_ops w (xs ++ (ys ++ []))
pair w u v xs ys a b = part w u v xs ys a b ∙ ap (λ l. with_ops w (xs ++ l)) (sym (append-nil ys))

-- ---- one replacement

pub full : (w : Walk) (o : Op) → MAX_LISTED_MUTANTS < length w.rows → w ≡ with_ops w (o ∷ [])
unfolding with_ops
full w o h =
    ap (λ (b : Bool). record w { rows = cond b w.rows (w.rows ++ row_of (made_in w.function w.instruction o) ∷ []) })
    (sym (lt-ltb MAX_LISTED_MUTANTS (length w.rows) h))

pub room : (w v : Walk) (o : Op) → length w.rows ≤ MAX_LISTED_MUTANTS → v ≡ record w { rows = w.rows ++ row_of (made_in w.function w.instruction o) ∷ [] }
    → v ≡ with_ops w (o ∷ [])
unfolding with_ops
room w v o h e =
    e ∙ ap (λ (b : Bool). record w { rows = cond b w.rows (w.rows ++ row_of (made_in w.function w.instruction o) ∷ []) })
    (sym (le-ltb MAX_LISTED_MUTANTS (length w.rows) h))

-- ---- loops

pub flat_more : {A B : Type 0} (f : A → List B) (xs : List A) (i : ℕ) (x : A) → i < length xs → x ≡ get_or xs i x
    → flat_map f (take (i + 1) xs) ≡ flat_map f (take i xs) ++ f x
flat_more f xs i x h e = rw (take_more xs i x h, ← e, flat_map-append) (grind (arith, common_steps))

-- a turn of a loop in which each element has a replacement, but for those that pass a test
pub others_turn : {A : Type 0} (test : A → Bool) (g : A → Op) (xs : List A) (i : ℕ) (d : A) (same : Bool) (s t v : Walk) → i < length xs
    → same ≡ test (get_or xs i d) → t ≡ with_ops s (flat_map (λ k. if test k then [] else g k ∷ []) (take i xs))
    → v ≡ with_ops t (if same then [] else g (get_or xs i d) ∷ []) → v ≡ with_ops s (flat_map (λ k. if test k then [] else g k ∷ []) (take (i + 1) xs))
others_turn test g xs i d same s t v h e a c =
    part s t v (flat_map (λ k. if test k then [] else g k ∷ []) (take i xs)) (if test (get_or xs i d) then [] else g (get_or xs i d) ∷ []) a
    (c ∙ ap (λ (b : Bool). with_ops t (if b then [] else g (get_or xs i d) ∷ [])) e)
    ∙ ap (with_ops s) (sym (flat_more (λ k. if test k then [] else g k ∷ []) xs i (get_or xs i d) h (get_or_default xs i d (get_or xs i d) h)))

-- and of one in which each element has one
pub map_turn : {A : Type 0} (f : A → Op) (xs : List A) (i : ℕ) (d : A) (s t v : Walk) → i < length xs
    → t ≡ with_ops s (map f (take i xs)) → v ≡ with_ops t (f (get_or xs i d) ∷ []) → v ≡ with_ops s (map f (take (i + 1) xs))
map_turn f xs i d s t v h a c = part s t v (map f (take i xs)) (f (get_or xs i d) ∷ []) a c ∙ ap (with_ops s) (sym (map_more f xs i d h))

-- ---- conditions

two : (f : Opd → List Op) (t u : Opd) (x y : Bool) → (if x then [] else f t) ++ (if y then [] else f u)
    ≡ flat_map f ((if x then [] else t ∷ []) ++ (if y then [] else u ∷ []))
two f t u true true = refl
two f t u true false = sym (append-nil (f u))
two f t u false true = refl
two f t u false false = ap (λ l. f t ++ l) (sym (append-nil (f u)))

-- both conditions, each unless the code has it
pub both : (f : Opd → List Op) (t u : Opd) (x y p q : Bool) (w v z : Walk) → p ≡ x → q ≡ y → v ≡ with_ops w (if p then [] else f t)
    → z ≡ with_ops v (if q then [] else f u) → z ≡ with_ops w (flat_map f ((if x then [] else t ∷ []) ++ (if y then [] else u ∷ [])))
both f t u x y p q w v z e1 e2 a b =
    part w v z (if x then [] else f t) (if y then [] else f u) (a ∙ ap (λ (k : Bool). with_ops w (if k then [] else f t)) e1)
    (b ∙ ap (λ (k : Bool). with_ops v (if k then [] else f u)) e2) ∙ ap (with_ops w) (two f t u x y)
