-- What the makers make of an instruction whose parts read back has parts that read back.
use Rattle.std.proofs.Common.{◌≡◌, ℕ, zero, suc, ◌+◌, List, [], ◌∷◌, map, refl, sym, ap, ◌∙◌, subst, arith}
use Rattle.std.proofs.Common.{Some, None, slice_get, slice_set, ◌==◌, if◌then◌else◌}
use Rattle.std.specs.List.{flat_map}
use Rattle.code_form.specs.declared.instr.Operand.{Operand}
use Rattle.code_form.specs.declared.instr.Operand.TheVariants.{Word}
use Rattle.ir_tree.specs.declared.name.Name.{Name}
use Rattle.ir_tree.specs.declared.type_text.TyText.{TyText}
use Rattle.ir_tree.specs.declared.operand.Opd.{Opd}
use Rattle.ir_tree.specs.declared.operand.Opd.TheVariants as opd
use Rattle.ir_tree.specs.declared.op.Op.{Op}
use Rattle.ir_tree.specs.declared.op.Op.TheVariants as op
use Rattle.ir_rules.specs.Types.{Kinds}
use Rattle.ir_rules.specs.Parts.{Typed}
use Rattle.ir_rules.specs.Settings.{Setting}
use Rattle.ir_rules.specs.Memory.{Addresses}
use Rattle.ir_rules.specs.Codes.{op_code, typed_code, block_code}
use Rattle.ir_text.specs.ReadBack.{PartsReadBack, OperandReadsBack, TypedReadsBack, EachOf, IsWide}
use Rattle.ir_text.proofs.PartsBack.{number-reads, true-reads, false-reads}
use Rattle.ir_sound.proofs.Lists.{Each, each-weaker, each-append, map-each}
use Rattle.mutant_maker.specs.Makers.{operations, same_operation, predicates, same_predicate, new_numbers, with_argument, constants_from, same_operand}
use Rattle.mutant_maker.specs.Makers.{new_conditions, with_condition, replacements_of}
use Rattle.mutant_maker_laws.proofs.Kept.{flat-each}
use Rattle.mutant_maker_laws.proofs.NewWords.{new-wide}
use Rattle.mutant_maker_laws.proofs.Fitting.{unless-each, others-each, argument-is, StandAt}

numbers-read : (kind : Kinds) (t : TyText) (x : Opd) (f : Opd → Op) → ((b : Opd) → OperandReadsBack b → PartsReadBack (f b))
    → Each PartsReadBack (map (λ z. f (opd.Number z)) (new_numbers (kind t) x))
numbers-read kind t x f h = map-each PartsReadBack (λ z. f (opd.Number z)) _ (each-weaker IsWide _ (λ z w. h (opd.Number z) (number-reads z w)) _ (new-wide (kind t) x))

flags-read : (o : Op) (d : Operand) (f : Opd → Op) → ((j : Opd) → with_condition o j ≡ f j ∷ []) → ((b : Opd) → OperandReadsBack b → PartsReadBack (f b))
    → Each PartsReadBack (flat_map (with_condition o) (new_conditions d))
flags-read o d f e h = flat-each PartsReadBack (with_condition o) (new_conditions d) (
    each-append (λ j. Each PartsReadBack (with_condition o j)) (if same_operand d (Word 1) then [] else opd.True ∷ []) _
    (unless-each _ (same_operand d (Word 1)) opd.True (λ _. subst (Each PartsReadBack) (sym (e opd.True)) (h opd.True true-reads, tt)))
    (unless-each _ (same_operand d (Word 0)) opd.False (λ _. subst (Each PartsReadBack) (sym (e opd.False)) (h opd.False false-reads, tt)))
    )

set-of : {X : Type 0} (P : X → Type 0) (xs : List X) (k : ℕ) (y : X) → EachOf P xs → P y → EachOf P (slice_set xs k y)
set-of P [] k y h g = tt
set-of P (x ∷ xs) zero y h g = (g, h.1)
set-of P (x ∷ xs) (suc k) y h g = (h.0, set-of P xs k y h.1 g)

of-at : {X : Type 0} (P : X → Type 0) (xs : List X) (k : ℕ) (x : X) → EachOf P xs → slice_get xs k ≡ Some x → P x
of-at P [] k x h e = cc
of-at P (y ∷ xs) zero x h e = let same : y ≡ x = cc in subst P same h.0
of-at P (y ∷ xs) (suc k) x h e = of-at P xs k x h.1 e

arguments-read : (kind : Kinds) (t : TyText) (f : Name) (xs : List Typed) → PartsReadBack (op.Call t f xs) → (k : ℕ) (vs : List Typed) → StandAt xs k vs
    → Each PartsReadBack (constants_from kind (op.Call t f xs) k vs)
arguments-read kind t f xs h k [] there = tt
arguments-read kind t f xs (ht, hf, hx) k (v ∷ vs) there =
    let here : slice_get xs k ≡ Some v = ap (slice_get xs) (omega arith) ∙ there 0 v refl in
    let typed = of-at TypedReadsBack xs k v hx here in
    let Q : List Typed → Type 0 = λ ys. PartsReadBack (op.Call t f ys) in
    each-append PartsReadBack _ _
    (numbers-read kind v.0 v.1 (λ b. op.Call t f (with_argument xs k b))
    (λ b g. subst Q (sym (argument-is xs k v b here)) (ht, hf, set-of TypedReadsBack xs k (v.0, b) hx (typed.0, g))))
    (arguments-read kind t f xs (ht, hf, hx) (k + 1) vs (λ j u e. ap (slice_get xs) (omega arith) ∙ there (suc j) u e))

module _ (s : Setting) (a : Addresses) where
  pub all-read : (o : Op) → PartsReadBack o → Each PartsReadBack (replacements_of s.kind (op_code s a o) o)
  all-read (op.Bin b t x y) (k, h, g) = each-append PartsReadBack _ _
      (others-each PartsReadBack (same_operation b) (λ c. op.Bin c t x y) (λ c _. (k, h, g)) operations)
      (each-append PartsReadBack _ _ (each-append PartsReadBack _ _ (numbers-read s.kind t x (λ d. op.Bin b t d y) (λ d r. (k, r, g)))
      (each-append PartsReadBack _ [] (numbers-read s.kind t y (λ d. op.Bin b t x d) (λ d r. (k, h, r))) tt))
      (each-append PartsReadBack _ [] (unless-each PartsReadBack (same_operand (typed_code s a t x) (typed_code s a t y)) (op.Bin b t y x) (λ _. (k, g, h))) tt))
  all-read (op.Cmp p t x y) (k, h, g) = each-append PartsReadBack _ _
      (others-each PartsReadBack (same_predicate p) (λ c. op.Cmp c t x y) (λ c _. (k, h, g)) predicates)
      (each-append PartsReadBack _ _ (each-append PartsReadBack _ _ (numbers-read s.kind t x (λ d. op.Cmp p t d y) (λ d r. (k, r, g)))
      (each-append PartsReadBack _ [] (numbers-read s.kind t y (λ d. op.Cmp p t x d) (λ d r. (k, h, r))) tt))
      (each-append PartsReadBack _ [] (unless-each PartsReadBack (same_operand (typed_code s a t x) (typed_code s a t y)) (op.Cmp p t y x) (λ _. (k, g, h))) tt))
  all-read (op.Select c i t x u y) (k, h, g) =
      each-append PartsReadBack _ _ (each-append PartsReadBack _ _ (numbers-read s.kind t x (λ d. op.Select c i t d u y) (λ d r. (k, (h.0, r), g)))
      (each-append PartsReadBack _ [] (numbers-read s.kind u y (λ d. op.Select c i t x u d) (λ d r. (k, h, (g.0, r)))) tt))
      (each-append PartsReadBack _ _
      (unless-each PartsReadBack (same_operand (typed_code s a t x) (typed_code s a u y)) (op.Select c i u y t x) (λ _. (k, g, h)))
      (flags-read (op.Select c i t x u y) (typed_code s a c i) (λ j. op.Select c j t x u y) (λ j. refl) (λ j r. ((k.0, r), h, g))))
  all-read (op.Cast c t x to) h = tt
  all-read (op.Freeze t x) h = tt
  all-read (op.Alloca t n) h = tt
  all-read (op.Load t u x) h = tt
  all-read (op.Store t x u y) (h, g) =
      each-append PartsReadBack _ [] (each-append PartsReadBack _ [] (numbers-read s.kind t x (λ d. op.Store t d u y) (λ d r. ((h.0, r), g))) tt) tt
  all-read (op.Get of t x is) h = tt
  all-read (op.Phi t es) h = tt
  all-read (op.Call t f xs) h = each-append PartsReadBack _ [] (arguments-read s.kind t f xs h 0 xs (λ j v e. ap (slice_get xs) (omega arith) ∙ e)) tt
  all-read (op.Jump n) h = tt
  all-read (op.Branch t c m n) (k, h, g) = each-append PartsReadBack _ _
      (unless-each PartsReadBack (block_code s m == block_code s n) (op.Branch t c n m) (λ _. (k, g, h)))
      (flags-read (op.Branch t c m n) (typed_code s a t c) (λ j. op.Branch t j m n) (λ j. refl) (λ j r. ((k.0, r), h, g)))
  all-read (op.Switch t x n cs) h = tt
  all-read (op.Ret None) h = tt
  all-read (op.Ret (Some v)) h =
      each-append PartsReadBack _ [] (each-append PartsReadBack _ [] (numbers-read s.kind v.0 v.1 (λ d. op.Ret (Some (v.0, d))) (λ d r. (h.0, r))) tt) tt
  all-read op.Unreachable h = tt
