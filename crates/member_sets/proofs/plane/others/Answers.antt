use Rattle.std.proofs.Common.{◌≡◌, ◌≢◌, ℕ, ◌+◌, ◌<◌, ◌≤◌, Bool, true, false, ◌&&◌, ◌||◌, ◌==◌, not, List, length, take, slice_index, sym, ap, ◌∙◌, subst, arith, refl, ⊎_elim}
use Rattle.std.specs.List.{Contains, list_any}
use Rattle.std.proofs.lemmas.Bool.{eqb-true, eq-eqb, ne_eqb, not_from_true, not_from_false, cases_eq}
use Rattle.std.proofs.lemmas.List.{take_all}
use Rattle.traces.proofs.Bools.{on_bool}
use Rattle.traces.proofs.Turns.{any_from}
use Rattle.code_form.specs.Variant.{variant_of}
use Rattle.member_sets.specs.Members.{class_at}
use Rattle.member_sets.specs.Planes.{has_bit}
use Rattle.member_sets.proofs.Bits.{no_bit_of_zeros, zeros_at, any_taken}
use Rattle.member_sets.proofs.Kernels.{mask_more, mask_left}
use Rattle.member_sets.proofs.plane.others.Goals as goal
use Rattle.member_sets.proofs.plane.others.Goals.{then-variant-class_of+then-class_of-variant, else-variant-class_of, else-variant-class_of-via-then-variant-class_of+else-class_of-variant, else-variant-class_of-via-else-variant-class_of}

pub loop-m-init : goal.loop-m-init
loop-m-init c = record {
  size = omega (arith, c.in_ok-mask.ensures.len);
  bits = λ n l h v. no_bit_of_zeros c.args.first c.in_ok-mask.mask.items n
      (λ k. ap (λ xs. slice_index xs k) (c.in_ok-mask.ensures.items_if_clones_equal (λ y e. e)) ∙ zeros_at c.args.words k);
}

-- a mutant is put, or isn't
module _ (class : ℕ → ℕ) (home : ℕ) (touched : List ℕ) (i : ℕ) (l : i < length touched) (n : ℕ) where
  abbrev here : ℕ
  here = slice_index touched i

  abbrev away : Bool
  away = not (class n == home)

  abbrev any : ℕ → Bool
  any k = list_any (λ j. j == n) (take k touched)

  with_it : class here ≢ home → (has old : Bool) → has ≡ (old || (n == here)) → old ≡ (any i && away) → has ≡ (any (i + 1) && away)
  with_it ne has old e f =
      e ∙ ap (λ b. b || (n == here)) f ∙ mask_more (any i) away (n == here) (λ t. not_from_false _ (ne_eqb _ _ (λ q. ne (sym (ap class (eqb-true _ _ t)) ∙ q))))
      ∙ ap (λ b. b && away) (sym (any_taken n touched i l))

  without : (n ≡ here → class n ≡ home) → (old : Bool) → old ≡ (any i && away) → old ≡ (any (i + 1) && away)
  without h old f =
      f ∙ mask_left (any i) away (n == here) (λ t. not_from_true _ (eq-eqb _ _ (h (eqb-true _ _ t))))
      ∙ ap (λ b. b && away) (sym (any_taken n touched i l))

pub loop-m-preserved : goal.loop-m-preserved
loop-m-preserved c =
    let class : ℕ → ℕ = class_at (variant_of c.args.table.now) c.args.place.0 c.args.class_of.now in let home : ℕ = slice_index c.args.class_of.now 0 in
    let inv = c.loop-m.invariant in let touched = c.mutants_at-touched.result.now in let at = c.loop-m.m-index in
    let number = c.variant-variant.ensures.number in
    elim c.if-variant-class_of.branch [
      | then-variant-class_of+then-class_of-variant w ↦ record {
        size = ap (λ v. length v.items) w.mask-is ∙ w.put.ensures.size ∙ inv.size;
        bits = λ n l h v. ap (λ m. has_bit c.args.first m.items n) w.mask-is ∙ with_it class home touched at c.loop-m-test.true n
            (λ e. w.if-class_of-variant.true (ap (slice_index c.args.class_of.now) number ∙ e)) _ _ (w.put.ensures.bits n l (omega (arith, h, inv.size))) (inv.bits n l h v);
      }
      | else-variant-class_of w ↦ record {
        size = ap (λ v. length v.items) w.mask-is ∙ inv.size;
        bits = λ n l h v. ap (λ m. has_bit c.args.first m.items n) w.mask-is ∙ without class home touched at c.loop-m-test.true n
            (λ e. elim w.else-variant-class_of.branch [
              | else-variant-class_of-via-then-variant-class_of+else-class_of-variant x ↦ ap class e ∙ ap (slice_index c.args.class_of.now) (sym number) ∙ x.if-class_of-variant.false
              | else-variant-class_of-via-else-variant-class_of x ↦ absurd (omega (arith, x.if-variant-class_of.false, v, number, ap (λ k. variant_of c.args.table.now k c.args.place.0) e))
            ]) _ (inv.bits n l h v);
      }
    ]

pub returns-clause-bits : goal.returns-clause-bits
returns-clause-bits c n l h v =
    let variant : ℕ = variant_of c.args.table.now n c.args.place.0 in let touched = c.mutants_at-touched.result.now in
    let home : ℕ = slice_index c.args.class_of.now 0 in let class : ℕ = slice_index c.args.class_of.now variant in
    let all = take_all c.loop-m.m-index touched c.loop-m-test.false in
    c.loop-m.invariant.bits n l h v ∙ ⊎_elim
    (λ (z : variant ≡ 0). let own : not (class == home) ≡ false = not_from_true _ (eq-eqb _ _ (ap (slice_index c.args.class_of.now) z)) in
    on_bool (list_any (λ k. k == n) (take c.loop-m.m-index touched)) (λ t. ap (λ b. b && not (class == home)) t)
    (λ f. ap (λ b. b && not (class == home)) f ∙ sym own))
    (λ (ne : variant ≡ 0 → ⊥). ap (λ b. b && not (class == home)) (ap (list_any (λ k. k == n)) all
    ∙ any_from (λ k. k == n) touched n ((c.mutants_at-touched.ensures.exact n).1 (omega arith)) (eq-eqb _ _ refl)))
    (cases_eq variant 0)
