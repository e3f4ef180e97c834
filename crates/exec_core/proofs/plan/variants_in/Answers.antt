use Rattle.std.proofs.Common.{◌≡◌, ℕ, length, arith, refl, ap, ◌∙◌, subst}
use Rattle.std.specs.List.{filter}
use Rattle.std.proofs.lemmas.List.{take_all}
use Rattle.code_form.specs.Variant.{variant_of}
use Rattle.exec_machine.proofs.Numbers.{distinct_none}
use Rattle.member_sets.specs.Members.{is_class_leader}
use Rattle.exec_core.specs.ClassTable.{IsAt}
use Rattle.member_sets.proofs.Marked.{none_marked}
use Rattle.exec_core.proofs.TriedLemmas.{few_taken, at_first, at_end}
use Rattle.exec_core.proofs.plan.variants_in.Goals as goal

pub loop-m-init : goal.loop-m-init
loop-m-init c = record {
  variants = c.clear.ensures.items;
  distinct = rw c.clear.ensures.items distinct_none;
  marked = rw c.clear.ensures.items (none_marked c.args.marks.now.items);
  at = at_first (λ m. variant_of c.args.table.now m c.args.place.0) c.args.members.now c.mutants_at-touched.result.now c.requires
      c.mutants_at-touched.ensures.rising (λ m. (c.mutants_at-touched.ensures.exact m).1);
}

pub visit-requires-clause-few : goal.visit-requires-clause-few
visit-requires-clause-few c =
    let v : ℕ → ℕ = λ m. variant_of c.args.table.now m c.args.place.0 in let ms = c.args.members.now in
    let few = few_taken v (is_class_leader v ms) ms c.loop-m.at in
    omega (arith, few, ap length c.loop-m.invariant.variants, c.requires.few)

pub add_originals-requires-clause-few : goal.add_originals-requires-clause-few
add_originals-requires-clause-few c =
    let v : ℕ → ℕ = λ m. variant_of c.args.table.now m c.args.place.0 in let ms = c.args.members.now in
    let few = few_taken v (is_class_leader v ms) ms c.loop-m.at in
    omega (arith, few, ap length c.loop-m.invariant.variants, c.requires.few)

pub loop-m-preserved : goal.loop-m-preserved
loop-m-preserved c =
    let v : ℕ → ℕ = λ m. variant_of c.args.table.now m c.args.place.0 in let i = c.loop-m.invariant in
    let n = c.in_ok-at.ensures.next v c.mutants_at-touched.result.now c.loop-m.m-index c.mutants_at-touched.ensures.rising c.loop-m-test.true refl
    c.variant-variant.ensures.number i.at i.variants in
    record { variants = n.1; distinct = c.in_ok-at.ensures.distinct; marked = c.in_ok-at.ensures.marked; at = n.0 }

pub returns-clause-variants : goal.returns-clause-variants
returns-clause-variants c =
    let v : ℕ → ℕ = λ m. variant_of c.args.table.now m c.args.place.0 in let ms = c.args.members.now in let i = c.loop-m.invariant in
    let touched = c.mutants_at-touched.result.now in
    let all : c.loop-m.m-index ≡ length touched = omega (arith, c.loop-m-test.false, c.loop-m.auto.m-index-end) in
    let at = subst (λ n. IsAt v ms touched n c.loop-m.at) all i.at in
    let end = c.len.result in let whole = c.len.ensures.value in
    c.in_ok-add_originals.ensures.variants v ms c.requires (omega (arith, at.within, whole)) (omega (arith, whole))
    (λ k a b. at_end v ms touched c.requires c.mutants_at-touched.ensures.rising c.loop-m.at at k a (omega (arith, b, whole))) i.variants
    ∙ ap (λ xs. Rattle.std.proofs.Common.map v (filter (is_class_leader v ms) xs)) (take_all end ms (omega (arith, whole)))
