use Rattle.std.proofs.Common.{◌∙◌, ℕ, ◌+◌, ◌<◌, List, ap, length, slice_index, slice_index_or, subst, sym, inl, inr, ⊎_elim}
use Rattle.std.specs.List.{Contains, flat_map}
use Rattle.std.proofs.lemmas.List.{take_all}
use Rattle.std.proofs.lemmas.List.Elements.{Contains-get_or}
use Rattle.std.proofs.lemmas.List.Sorted.{Contains-permutation, IsPermutation-sym}
use Rattle.traces.specs.Together.{below}
use Rattle.traces.proofs.Below.{below_below, has_below}
use Rattle.shared_analysis.specs.Ended.{IsClassOf}
use Rattle.shared_analysis.specs.declared.ended.Ended.{Ended}
use Rattle.shared_analysis.proofs.NumberLemmas.{member_in, class_more}
use Rattle.shared_analysis.proofs.numbers.numbers_of.Goals as goal

pub put_number-requires : goal.put_number-requires
put_number-requires c =
    let f : Ended → List ℕ = λ e. e.members in
    let i = c.loop-class.class-index in let x = c.class-item.result in
    let inside : (m : ℕ) → Contains x.members m → m < length c.loop-class.numbers.items = λ m h. subst (λ n. m < n) (sym c.loop-class.invariant.size)
    (below_below c.args.mutants m (Contains-permutation (flat_map f c.args.classes.now) (below c.args.mutants) m (IsPermutation-sym _ _ c.requires.once)
    (member_in f c.args.classes.now i x m c.loop-class-test.true (subst (λ y. Contains (f y) m) c.class-item.is h)))) in
    record { within = λ k d l. inside _ (subst (λ ys. Contains ys (slice_index_or c.as_slice.result.now k d)) c.as_slice.ensures (Contains-get_or c.as_slice.result.now k d l)) }

pub loop-class-preserved : goal.loop-class-preserved
loop-class-preserved c =
    let inv = c.loop-class.invariant in let i = c.loop-class.class-index in let x = c.class-item.result in
    let new = c.put_number.new.table.items in record {
      number = ap (λ n. n + 1) inv.number;
      size = c.put_number.ensures.size ∙ inv.size;
      each = class_more c.args.classes.now i x c.loop-class-test.true c.class-item.is c.loop-class.numbers.items new
          (λ m h. c.put_number.ensures.put m (subst (λ ys. Contains ys m) (sym c.as_slice.ensures) h) ∙ inv.number)
          (λ m. ⊎_elim (λ b. inl (subst (λ ys. Contains ys m) c.as_slice.ensures b.0, b.1 ∙ inv.number)) (λ e. inr e) (c.put_number.ensures.kept m))
          inv.each;
    }

pub returns-clause-each : goal.returns-clause-each
returns-clause-each c = λ m l.
    let f : Ended → List ℕ = λ e. e.members in
    subst (λ ns. IsClassOf c.args.classes.now m (slice_index ns m)) (sym c.from_vec.ensures) (c.loop-class.invariant.each m (subst (λ ys. Contains (flat_map f ys) m) (sym (take_all c.loop-class.class-index c.args.classes.now c.loop-class-test.false))
    (Contains-permutation (below c.args.mutants) (flat_map f c.args.classes.now) m c.requires.once (has_below c.args.mutants m l))))
