use Rattle.std.proofs.Common.{◌≡◌, ℕ, ◌<◌, ◌≤◌, Bool, true, false, get_or, List, length, arith, sym, ◌∙◌, below_more}
use Rattle.std.specs.List.{position_or_len}
use Rattle.std.proofs.lemmas.List.Sums.{position_or_len_is}
use Rattle.change_classes.proofs.Told.{told, at_place}
use Rattle.change_classes.proofs.first.first_number.Goals as goal

first_at : {A : Type 0} (test : A → Bool) (items : List A) (number i : ℕ) (item : A) → number ≡ i → i ≤ length items
    → ((k : ℕ) → k < i → test (get_or items k item) ≡ false) → (i < length items → test (get_or items i item) ≡ true) → number ≡ position_or_len test items
first_at test items number i item e l none some = e ∙ sym (position_or_len_is test items i item l none some)

pub loop-other-preserved : goal.loop-other-preserved
loop-other-preserved g c = record {
  number = omega (arith, c.loop-other.invariant.number);
  none = λ equal acts. below_more _ _ (c.loop-other.invariant.none equal acts)
      (at_place (λ other. equal other c.args.item.now) c.args.items.now _ _ _ _ _ c.loop-other-test.true c.other-item.is
      (told g.F.Fn c.args.same.now _ _ _ ((g.met.F.FnMut.1.post_iff _ _ _).0 c.same.ensures) equal acts) c.if-same.false);
}

pub returns-then-same : goal.returns-then-same
returns-then-same g c = λ equal acts.
    first_at (λ other. equal other c.args.item.now) c.args.items.now _ _ c.args.item.now c.loop-other.invariant.number c.loop-other.auto.other-index-end
    (c.loop-other.invariant.none equal acts)
    (λ l. at_place (λ other. equal other c.args.item.now) c.args.items.now _ _ _ _ _ l c.other-item.is
    (told g.F.Fn c.args.same.now _ _ _ ((g.met.F.FnMut.1.post_iff _ _ _).0 c.same.ensures) equal acts) c.if-same.true)

pub returns : goal.returns
returns g c = λ equal acts.
    first_at (λ other. equal other c.args.item.now) c.args.items.now _ _ c.args.item.now c.loop-other.invariant.number c.loop-other.auto.other-index-end
    (c.loop-other.invariant.none equal acts) (λ l. absurd (omega (arith, c.loop-other-test.false)))
