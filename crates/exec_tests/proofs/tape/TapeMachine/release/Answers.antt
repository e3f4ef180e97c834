use Rattle.std.proofs.Common.{◌∷◌, refl, lit<, sym}
use Rattle.std.specs.List.Sorted.{IsPermutation}
use Rattle.exec_machine.proofs.Numbers.{removed, distinct_rest, below_rest, contains_rest}
use Rattle.exec_tests.proofs.tape.TapeMachine.release.Goals as goal

-- the number that is taken out is the one that the state had
moved : (c : goal.After-remove) → IsPermutation c.args.self.now.out.items (c.args.s.number ∷ c.remove.new.self.items)
moved c = rw c.remove.ensures.items (removed _ c.args.self.now.out.items _ _ c.deref.ensures.value c.place_of-at.ensures.in_range c.place_of-at.ensures.found)

pub invariant_of-self : goal.invariant_of-self
invariant_of-self c = record {
  short = c.args.self.now.short;
  below = below_rest _ _ _ _ (moved c) c.args.self.now.below;
  distinct = distinct_rest _ _ _ (moved c) c.args.self.now.distinct;
}

pub returns-clause-out_numbers : goal.returns-clause-out_numbers
returns-clause-out_numbers c =
    rw c.remove.ensures.items (removed _ c.args.self.now.out.items _ _ c.deref.ensures.value c.place_of-at.ensures.in_range c.place_of-at.ensures.found)

pub returns-clause-keeps : goal.returns-clause-keeps
returns-clause-keeps c = record {
  meanings = refl;
  stays = refl;
  out = λ t h ne. (
    contains_rest _ _ _ _
        (rw c.remove.ensures.items (removed _ c.args.self.now.out.items _ _ c.deref.ensures.value c.place_of-at.ensures.in_range c.place_of-at.ensures.found))
        h.0
        (λ e. ne (0, lit< tt, sym e)),
    h.1,
  );
  stands = λ t h ne. refl;
}
