use Rattle.std.proofs.Common.{◌≡◌, ℕ, List, [], ◌∷◌, refl, ◌∙◌}
use Rattle.traces.specs.View.{IsKnown}
use Rattle.exec_machine.specs.Toy.{toy_meanings}
use Rattle.exec_machine.proofs.Numbers.{other_number, in_none}
use Rattle.exec_machine.proofs.toy.tests.readies_applies_and_forks.Goals as goal

-- variant 1 makes the change 1 at the start of the gains 1, 8, 2
first_change : (gains : List ℕ) (s : ℕ × ℕ) → gains ≡ 1 ∷ 8 ∷ 2 ∷ [] → s ≡ (0, 0) → IsKnown (toy_meanings gains) s 1
first_change gains s e f = rw (e, f) (record { variant = 1; knows = refl; is = refl })

pub ready-requires-clause-known : goal.ready-requires-clause-known
ready-requires-clause-known g c =
    first_change _ _ (c.start.ensures.keeps.stays ∙ c.in_ok-toy.ensures.gains ∙ c.in_ok-to_vec.ensures.items_if_clones_equal (λ x y e. e))
    (rw c.expect-s.ensures at c.start.ensures.state)

pub release-requires-2 : goal.release-requires-2
release-requires-2 g c =
    let was = c.apply.ensures.out in
    c.release.ensures.keeps.out c.apply.new.s (c.fork.ensures.keeps.out c.apply.new.s was (in_none _))
    (other_number _ _ _ _ c.fork.new.self.distinct (rw c.expect-t.ensures at c.fork.ensures.out_numbers) was.0)
