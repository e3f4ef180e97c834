-- What contracts see of the toy machine.
--     gains_of      its gains
--     toy_counts    what it has counted
--     toy_view      what contracts see of any machine; the toy stays where its gains are the same
--     toy_lawful    the laws of that view
use Rattle.std.specs.Prelude.{◌≡◌, ℕ, ◌≤◌, List, if◌then◌else◌, ◌==◌, length}
use Rattle.std.proofs.Common.{refl, ◌∙◌}
use Rattle.std.specs.List.{Contains}
use Rattle.traces.specs.Counts.{Counts}
use Rattle.traces.specs.View.{View, IsLawful}
use Rattle.exec_machine.specs.Toy.{toy_meanings}
use Rattle.exec_machine.specs.ToyLaws.{toy_same, toy_light}
use Rattle.exec_machine.specs.declared.toy.Toy.{Toy}
use Rattle.exec_machine.specs.declared.toy.ToyState.{ToyState}

abbrev pub gains_of : Toy → List ℕ
gains_of m = m.gains.items

abbrev pub toy_counts : Toy → Counts
toy_counts m = record { tried = m.tried; applied = m.applied; weighed = m.weighed; readied = m.readied; asks = λ port. if port == 0 then m.asked else 0 }

abbrev pub toy_view : View Toy ToyState (ℕ × ℕ) ℕ
toy_view = record {
  meanings = λ m. toy_meanings (gains_of m);
  stands = λ m s. (s.place, s.value);
  number = λ s. s.number;
  out_numbers = λ m. m.out.items;
  is_out = λ m s. Contains m.out.items s.number × (s.place ≤ length (gains_of m));
  is_ready = λ m s change. Unit {0};
  counts = toy_counts;
  stays = λ m n. gains_of n ≡ gains_of m;
}

pub toy_lawful : IsLawful toy_view
toy_lawful = record {
  among = λ m s h. h.0;
  distinct = λ m. m.distinct;
  same = λ m. toy_same (gains_of m);
  light = λ m. toy_light (gains_of m);
  stays_refl = λ m. refl;
  stays_trans = λ m n o p q. q ∙ p;
}
