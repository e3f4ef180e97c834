-- What contracts see of the machine that writes.
--     len_of         how many numbers it writes
--     tape_counts    what it has counted
--     tape_view      what contracts see of any machine; it stays where it writes as many numbers
--     tape_lawful    the laws of that view
use Rattle.std.specs.Prelude.{◌≡◌, ℕ, ◌<◌, ◌≤◌, List, length, vec_len, vec_capacity}
use Rattle.std.proofs.Common.{refl, ◌∙◌}
use Rattle.std.specs.List.{Contains}
use Rattle.traces.specs.Counts.{Counts}
use Rattle.traces.specs.View.{View, IsLawful}
use Rattle.exec_tests.specs.Tape.{tape_meanings}
use Rattle.exec_tests.specs.TapeLaws.{tape_same, tape_light}
use Rattle.exec_tests.specs.declared.tape.Tape.{Tape}
use Rattle.exec_tests.specs.declared.tape.TapeState.{TapeState}

abbrev pub len_of : Tape → ℕ
len_of m = m.len

abbrev pub tape_counts : Tape → Counts
tape_counts m = record { tried = m.tried; applied = m.applied; weighed = m.applied; readied = m.readied; asks = λ port. 0 }

abbrev pub tape_view : View Tape TapeState (List ℕ) ℕ
tape_view = record {
  meanings = λ m. tape_meanings (len_of m);
  stands = λ m s. s.written.items;
  number = λ s. s.number;
  out_numbers = λ m. m.out.items;
  is_out = λ m s. Contains m.out.items s.number × (length s.written.items ≤ len_of m);
  is_ready = λ m s change. vec_len s.written < vec_capacity s.written;
  counts = tape_counts;
  stays = λ m n. len_of n ≡ len_of m;
}

pub tape_lawful : IsLawful tape_view
tape_lawful = record {
  among = λ m s h. h.0;
  distinct = λ m. m.distinct;
  same = λ m. tape_same (len_of m);
  light = λ m. tape_light (len_of m);
  stays_refl = λ m. refl;
  stays_trans = λ m n o p q. q ∙ p;
}
