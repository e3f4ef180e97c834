-- The toy machine: a state is a place and a number below 8.
--     toy_change gain v x    the change that variant v makes of x where the gain is this
--     toy_meanings gains     what the machine does
use Rattle.std.specs.Prelude.{ℕ, true, List, length, slice_index, ◌+◌, ◌*◌, ◌%◌, ◌==◌, if◌then◌else◌, nat_eq}
use Rattle.traces.specs.Meanings.{Meanings}

abbrev pub toy_change : ℕ → ℕ → ℕ → ℕ
toy_change gain v x = (x + v * gain) % 8

abbrev pub toy_meanings : List ℕ → Meanings (ℕ × ℕ) ℕ
toy_meanings gains = record {
  place = λ s. s.0;
  ended = λ s. s.0 == length gains;
  knows = λ place v. true;
  next = λ v s. toy_change (slice_index gains s.0) v s.1;
  after = λ s change. (s.0 + 1, change);
  weight = λ change. change;
  toll = λ port v s. if port == 0 then v % 2 else 0;
  same = nat_eq;
}
