-- The machine that writes: a state is the list of the numbers written so far.
--     last_of ws         the number written last, and 0 where there is none
--     tape_next v last   the number that variant v writes behind this one
--     tape_meanings len  what the machine does
use Rattle.std.specs.Prelude.{ℕ, true, List, [], ◌∷◌, ◌++◌, length, slice_index, ◌+◌, ◌-◌, ◌%◌, ◌==◌, nat_eq}
use Rattle.traces.specs.Meanings.{Meanings}

abbrev pub last_of : List ℕ → ℕ
last_of ws = slice_index ws (length ws - 1)

abbrev pub tape_next : ℕ → ℕ → ℕ
tape_next v last = (last % 8 + v) % 8

abbrev pub tape_meanings : ℕ → Meanings (List ℕ) ℕ
tape_meanings len = record {
  place = λ ws. length ws;
  ended = λ ws. length ws == len;
  knows = λ place v. true;
  next = λ v ws. tape_next v (last_of ws);
  after = λ ws change. ws ++ change ∷ [];
  weight = λ change. 1;
  toll = λ port v ws. 0;
  same = nat_eq;
}
