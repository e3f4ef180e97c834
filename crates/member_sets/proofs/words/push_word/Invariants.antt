use Rattle.std.proofs.Common.{◌≡◌, ℕ, ◌+◌, ◌/◌, ◌^◌, ◌≤◌, ◌++◌, map}
use Rattle.member_sets.specs.Planes.{bits_below}
use Rattle.member_sets.proofs.words.push_word.Given as goal

abbrev pub invariant-bits : goal.invariant-bits
invariant-bits l = record {
  small : l.at ≤ 64;
  rest : l.rest ≡ l.word / 2 ^ l.at;
  done : l.list.items ≡ l.fn.list.items ++ map (λ k. l.base + k) (bits_below l.at l.word);
}

abbrev pub decreases-bits : goal.decreases-bits
decreases-bits l = l.rest
