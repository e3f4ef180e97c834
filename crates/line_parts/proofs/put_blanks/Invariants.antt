use Rattle.std.proofs.Common.{◌≡◌, ◌++◌, ◌∷◌, flat_map, take}
use Rattle.std.specs.Prelude.{decimal}
use Rattle.line_parts.proofs.put_blanks.Given as goal

abbrev pub invariant-numbers : goal.invariant-numbers
invariant-numbers l = l.out ≡ l.initial.out ++ flat_map (λ k. 32 ∷ decimal k) (take l.n-index l.numbers)
