use Rattle.std.proofs.Common.{◌≡◌, map, take}
use Rattle.exec_tests.specs.Tape.{tape_next}
use Rattle.exec_tests.proofs.tape.push_changes.Given as goal

abbrev pub invariant-loop-v : goal.invariant-loop-v
invariant-loop-v l = l.out.items ≡ map (λ v. tape_next v l.last) (take l.v-index l.variants)
