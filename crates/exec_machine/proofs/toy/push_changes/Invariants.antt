use Rattle.std.proofs.Common.{◌≡◌, map, take}
use Rattle.exec_machine.specs.Toy.{toy_change}
use Rattle.exec_machine.proofs.toy.push_changes.Given as goal

abbrev pub invariant-loop-v : goal.invariant-loop-v
invariant-loop-v l = l.out.items ≡ map (λ v. toy_change l.gain v l.value) (take l.v-index l.variants)
