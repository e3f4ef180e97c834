-- The laws of the toy machine's meanings.
use Rattle.std.specs.Prelude.{ℕ, List}
use Rattle.std.proofs.Common.{arith}
use Rattle.std.proofs.lemmas.Bool.Decides.{nat_tests}
use Rattle.traces.specs.Meanings.{IsSameTest, IsLight}
use Rattle.exec_machine.specs.Toy.{toy_meanings}

pub toy_same : (gains : List ℕ) → IsSameTest (toy_meanings gains)
toy_same gains = record { sound = λ c d h. grind (arith, nat_tests); complete = λ c. grind (arith, nat_tests) }

pub toy_light : (gains : List ℕ) → IsLight (toy_meanings gains)
toy_light gains = record { weight = λ v s e k. omega arith; toll = λ p v s e k. grind (arith, nat_tests) }
