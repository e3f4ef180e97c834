-- The laws of what the machine that writes does.
use Rattle.std.specs.Prelude.{ℕ}
use Rattle.std.proofs.Common.{arith}
use Rattle.std.proofs.lemmas.Bool.Decides.{nat_tests}
use Rattle.traces.specs.Meanings.{IsSameTest, IsLight}
use Rattle.exec_tests.specs.Tape.{tape_meanings}

pub tape_same : (len : ℕ) → IsSameTest (tape_meanings len)
tape_same len = record { sound = λ c d h. grind (arith, nat_tests); complete = λ c. grind (arith, nat_tests) }

pub tape_light : (len : ℕ) → IsLight (tape_meanings len)
tape_light len = record { weight = λ v s e k. omega arith; toll = λ p v s e k. omega arith }
