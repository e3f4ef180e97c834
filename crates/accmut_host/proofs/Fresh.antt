-- The counts of four ports that were never asked.
use Rattle.std.proofs.Common.{arith, ◌≡◌, ℕ, zero, suc, ◌≤◌, ◌^◌, List, [], ◌∷◌}
use Rattle.ports.specs.Asks.{asked_in}

zeros_few : (p : ℕ) → asked_in (0 ∷ 0 ∷ 0 ∷ 0 ∷ []) p ≤ 2 ^ 62
zeros_few zero = omega arith
zeros_few (suc zero) = omega arith
zeros_few (suc (suc zero)) = omega arith
zeros_few (suc (suc (suc zero))) = omega arith
zeros_few (suc (suc (suc (suc p)))) = omega arith

pub four_fresh : {a b c d : ℕ} (all : List ℕ) → all ≡ a ∷ b ∷ c ∷ d ∷ [] → a ≡ 0 → b ≡ 0 → c ≡ 0 → d ≡ 0 → (p : ℕ) → asked_in all p ≤ 2 ^ 62
four_fresh all is first second third fourth = rw is (rw first (rw second (rw third (rw fourth zeros_few))))
