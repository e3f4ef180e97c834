-- The blocks of a function, one after another.
use Rattle.std.proofs.Common.{◌≡◌, ℕ, zero, suc, ◌+◌, ◌-◌, ◌<◌, List, [], ◌∷◌, length, get_or, drop, refl, arith}
use Rattle.ir_rules.specs.Modules.{blocks_from}

pub block-step : (at : ℕ) (starts : List ℕ) (count b : ℕ) → b < length starts
    → blocks_from at (drop b starts) count ≡ record { first = at + get_or starts b 0; len = get_or starts (suc b) count - get_or starts b 0 }
    ∷ blocks_from at (drop (suc b) starts) count
block-step at [] count b l = absurd (omega arith)
block-step at (start ∷ []) count zero l = refl
block-step at (start ∷ next ∷ more) count zero l = refl
block-step at (start ∷ starts) count (suc b) l = block-step at starts count b (omega arith)
