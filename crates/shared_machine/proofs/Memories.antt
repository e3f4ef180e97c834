-- A memory that is filled up with zeros.
use Rattle.std.proofs.Common.{◌≡◌, ℕ, ◌-◌, ◌≤◌, List, ◌++◌, length, replicate, take, refl}
use Rattle.std.proofs.Math.Seq.{take_all}
use Rattle.am_base.specs.declared.limits.TheConstants.{MEMORY_BYTES}
use Rattle.machine_form.specs.Start.{zeros}

pub filled : (k : ℕ) (xs ys : List ℕ) → k ≡ length xs → length xs ≤ MEMORY_BYTES → ys ≡ take MEMORY_BYTES xs ++ replicate (MEMORY_BYTES - k) 0
    → ys ≡ xs ++ zeros (MEMORY_BYTES - length xs)
unfolding zeros
filled k xs ys e h i = rw (i, e, take_all MEMORY_BYTES xs h) refl
