-- A store that has no memory yet.
use Rattle.am_base.specs.declared.limits.TheConstants.{PAGE_BYTES}
use Rattle.shared_pages.specs.Size.{memory_pages}
use Rattle.std.proofs.Common.{◌≡◌, ℕ, zero, suc, ◌+◌, ◌*◌, ◌^◌, ◌<◌, ◌≤◌, List, [], ◌∷◌, None, length, get_or, arith, refl}
use Rattle.std.proofs.Common.{false}
use Rattle.std.specs.Prelude.{nat_lt, ◌&&◌}
use Rattle.std.proofs.lemmas.Bool.Decides.{nat_tests}
use Rattle.shared_pages.specs.Counts.{Names, different}
use Rattle.shared_pages.specs.Store.{IsStore, seen, memory}
use Rattle.shared_pages.proofs.Kept.{none_when}

one_slot : (k : ℕ) → 0 < k → ◌≡◌ {A = ℕ} (get_or (1 ∷ []) k 0) 0
one_slot zero h = absurd (omega (arith, h))
one_slot (suc k) h = refl

pub new_store : (names : Names) (bs : List ℕ) → memory_pages ≤ length names.entries → length names.entries < 2 ^ 32 → ((j : ℕ)
    → get_or names.entries j 0 ≡ 0) → names.limit ≡ 1 → different names.entries ≡ 0
    → PAGE_BYTES ≤ length bs → ((o : ℕ) → get_or bs o 0 ≡ 0) → IsStore (1 ∷ []) names bs 1
new_store names bs row few empty limit used page clear = record {
  tables = omega (arith, row);
  few = few;
  pages = omega (arith, limit, page);
  room = page;
  zero = λ o low. clear o;
  dead = λ k i none low. empty (k * memory_pages + i);
  once = λ k other. let z = one_slot k other in omega (arith, z);
  apart = λ k i j low lower full e. absurd (full (empty (k * memory_pages + i)));
  most = omega (arith, used);
}

pub no_memory : (names : Names) (bs : List ℕ) (p k : ℕ) → memory (seen (1 ∷ []) names bs p) k ≡ None
no_memory names bs p zero = none_when (1 ∷ []) names.entries bs zero refl
no_memory names bs p (suc k) = none_when (1 ∷ []) names.entries bs (suc k) (dead (suc k))
  where
    dead : (n : ℕ) → (nat_lt 0 n && false) ≡ false
    dead n = grind (arith, nat_tests)
