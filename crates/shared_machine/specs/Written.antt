-- A store in which bytes of one memory were written.
use Rattle.std.specs.Prelude.{◌≡◌, ◌≢◌, ℕ, List}
use Rattle.machine_form.specs.State.{with_bytes}
use Rattle.shared_pages.specs.Store.{Store, IsIn, memory, the_memory, is_own}

-- the bytes of a memory were written, in order; no other memory changed, and no page has another owner
pub record AreWritten (old new : Store) (m : ℕ) (writes : List (ℕ × ℕ)) : Type 0 where
  pub alive : IsIn new m
  pub bytes : (the_memory new m).bytes ≡ with_bytes (the_memory old m).bytes writes
  pub others : (k : ℕ) → k ≢ m → memory new k ≡ memory old k
  pub own : (k i : ℕ) → is_own new k i ≡ is_own old k i
  pub peak : new.peak ≡ old.peak
