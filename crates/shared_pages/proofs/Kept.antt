-- Memories that are as they were.
use Rattle.std.proofs.Common.{◌≡◌, ℕ, ◌<◌, List, Some, None, Bool, true, false, length, get_or, arith, ap, sym, ◌∙◌, inl, inr}
use Rattle.std.specs.Prelude.{if◌then◌else◌, nat_lt, ◌&&◌}
use Rattle.std.proofs.lemmas.Bool.{cases_lt, cases_Bool}
use Rattle.std.proofs.lemmas.Bool.Decides.{nat_tests}
use Rattle.shared_pages.specs.Counts.{Names}
use Rattle.shared_pages.specs.Store.{Memory, tabulate, is_live, memory_seen, memory_at, seen, memory}
use Rattle.shared_pages.proofs.Named.{below_nonzero}
use Rattle.shared_pages.proofs.Tabulate.{at_tabulate, past_tabulate}

pub live_is_below : (slots : List ℕ) (k : ℕ) → is_live slots k ≡ true → k < length slots
live_is_below slots k live = below_nonzero slots k (owned k (get_or slots k 0) live)
  where
    owned : (p n : ℕ) → (nat_lt 0 p && nat_lt 0 n) ≡ true → 0 < n
    owned p n h = grind (arith, nat_tests)

pub some_when : (slots es bs : List ℕ) (k : ℕ) → is_live slots k ≡ true
    → get_or (tabulate (length slots) (memory_at slots es bs)) k None ≡ Some (memory_seen es bs k)
some_when slots es bs k live =
    at_tabulate (length slots) (memory_at slots es bs) k None (live_is_below slots k live)
    ∙ ap (λ (b : Bool). if b then Some (memory_seen es bs k) else None) live

pub none_when : (slots es bs : List ℕ) (k : ℕ) → is_live slots k ≡ false → get_or (tabulate (length slots) (memory_at slots es bs)) k None ≡ None
none_when slots es bs k dead = elim (cases_lt k (length slots)) [
  | inl low ↦ at_tabulate (length slots) (memory_at slots es bs) k None low ∙ ap (λ (b : Bool). if b then Some (memory_seen es bs k) else None) dead
  | inr high ↦ past_tabulate (length slots) (memory_at slots es bs) k None high
]

-- a memory of which the same is seen
pub same_memory : (slots later : List ℕ) (old new : Names) (bs cs : List ℕ) (p q k : ℕ) → is_live later k ≡ is_live slots k
    → (is_live slots k ≡ true → memory_seen new.entries cs k ≡ memory_seen old.entries bs k) → memory (seen later new cs q) k ≡ memory (seen slots old bs p) k
same_memory slots later old new bs cs p q k live same = elim (cases_Bool (is_live slots k)) [
  | inl e ↦ some_when later new.entries cs k (live ∙ e) ∙ ap (λ (x : Memory). Some x) (same e) ∙ sym (some_when slots old.entries bs k e)
  | inr e ↦ none_when later new.entries cs k (live ∙ e) ∙ sym (none_when slots old.entries bs k e)
]
