-- Bytes of one memory that are written, one after the other.
use Rattle.std.proofs.Common.{◌≡◌, ℕ, ◌<◌, ◌≤◌, List, [], ◌∷◌, ◌++◌, Option, Some, None, true, map, set, arith, refl, sym, ap, subst, ◌∙◌}
use Rattle.std.proofs.Common.{get_or-set_same, get_or-set_other}
use Rattle.std.specs.Prelude.{is_some}
use Rattle.std.specs.List.{All}
use Rattle.std.proofs.lemmas.List.{get_or-map, length-map}
use Rattle.std.proofs.lemmas.List.Elements.{All-map}
use Rattle.machine_form.specs.State.{with_bytes}
use Rattle.shared_pages.specs.Store.{Store, Memory, IsIn, memory, the_memory, or_empty, owns, used_pages, written, IsReserved}
use Rattle.shared_pages.proofs.Already.{in_list}
use Rattle.shared_pages.proofs.Laws.{written_own}
use Rattle.shared_pages.proofs.ReserveSteps.{nothing_reserved, reserved_whole}
use Rattle.shared_machine.specs.Written.{AreWritten}

pub nothing_written : (s : Store) (m : ℕ) → IsIn s m → AreWritten s s m []
nothing_written s m known = record { alive = known; bytes = refl; others = λ k ne. refl; own = λ k i. refl; peak = refl }

-- a byte and then the others
module _ (s : Store) (m at byte : ℕ) (known : IsIn s m) where
  here : memory (written s m at byte) m ≡ Some (record (the_memory s m) { bytes = set (the_memory s m).bytes at byte })
  here = get_or-set_same s.memories m (Some (record (the_memory s m) { bytes = set (the_memory s m).bytes at byte })) None (in_list s.memories m known)

  pub one_written : AreWritten s (written s m at byte) m ((at, byte) ∷ [])
  one_written = record {
    alive = ap is_some here;
    bytes = ap (λ (x : Option Memory). (or_empty x).bytes) here;
    others = λ k ne. get_or-set_other s.memories m k (Some (record (the_memory s m) { bytes = set (the_memory s m).bytes at byte })) None ne;
    own = written_own s m at byte known;
    peak = refl;
  }

with_bytes_more : (bytes : List ℕ) (ws : List (ℕ × ℕ)) (w : ℕ × ℕ) → with_bytes bytes (ws ++ w ∷ []) ≡ set (with_bytes bytes ws) w.0 w.1
with_bytes_more bytes [] w = refl
with_bytes_more bytes (x ∷ ws) w = with_bytes_more (set bytes x.0 x.1) ws w

pub writing_more : (s t : Store) (m : ℕ) (ws : List (ℕ × ℕ)) (w : ℕ × ℕ) → AreWritten s t m ws → AreWritten s (written t m w.0 w.1) m (ws ++ w ∷ [])
writing_more s t m ws w h =
    let one = one_written t m w.0 w.1 h.alive in
    record {
      alive = one.alive;
      bytes = one.bytes ∙ ap (λ (bs : List ℕ). set bs w.0 w.1) h.bytes ∙ sym (with_bytes_more (the_memory s m).bytes ws w);
      others = λ k ne. one.others k ne ∙ h.others k ne;
      own = λ k i. one.own k i ∙ h.own k i;
      peak = h.peak;
    }

-- ---- the addresses of some bytes

pub mapped_below : (n : ℕ) (bytes : List (ℕ × ℕ)) (at : List ℕ) → at ≡ map (λ b. b.0) bytes → All (λ b. b.0 < n) bytes → All (λ a. a < n) at
mapped_below n bytes at e h = subst (λ (xs : List ℕ). All (λ a. a < n) xs) (sym e) (All-map (λ (a : ℕ). a < n) (λ (b : ℕ × ℕ). b.0) bytes h)

pub each_owned : (s : Store) (m : ℕ) (bytes : List (ℕ × ℕ)) (at : List ℕ) → at ≡ map (λ b. b.0) bytes → All (λ a. owns s m a ≡ true) at
    → All (λ b. owns s m b.0 ≡ true) bytes
each_owned s m bytes at e h k d l =
    let all = subst (λ (xs : List ℕ). All (λ a. owns s m a ≡ true) xs) e h in
    let long = length-map bytes (λ (b : ℕ × ℕ). b.0) in
    subst (λ (a : ℕ). owns s m a ≡ true) (get_or-map (λ (b : ℕ × ℕ). b.0) bytes k d 0 l) (all k 0 (omega (arith, l, long)))

-- no page is taken where none is asked for yet
pub none_taken : (s : Store) (m : ℕ) (at : List ℕ) → IsIn s m → used_pages s ≤ s.peak → IsReserved s s m at
none_taken s m at known most = reserved_whole s s m 0 at (nothing_reserved s m known most)
