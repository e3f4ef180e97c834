-- What the mark of a number tells.
use Rattle.std.proofs.Common.{◌≡◌, ℕ, ◌<◌, ◌≤◌, false, ◌==◌, List, [], length, slice_index, sym, ap, ◌∙◌, arith}
use Rattle.std.specs.List.{list_any}
use Rattle.std.proofs.lemmas.Bool.{true≢false, eq-eqb, ne_eqb}
use Rattle.std.proofs.lemmas.List.{get_or_default}
use Rattle.std.proofs.lemmas.List.Folds.{list_any_none, list_any_at}
use Rattle.traces.proofs.Bools.{on_bool}
use Rattle.member_sets.specs.Marks.{AreMarked}

pub none_marked : (ms : List ℕ) → AreMarked [] ms
none_marked ms = record { within = λ i l. absurd (omega arith); mark = λ i l. absurd (omega arith) }

absent : (x : ℕ) (ns : List ℕ) → ((i : ℕ) → i < length ns → slice_index ns i ≡ x → ⊥) → list_any (λ n. n == x) ns ≡ false
absent x ns h = list_any_none (λ n. n == x) ns (λ k d l. ne_eqb _ _ (λ e. h k l (get_or_default ns k 0 d l ∙ e)))

module _ (ns ms : List ℕ) (a : AreMarked ns ms) (x : ℕ) where
  pub past_marks : length ms ≤ x → list_any (λ n. n == x) ns ≡ false
  past_marks h = absent x ns (λ i l e. absurd (let w = a.within i l in omega arith))

  pub past_numbers : length ns ≤ slice_index ms x → list_any (λ n. n == x) ns ≡ false
  past_numbers h = absent x ns (λ i l e. absurd (let m = a.mark i l in let f : slice_index ms (slice_index ns i) ≡ slice_index ms x = ap (slice_index ms) e in
      omega arith))

  pub at_mark : slice_index ms x < length ns → (slice_index ns (slice_index ms x) == x) ≡ list_any (λ n. n == x) ns
  at_mark l = on_bool (slice_index ns (slice_index ms x) == x)
      (λ t. t ∙ sym (list_any_at (λ n. n == x) ns (slice_index ms x) 0 l t))
      (λ f. f ∙ sym (absent x ns (λ i k e.
      let m : slice_index ms x ≡ i = sym (ap (slice_index ms) e) ∙ a.mark i k in
      true≢false (sym (eq-eqb _ _ (ap (slice_index ns) m ∙ e)) ∙ f))))
