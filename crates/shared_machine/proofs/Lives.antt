-- The numbers of the memories of a store, where one memory comes or goes.
use Rattle.std.proofs.Common.{◌≡◌, ◌≢◌, ℕ, [], ◌∷◌, None, sym, ap, ◌∙◌, inl, inr}
use Rattle.std.specs.Prelude.{is_some}
use Rattle.std.specs.List.Sorted.{IsPermutation}
use Rattle.std.proofs.lemmas.Bool.{cases_eq}
use Rattle.std.proofs.lemmas.List.Sorted.{IsPermutation-sym}
use Rattle.machine_parts.proofs.Taken.{same_taken, one_taken}
use Rattle.shared_pages.specs.Store.{Store, IsIn, memory}
use Rattle.shared_machine.specs.Live.{marks, live}
use Rattle.shared_machine.specs.LiveLaws.{mark_is}

-- a memory came
pub one_more : (s t : Store) (n : ℕ) → memory s n ≡ None → IsIn t n → ((k : ℕ) → k ≢ n → memory t k ≡ memory s k) → IsPermutation (n ∷ live s) (live t)
one_more s t n none some others =
    one_taken n (marks s) (marks t) (mark_is s n ∙ ap is_some none) (mark_is t n ∙ some)
    (λ i ne. mark_is t i ∙ ap is_some (others i ne) ∙ sym (mark_is s i))

-- a memory went
pub one_less : (s t : Store) (n : ℕ) → IsIn s n → memory t n ≡ None → ((k : ℕ) → k ≢ n → memory t k ≡ memory s k) → IsPermutation (live s) (n ∷ live t)
one_less s t n some none others = IsPermutation-sym (n ∷ live t) (live s) (one_more t s n none some (λ k ne. sym (others k ne)))

-- no memory came or went
pub one_stays : (s t : Store) (n : ℕ) → IsIn s n → IsIn t n → ((k : ℕ) → k ≢ n → memory t k ≡ memory s k) → live t ≡ live s
one_stays s t n old new others = same_taken (marks s) (marks t) (λ i. mark_is t i ∙ same i ∙ sym (mark_is s i))
  where
    same : (i : ℕ) → is_some (memory t i) ≡ is_some (memory s i)
    same i = elim (cases_eq i n) [
      | inl e ↦ ap (λ (k : ℕ). is_some (memory t k)) e ∙ new ∙ sym old ∙ sym (ap (λ (k : ℕ). is_some (memory s k)) e)
      | inr ne ↦ ap is_some (others i ne)
    ]

pub no_memory : (s : Store) → ((k : ℕ) → memory s k ≡ None) → live s ≡ []
no_memory s none = same_taken [] (marks s) (λ i. mark_is s i ∙ ap is_some (none i))

-- each memory is what it was
pub same_lives : (s t : Store) → ((k : ℕ) → memory t k ≡ memory s k) → live t ≡ live s
same_lives s t same = same_taken (marks s) (marks t) (λ i. mark_is t i ∙ ap is_some (same i) ∙ sym (mark_is s i))
