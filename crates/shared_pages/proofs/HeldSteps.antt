-- Memories that are held at once, with one more and with one less.
use Rattle.std.proofs.Common.{◌≡◌, ◌≢◌, ℕ, ◌<◌, ◌≤◌, List, [], ◌∷◌, ◌++◌, None, false, true, length, get_or, arith, ap, sym, ◌∙◌, subst, inl, inr}
use Rattle.std.proofs.Common.{length-append}
use Rattle.std.specs.Prelude.{is_some}
use Rattle.std.proofs.lemmas.Bool.{cases_lt}
use Rattle.std.proofs.lemmas.List.{get_or_append_left}
use Rattle.shared_pages.specs.Held.{AreHeld}
use Rattle.shared_pages.specs.Store.{Store, IsIn, memory}
use Rattle.shared_pages.proofs.ReserveSteps.{at_end}

-- the places of a list with one more element
at_more : (xs : List ℕ) (n k : ℕ) → k < length xs → get_or (xs ++ n ∷ []) k 0 ≡ get_or xs k 0
at_more xs n k low = get_or_append_left xs (n ∷ []) 0 k low

at_last : (xs : List ℕ) (n k : ℕ) → length xs ≤ k → k < length (xs ++ n ∷ []) → get_or (xs ++ n ∷ []) k 0 ≡ n
at_last xs n k high low =
    let long = length-append xs (n ∷ []) in
    ap (λ (j : ℕ). get_or (xs ++ n ∷ []) j 0) (let e : k ≡ length xs = omega (arith, high, low, long) in e) ∙ at_end xs n

pub not_in : (s : Store) (n : ℕ) → memory s n ≡ None → IsIn s n → ⊥
not_in s n none known = no (sym (ap is_some none) ∙ known)
  where
    no : false ≡ true → ⊥
    no e = cc

pub held_none : (s : Store) (m : ℕ) (ids : List ℕ) → IsIn s m → length ids ≡ 0 → AreHeld s m ids
held_none s m ids known none = record {
  known = known;
  each = λ k low. absurd (omega (arith, low, none));
  other = λ k low. absurd (omega (arith, low, none));
  apart = λ j k low lower e. absurd (omega (arith, low, none));
}

pub held_more : (s t : Store) (m n : ℕ) (ids : List ℕ) → AreHeld s m ids → memory s n ≡ None → memory t n ≡ memory s m
    → ((k : ℕ) → k ≢ n → memory t k ≡ memory s k) → AreHeld t m (ids ++ n ∷ [])
held_more s t m n ids held fresh forked others =
    let stays : (k : ℕ) → IsIn s k → IsIn t k = (λ k known. ap is_some (others k (λ e. not_in s n fresh (subst (IsIn s) e known))) ∙ known) in
    let new : (k : ℕ) → IsIn s k → k ≢ n = (λ k known e. not_in s n fresh (subst (IsIn s) e known)) in
    record {
      known = stays m held.known;
      each = λ k low. elim (cases_lt k (length ids)) [
        | inl below ↦ subst (IsIn t) (sym (at_more ids n k below)) (stays (get_or ids k 0) (held.each k below))
        | inr above ↦ subst (IsIn t) (sym (at_last ids n k above low)) (ap is_some forked ∙ held.known)
      ];
      other = λ k low e. elim (cases_lt k (length ids)) [
        | inl below ↦ held.other k below (sym (at_more ids n k below) ∙ e)
        | inr above ↦ new m held.known (sym e ∙ at_last ids n k above low)
      ];
      apart = λ j k low lower e. elim (cases_lt j (length ids)) [
        | inl below ↦ elim (cases_lt k (length ids)) [
          | inl also ↦ held.apart j k below also (sym (at_more ids n j below) ∙ e ∙ at_more ids n k also)
          | inr above ↦ absurd (new (get_or ids j 0) (held.each j below) (sym (at_more ids n j below) ∙ e ∙ at_last ids n k above lower))
        ]
        | inr above ↦ elim (cases_lt k (length ids)) [
          | inl also ↦ absurd (new (get_or ids k 0) (held.each k also) (sym (at_more ids n k also) ∙ sym e ∙ at_last ids n j above low))
          | inr more ↦ let long = length-append ids (n ∷ []) in omega (arith, low, lower, above, more, long)
        ]
      ];
    }

pub held_less : (s t : Store) (m n : ℕ) (ids : List ℕ) → AreHeld s m (ids ++ n ∷ []) → ((k : ℕ) → k ≢ n → memory t k ≡ memory s k) → AreHeld t m ids
held_less s t m n ids held others =
    let long = length-append ids (n ∷ []) in
    let last : get_or (ids ++ n ∷ []) (length ids) 0 ≡ n = at_end ids n in
    let each : (k : ℕ) → k < length ids → IsIn s (get_or ids k 0) =
    (λ k low. subst (IsIn s) (at_more ids n k low) (held.each k (omega (arith, low, long)))) in
    let differ : (k : ℕ) → k < length ids → get_or ids k 0 ≢ n = (λ k low e.
    let same = held.apart k (length ids) (omega (arith, low, long)) (omega (arith, long)) (at_more ids n k low ∙ e ∙ sym last) in
    absurd (omega (arith, same, low))) in
    record {
      known = ap is_some (others m (λ e. held.other (length ids) (omega (arith, long)) (last ∙ sym e))) ∙ held.known;
      each = λ k low. ap is_some (others (get_or ids k 0) (differ k low)) ∙ each k low;
      other = λ k low e. held.other k (omega (arith, low, long)) (at_more ids n k low ∙ e);
      apart = λ j k low lower e. held.apart j k (omega (arith, low, long)) (omega (arith, lower, long)) (at_more ids n j low ∙ e ∙ sym (at_more ids n k lower));
    }

-- the last memory is in the store
pub held_last : (s : Store) (m n : ℕ) (ids : List ℕ) → AreHeld s m (ids ++ n ∷ []) → IsIn s n
held_last s m n ids held =
    let long = length-append ids (n ∷ []) in
    subst (IsIn s) (at_end ids n) (held.each (length ids) (omega (arith, long)))
