-- How many different pages rising addresses lie in, one address after another.
use Rattle.std.proofs.Common.{◌≡◌, ◌≢◌, ℕ, zero, suc, ◌+◌, ◌<◌, Bool, true, false, cond, not, List, [], ◌∷◌, length, map, drop, get_or, nat_eq, arith, refl}
use Rattle.std.proofs.lemmas.Bool.Decides.{nat_tests}
use Rattle.std.specs.List.Sorted.{IsStrictlyIncreasing}
use Rattle.std.specs.Set.{is_member}
use Rattle.machine_form.specs.Pages.{page_of, pages_of}
use Rattle.machine_form.proofs.Rises.{rest_rises}

abbrev addresses : List (ℕ × ℕ) → List ℕ
addresses bytes = map (λ b. b.0) bytes

abbrev pages_in : List (ℕ × ℕ) → List ℕ
pages_in bytes = map (λ b. page_of b.0) bytes

-- no later address lies in a page below the first one's
absent_below : (p : ℕ) (b : ℕ × ℕ) (bytes : List (ℕ × ℕ)) → IsStrictlyIncreasing (addresses (b ∷ bytes)) → p < page_of b.0
    → is_member nat_eq (pages_in (b ∷ bytes)) p ≡ false
absent_below p b [] r l = grind (arith, nat_tests)
absent_below p b (d ∷ bytes) r l =
    let rises : b.0 < d.0 = r 0 (omega arith) in
    let rest : is_member nat_eq (pages_in (d ∷ bytes)) p ≡ false = absent_below p d bytes (rest_rises b.0 (addresses (d ∷ bytes)) r) (omega arith) in
    let first : nat_eq p (page_of b.0) ≡ false = grind (arith, nat_tests) in
    rw first rest

-- the first address is the last of its page, and is counted
counted_last : (b : ℕ × ℕ) (d : ℕ × ℕ) (bytes : List (ℕ × ℕ)) → IsStrictlyIncreasing (addresses (b ∷ d ∷ bytes)) → page_of d.0 ≢ page_of b.0
    → pages_of (b ∷ d ∷ bytes) ≡ suc (pages_of (d ∷ bytes))
counted_last b d bytes r ne =
    let rises : b.0 < d.0 = r 0 (omega arith) in
    let apart : is_member nat_eq (pages_in (d ∷ bytes)) (page_of b.0) ≡ false =
    absent_below (page_of b.0) d bytes (rest_rises b.0 (addresses (d ∷ bytes)) r) (omega arith) in
    rw apart refl

-- another address of the page follows
counted_later : (b : ℕ × ℕ) (d : ℕ × ℕ) (bytes : List (ℕ × ℕ)) → page_of d.0 ≡ page_of b.0 → pages_of (b ∷ d ∷ bytes) ≡ pages_of (d ∷ bytes)
counted_later b d bytes e = let same : nat_eq (page_of b.0) (page_of d.0) ≡ true = grind (arith, nat_tests) in rw same refl

-- the last address of all is counted
pub last_counted : (bytes : List (ℕ × ℕ)) (i : ℕ) → suc i ≡ length bytes → pages_of (drop i bytes) ≡ suc (pages_of (drop (suc i) bytes))
last_counted [] i e = absurd (omega arith)
last_counted (b ∷ []) zero e = refl
last_counted (b ∷ d ∷ bytes) zero e = absurd (omega arith)
last_counted (b ∷ bytes) (suc i) e = last_counted bytes i (omega arith)

-- an address is counted where the next one lies in another page
pub apart_counted : (bytes : List (ℕ × ℕ)) (i : ℕ) (x : ℕ × ℕ) → IsStrictlyIncreasing (addresses bytes) → suc i < length bytes
    → page_of (get_or bytes (suc i) x).0 ≢ page_of (get_or bytes i x).0 → pages_of (drop i bytes) ≡ suc (pages_of (drop (suc i) bytes))
apart_counted [] i x r l ne = absurd (omega arith)
apart_counted (b ∷ []) i x r l ne = absurd (omega arith)
apart_counted (b ∷ d ∷ bytes) zero x r l ne = counted_last b d bytes r ne
apart_counted (b ∷ d ∷ bytes) (suc i) x r l ne = apart_counted (d ∷ bytes) i x (rest_rises b.0 (addresses (d ∷ bytes)) r) (omega arith) ne

pub together_counted : (bytes : List (ℕ × ℕ)) (i : ℕ) (x : ℕ × ℕ) → suc i < length bytes
    → page_of (get_or bytes (suc i) x).0 ≡ page_of (get_or bytes i x).0 → pages_of (drop i bytes) ≡ pages_of (drop (suc i) bytes)
together_counted [] i x l e = absurd (omega arith)
together_counted (b ∷ []) i x l e = absurd (omega arith)
together_counted (b ∷ d ∷ bytes) zero x l e = counted_later b d bytes e
together_counted (b ∷ d ∷ bytes) (suc i) x l e = together_counted (d ∷ bytes) i x (omega arith) e

pub page_counted : (bytes : List (ℕ × ℕ)) (i : ℕ) (x : ℕ × ℕ) → IsStrictlyIncreasing (addresses bytes) → suc i < length bytes
    → pages_of (drop i bytes) ≡ pages_of (drop (suc i) bytes) + cond (not (nat_eq (page_of (get_or bytes i x).0) (page_of (get_or bytes (suc i) x).0))) 1 0
page_counted bytes i x r l = by (nat_eq (page_of (get_or bytes i x).0) (page_of (get_or bytes (suc i) x).0)) refl
  where
    by : (b : Bool) → nat_eq (page_of (get_or bytes i x).0) (page_of (get_or bytes (suc i) x).0) ≡ b
        → pages_of (drop i bytes) ≡ pages_of (drop (suc i) bytes) + cond (not b) 1 0
    by true e =
        let same : page_of (get_or bytes (suc i) x).0 ≡ page_of (get_or bytes i x).0 = grind (arith, nat_tests) in
        omega (arith, together_counted bytes i x l same)
    by false e =
        let apart : page_of (get_or bytes (suc i) x).0 ≢ page_of (get_or bytes i x).0 = grind (arith, nat_tests) in
        omega (arith, apart_counted bytes i x r l apart)
