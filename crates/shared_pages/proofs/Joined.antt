-- The pages of all memories, and how many different ones there are.
use Rattle.std.proofs.Common.{◌≡◌, ℕ, zero, suc, ◌+◌, ◌<◌, ◌≤◌, List, [], ◌∷◌, ◌++◌, Option, None, length, get_or, arith, ap, sym, ◌∙◌, refl, inl}
use Rattle.std.proofs.Common.{inr}
use Rattle.std.specs.Prelude.{nat_eq, if◌then◌else◌}
use Rattle.std.specs.List.{sum_by}
use Rattle.std.proofs.lemmas.Bool.{cases_lt}
use Rattle.std.proofs.lemmas.Bool.Decides.{nat_tests}
use Rattle.std.proofs.lemmas.List.Sums.{sum_by-cons, sum_by-append}
use Rattle.shared_pages.specs.Counts.{AreCounted, is_one, occurs, different}
use Rattle.shared_pages.specs.Store.{Memory, or_empty, joined, tabulate}
use Rattle.shared_pages.proofs.Owners.{is_one-other, occurs_cons, occurs_none}
use Rattle.shared_pages.proofs.Named.{used_counted}
use Rattle.shared_pages.proofs.Tabulate.{at_tabulate, length-tabulate, past_tabulate}

pub joined_sum : (p : ℕ) (ms : List (Option Memory)) → occurs p (joined ms) ≡ sum_by (λ (o : Option Memory). occurs p (or_empty o).pages) ms
joined_sum p [] = refl
joined_sum p (m ∷ ms) =
    let a = sum_by-append (λ y. is_one p y) (or_empty m).pages (joined ms) in
    let c = sum_by-cons (λ (o : Option Memory). occurs p (or_empty o).pages) m ms in
    let rest = joined_sum p ms in
    omega (arith, a, c, rest)

-- memories with the same pages, one by one
pub joined_same : (ms ns : List (Option Memory)) → ((k : ℕ) → (or_empty (get_or ms k None)).pages ≡ (or_empty (get_or ns k None)).pages)
    → joined ms ≡ joined ns
joined_same [] [] h = refl
joined_same [] (n ∷ ns) h = joined_same [] ns (λ k. h (suc k)) ∙ ap (λ (xs : List ℕ). xs ++ joined ns) (h 0)
joined_same (m ∷ ms) [] h = ap (λ (xs : List ℕ). xs ++ joined ms) (h 0) ∙ joined_same ms [] (λ k. h (suc k))
joined_same (m ∷ ms) (n ∷ ns) h =
    ap (λ (xs : List ℕ). xs ++ joined ms) (h 0) ∙ ap (λ (xs : List ℕ). (or_empty n).pages ++ xs) (joined_same ms ns (λ k. h (suc k)))

-- a bound of the numbers of a list
abbrev top : List ℕ → ℕ
top [] = 0
top (x ∷ xs) = x + top xs

below_top : (xs : List ℕ) (i : ℕ) → get_or xs i 0 ≤ top xs
below_top [] i = omega arith
below_top (x ∷ xs) zero = omega arith
below_top (x ∷ xs) (suc i) = let rest = below_top xs i in omega (arith, rest)

-- how often each number below a bound stands in a list
abbrev counts_of : ℕ → List ℕ → List ℕ
counts_of n xs = tabulate n (λ p. if nat_eq p 0 then 1 else occurs p xs)

chosen : (p x : ℕ) → 0 < p → (if nat_eq p 0 then 1 else x) ≡ x
chosen p x h = grind (arith, nat_tests)

counted_so : (n : ℕ) (xs : List ℕ) → top xs < n → AreCounted xs (counts_of n xs)
counted_so n xs bound = record {
  first = let one : get_or (counts_of n xs) 0 0 ≡ 1 = at_tabulate n (λ p. if nat_eq p 0 then 1 else occurs p xs) 0 0 (omega (arith, bound)) in
      omega (arith, one);
  counted = λ p some. elim (cases_lt p n) [
    | inl low ↦ at_tabulate n (λ p. if nat_eq p 0 then 1 else occurs p xs) p 0 low ∙ chosen p (occurs p xs) some
    | inr high ↦ past_tabulate n (λ p. if nat_eq p 0 then 1 else occurs p xs) p 0 high
        ∙ sym (occurs_none p xs (λ j low e. let le = below_top xs j in absurd (omega (arith, le, e, high, bound))))
  ];
}

-- lists that have a number at the same places
pub occurs_alike : (p : ℕ) (xs ys : List ℕ) → length xs ≡ length ys
    → ((i : ℕ) → i < length xs → is_one p (get_or xs i 0) ≡ is_one p (get_or ys i 0)) → occurs p xs ≡ occurs p ys
occurs_alike p [] [] long same = refl
occurs_alike p [] (y ∷ ys) long same = absurd (omega (arith, long))
occurs_alike p (x ∷ xs) [] long same = absurd (omega (arith, long))
occurs_alike p (x ∷ xs) (y ∷ ys) long same =
    let rest = occurs_alike p xs ys (omega (arith, long)) (λ i low. same (suc i) (omega (arith, low))) in
    let one = same 0 (omega arith) in
    let a = occurs_cons p x xs in
    let b = occurs_cons p y ys in
    omega (arith, rest, one, a, b)

positive_alike : (a b : ℕ) → (0 < a → 0 < b) → (0 < b → 0 < a) → is_one 0 a ≡ is_one 0 b
positive_alike zero zero there back = refl
positive_alike zero (suc b) there back = let h = back (omega arith) in absurd (omega (arith, h))
positive_alike (suc a) zero there back = let h = there (omega arith) in absurd (omega (arith, h))
positive_alike (suc a) (suc b) there back = is_one-other 0 (suc a) (λ e. absurd (omega (arith, e))) ∙ sym (is_one-other 0 (suc b) (λ e. absurd (omega (arith, e))))

-- two lists that have the same numbers but 0 have equally many different ones
pub different_alike : (xs ys : List ℕ) → ((p : ℕ) → 0 < p → 0 < occurs p xs → 0 < occurs p ys)
    → ((p : ℕ) → 0 < p → 0 < occurs p ys → 0 < occurs p xs) → different xs ≡ different ys
different_alike xs ys there back =
    let n = suc (top xs + top ys) in
    let f : ℕ → ℕ = λ p. if nat_eq p 0 then 1 else occurs p xs in
    let g : ℕ → ℕ = λ p. if nat_eq p 0 then 1 else occurs p ys in
    let u = used_counted xs (tabulate n f) (counted_so n xs (omega arith)) in
    let v = used_counted ys (tabulate n g) (counted_so n ys (omega arith)) in
    let long = length-tabulate n f in
    let also = length-tabulate n g in
    let free = occurs_alike 0 (tabulate n f) (tabulate n g) (omega (arith, long, also)) (λ i low.
    let below : i < n = omega (arith, low, long) in
    ap (is_one 0) (at_tabulate n f i 0 below) ∙ (elim (cases_lt 0 i) [
      | inl some ↦ ap (is_one 0) (chosen i (occurs i xs) some) ∙ positive_alike (occurs i xs) (occurs i ys) (there i some) (back i some)
          ∙ ap (is_one 0) (sym (chosen i (occurs i ys) some))
      | inr none ↦ let z : i ≡ 0 = omega (arith, none) in ap (λ (k : ℕ). is_one 0 (f k)) z ∙ ap (λ (k : ℕ). is_one 0 (g k)) (sym z)
    ]) ∙ ap (is_one 0) (sym (at_tabulate n g i 0 below))) in
    omega (arith, u, v, long, also, free)

-- two lists in which each number but 0 stands equally often have equally many different ones
pub different_same : (xs ys : List ℕ) → ((p : ℕ) → 0 < p → occurs p xs ≡ occurs p ys) → different xs ≡ different ys
different_same xs ys same = different_alike xs ys (λ p some h. let e = same p some in omega (arith, e, h)) (λ p some h. let e = same p some in omega (arith, e, h))
