-- The pages of some addresses that aren't a memory's own are at most as many as the pages of the addresses.
use Rattle.std.proofs.Common.{◌≡◌, ℕ, zero, suc, ◌+◌, ◌/◌, ◌≤◌, List, [], ◌∷◌, Bool, true, false, map, nat_eq, arith, refl, sym, ap, ◌∙◌}
use Rattle.std.specs.Prelude.{nat_lt, not, ◌&&◌, ◌||◌}
use Rattle.std.specs.List.{count_by, list_any}
use Rattle.std.specs.Set.{distinct_count, is_member}
use Rattle.std.proofs.lemmas.Bool.Decides.{nat_tests}
use Rattle.am_base.specs.declared.limits.TheConstants.{PAGE_BYTES}
use Rattle.machine_form.specs.Pages.{page_of, pages_of}
use Rattle.shared_pages.specs.Size.{memory_pages}
use Rattle.shared_pages.specs.Counts.{one_if}
use Rattle.shared_pages.specs.Store.{Store, IsReserved, is_own, shared_count, tabulate, used_pages}
use Rattle.shared_pages.proofs.Laws.{reserved_few}
use Rattle.shared_pages.proofs.Openings.{count_le}
use Rattle.shared_pages.proofs.Tabulate.{counted_none, counted_more}

abbrev counted : ℕ → (ℕ → Bool) → ℕ
counted n f = count_by (λ b. b) (tabulate n f)

counted_next : (f : ℕ → Bool) (n : ℕ) → counted (suc n) f ≡ counted n f + one_if (f n)
counted_next f n = ap (λ (k : ℕ). counted k f) (let e : suc n ≡ n + 1 = omega arith in e) ∙ counted_more f n

none_counted : (n : ℕ) → counted n (λ _. false) ≡ 0
none_counted zero = counted_none (λ _. false)
none_counted (suc n) = let rest = none_counted n in let next = counted_next (λ _. false) n in omega (arith, rest, next)

-- one number more is counted once
one_counted : (p : ℕ) (f : ℕ → Bool) (n : ℕ) → counted n (λ i. nat_eq p i || f i) ≤ counted n f + one_if (nat_lt p n)
one_counted p f zero = let none = counted_none (λ i. nat_eq p i || f i) in omega (arith, none)
one_counted p f (suc n) =
    let rest = one_counted p f n in
    let all = counted_next (λ i. nat_eq p i || f i) n in
    let some = counted_next f n in
    let now = step p n (f n) in
    omega (arith, rest, all, some, now)
  where
    step : (p n : ℕ) (b : Bool) → one_if (nat_eq p n || b) + one_if (nat_lt p n) ≤ one_if b + one_if (nat_lt p (suc n))
    step p n true = grind (arith, nat_tests)
    step p n false = grind (arith, nat_tests)

few : (b : Bool) → one_if b ≤ 1
few true = omega arith
few false = omega arith

flipped : (x y : ℕ) → nat_eq x y ≡ nat_eq y x
flipped x y = grind (arith, nat_tests)

found : (p i : ℕ) (ps : List ℕ) → nat_eq p i ≡ true → is_member nat_eq ps p ≡ true → list_any (λ q. nat_eq q i) ps ≡ true
found p i [] e m = m
found p i (q ∷ ps) e m = by (nat_eq p q) refl (λ h. found p i ps e h) m
  where
    right : (a b : Bool) → b ≡ true → (a || b) ≡ true
    right true b h = refl
    right false b h = h

    by : (t : Bool) → nat_eq p q ≡ t → (is_member nat_eq ps p ≡ true → list_any (λ r. nat_eq r i) ps ≡ true) → (t || is_member nat_eq ps p) ≡ true
        → (nat_eq q i || list_any (λ r. nat_eq r i) ps) ≡ true
    by true same rest h = let here : nat_eq q i ≡ true = grind (arith, nat_tests) in rw here refl
    by false differs rest h = right (nat_eq q i) (list_any (λ r. nat_eq r i) ps) (rest h)

-- each number that stands in a list is counted once
any_counted : (n : ℕ) (ps : List ℕ) → counted n (λ i. list_any (λ p. nat_eq p i) ps) ≤ distinct_count nat_eq ps
any_counted n [] = let none = none_counted n in omega (arith, none)
any_counted n (p ∷ ps) = by (is_member nat_eq ps p) refl (any_counted n ps)
  where
    covered : (a b : Bool) → (a || b) ≡ true → (a ≡ true → b ≡ true) → b ≡ true
    covered true b h f = f refl
    covered false b h f = h

    by : (t : Bool) → is_member nat_eq ps p ≡ t → counted n (λ i. list_any (λ q. nat_eq q i) ps) ≤ distinct_count nat_eq ps
        → counted n (λ i. nat_eq p i || list_any (λ q. nat_eq q i) ps) ≤ distinct_count nat_eq (p ∷ ps)
    by true again rest =
        let le = count_le (λ i. nat_eq p i || list_any (λ q. nat_eq q i) ps) (λ i. list_any (λ q. nat_eq q i) ps) n
        (λ i h. covered (nat_eq p i) (list_any (λ q. nat_eq q i) ps) h (λ e. found p i ps e again)) in
        rw again (omega (arith, le, rest))
    by false new rest =
        let le = one_counted p (λ i. list_any (λ q. nat_eq q i) ps) n in
        let one = few (nat_lt p n) in
        rw new (omega (arith, le, one, rest))

any_mapped : (i : ℕ) (bytes : List (ℕ × ℕ)) → list_any (λ a. nat_eq (a / PAGE_BYTES) i) (map (λ b. b.0) bytes) ≡ list_any (λ p. nat_eq p i) (map (λ b. page_of b.0) bytes)
any_mapped i [] = refl
any_mapped i (b ∷ bytes) = ap (λ t. nat_eq (page_of b.0) i || t) (any_mapped i bytes)

left : (a b : Bool) → (a && b) ≡ true → a ≡ true
left true b h = refl
left false b h = h

shared_few : (s : Store) (m : ℕ) (bytes : List (ℕ × ℕ)) → shared_count s m (map (λ b. b.0) bytes) ≤ pages_of bytes
shared_few s m bytes =
    let le = count_le (λ i. list_any (λ a. nat_eq (a / PAGE_BYTES) i) (map (λ b. b.0) bytes) && not (is_own s m i))
    (λ i. list_any (λ p. nat_eq p i) (map (λ b. page_of b.0) bytes)) memory_pages
    (λ i h. sym (any_mapped i bytes) ∙ left (list_any (λ a. nat_eq (a / PAGE_BYTES) i) (map (λ b. b.0) bytes)) (not (is_own s m i)) h) in
    let most = any_counted memory_pages (map (λ b. page_of b.0) bytes) in
    omega (arith, le, most)

-- the pages of a change are at most as many as are taken for it
pub taken_few : (s t : Store) (m : ℕ) (bytes : List (ℕ × ℕ)) → IsReserved s t m (map (λ b. b.0) bytes) → used_pages t ≤ used_pages s + pages_of bytes
taken_few s t m bytes r = let a = reserved_few s t m (map (λ b. b.0) bytes) r in let b = shared_few s m bytes in omega (arith, a, b)
