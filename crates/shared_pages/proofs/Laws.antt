-- The laws of own and used pages.
use Rattle.shared_pages.specs.Size.{memory_pages}
use Rattle.std.proofs.Common.{◌≡◌, ◌≢◌, ℕ, zero, suc, ◌+◌, ◌<◌, ◌≤◌, List, [], ◌∷◌, Option, Some, None, Bool, true, false, length, get_or, set, arith, ap}
use Rattle.std.proofs.Common.{sym, ◌∙◌, refl, inl, inr, subst, get_or-set_same, get_or-set_other}
use Rattle.am_base.specs.declared.limits.TheConstants.{PAGE_BYTES}
use Rattle.std.specs.Prelude.{nat_eq, nat_lt, not, ◌&&◌, ◌||◌, ◌==◌, ◌/◌}
use Rattle.std.specs.List.{list_any}
use Rattle.std.proofs.lemmas.Bool.{cases_Bool, cases_eq}
use Rattle.std.proofs.lemmas.Bool.Decides.{nat_tests}
use Rattle.std.proofs.lemmas.List.Sums.{sum_by-append}
use Rattle.shared_pages.specs.Counts.{is_one, occurs, different}
use Rattle.shared_pages.specs.Opening.{IsBegun, is_full}
use Rattle.shared_pages.specs.Store.{IsAlone, IsIn, IsReserved, Memory, Store, all_pages, is_own, joined, memory, or_empty, page, shared_count, the_memory}
use Rattle.shared_pages.specs.Store.{used_pages}
use Rattle.shared_pages.specs.Store.{written}
use Rattle.shared_pages.proofs.Named.{below_nonzero}
use Rattle.shared_pages.proofs.Owners.{occurs_at, occurs_none, occurs_once, once_from_places}
use Rattle.shared_pages.proofs.Already.{in_list}
use Rattle.shared_pages.proofs.ForkSteps.{when_not}
use Rattle.shared_pages.proofs.Joined.{joined_same}
use Rattle.shared_pages.proofs.Openings.{count_le}
use Rattle.shared_pages.proofs.PageSteps.{own_full}
use Rattle.shared_pages.proofs.ReserveSteps.{same_bit}

not_both : true ≡ false → ⊥
not_both e = cc

-- the number at a place of some memories
abbrev at_place : List (Option Memory) → ℕ → ℕ → ℕ
at_place ms k j = get_or (or_empty (get_or ms k None)).pages j 0

joined_counts : (p : ℕ) (m : Option Memory) (ms : List (Option Memory)) → occurs p (joined (m ∷ ms)) ≡ occurs p (or_empty m).pages + occurs p (joined ms)
joined_counts p m ms = sum_by-append (λ y. is_one p y) (or_empty m).pages (joined ms)

-- a number that stands in a memory
occurs_here : (p j : ℕ) (xs : List ℕ) → 0 < p → get_or xs j 0 ≡ p → 0 < occurs p xs
occurs_here p j xs some is = subst (λ (q : ℕ). 0 < occurs q xs) is (occurs_at xs j (below_nonzero xs j (omega (arith, some, is))))

occurs_in : (ms : List (Option Memory)) (p k j : ℕ) → 0 < p → at_place ms k j ≡ p → 0 < occurs p (joined ms)
occurs_in [] p k j some is = absurd (omega (arith, some, is))
occurs_in (m ∷ ms) p zero j some is =
    let here = occurs_here p j (or_empty m).pages some is in
    let all = joined_counts p m ms in
    omega (arith, here, all)
occurs_in (m ∷ ms) p (suc k) j some is =
    let rest = occurs_in ms p k j some is in
    let all = joined_counts p m ms in
    omega (arith, rest, all)

-- a number that stands once stands in one place of one memory
once_place : (ms : List (Option Memory)) (p k j l i : ℕ) → 0 < p → occurs p (joined ms) ≡ 1 → at_place ms k j ≡ p → at_place ms l i ≡ p → (k ≡ l) × (j ≡ i)
once_place [] p k j l i some once is also = absurd (omega (arith, once))
once_place (m ∷ ms) p zero j zero i some once is also =
    let all = joined_counts p m ms in
    let here = occurs_here p j (or_empty m).pages some is in
    let xs = (or_empty m).pages in (
      refl,
      occurs_once p xs j i (omega (arith, all, here, once)) (below_nonzero xs j (omega (arith, some, is))) (below_nonzero xs i (omega (arith, some, also)))
          is also,
    )
once_place (m ∷ ms) p zero j (suc l) i some once is also =
    let all = joined_counts p m ms in
    let here = occurs_here p j (or_empty m).pages some is in
    let rest = occurs_in ms p l i some also in
    absurd (omega (arith, all, here, rest, once))
once_place (m ∷ ms) p (suc k) j zero i some once is also =
    let all = joined_counts p m ms in
    let here = occurs_here p i (or_empty m).pages some also in
    let rest = occurs_in ms p k j some is in
    absurd (omega (arith, all, here, rest, once))
once_place (m ∷ ms) p (suc k) j (suc l) i some once is also =
    let all = joined_counts p m ms in
    let rest = occurs_in ms p k j some is in
    let deep = once_place ms p k j l i some (omega (arith, all, rest, once)) is also in
    (ap suc deep.0, deep.1)

-- a number that stands in no place
none_in : (ms : List (Option Memory)) (p : ℕ) → ((k j : ℕ) → at_place ms k j ≢ p) → occurs p (joined ms) ≡ 0
none_in [] p h = refl
none_in (m ∷ ms) p h =
    let all = joined_counts p m ms in
    let here = occurs_none p (or_empty m).pages (λ j low. h zero j) in
    let rest = none_in ms p (λ k. h (suc k)) in
    omega (arith, all, here, rest)

-- a number that stands in one place alone stands once
place_once : (ms : List (Option Memory)) (p k j : ℕ) → 0 < p → at_place ms k j ≡ p → ((l i : ℕ) → at_place ms l i ≡ p → (l ≡ k) × (i ≡ j))
    → occurs p (joined ms) ≡ 1
place_once [] p k j some is alone = absurd (omega (arith, some, is))
place_once (m ∷ ms) p zero j some is alone =
    let xs = (or_empty m).pages in
    let all = joined_counts p m ms in
    let here : occurs p xs ≡ 1 = subst (λ (q : ℕ). occurs q xs ≡ 1) is (once_from_places xs j (below_nonzero xs j (omega (arith, some, is)))
    (λ i low e. (alone zero i (e ∙ is)).1)) in
    let rest = none_in ms p (λ l i e. let same = (alone (suc l) i e).0 in absurd (omega (arith, same))) in
    omega (arith, all, here, rest)
place_once (m ∷ ms) p (suc k) j some is alone =
    let all = joined_counts p m ms in
    let here = occurs_none p (or_empty m).pages (λ i low e. let same = (alone zero i e).0 in absurd (omega (arith, same))) in
    let rest = place_once ms p k j some is (λ l i e. let both = alone (suc l) i e in let same = both.0 in (omega (arith, same), both.1)) in
    omega (arith, all, here, rest)

-- The laws.

own_once : (s : Store) (m i : ℕ) → is_own s m i ≡ true → occurs (page s m i) (all_pages s) ≡ 1
own_once s m i own = once (page s m i) (occurs (page s m i) (all_pages s)) own
  where
    once : (p n : ℕ) → (nat_lt 0 p && (n == 1)) ≡ true → n ≡ 1
    once p n h = grind (arith, nat_tests)

pub alone_when : (s : Store) (m i : ℕ) → is_own s m i ≡ true → IsAlone s m i
alone_when s m i own =
    let some = own_full s m i own in
    record {
      other = λ e. absurd (omega (arith, e, some));
      alone = λ k j e. once_place s.memories (page s m i) k j m i some (own_once s m i own) e refl;
    }

pub own_when : (s : Store) (m i : ℕ) → IsAlone s m i → is_own s m i ≡ true
own_when s m i alone =
    let other = alone.other in
    let some : 0 < page s m i = omega (arith, other) in
    both (page s m i) (occurs (page s m i) (all_pages s)) some (place_once s.memories (page s m i) m i some refl alone.alone)
  where
    both : (p n : ℕ) → 0 < p → n ≡ 1 → (nat_lt 0 p && (n == 1)) ≡ true
    both p n h k = grind (arith, nat_tests)

pages_same : (s t : Store) → ((k : ℕ) → memory s k ≡ memory t k) → all_pages s ≡ all_pages t
pages_same s t same = joined_same s.memories t.memories (λ k. ap (λ (x : Option Memory). (or_empty x).pages) (same k))

pub own_determined : (s t : Store) → ((k : ℕ) → memory s k ≡ memory t k) → (m i : ℕ) → is_own s m i ≡ is_own t m i
own_determined s t same m i =
    ap (λ (x : Option Memory). nat_lt 0 (get_or (or_empty x).pages i 0) && (occurs (get_or (or_empty x).pages i 0) (all_pages s) == 1)) (same m)
    ∙ ap (λ (xs : List ℕ). nat_lt 0 (page t m i) && (occurs (page t m i) xs == 1)) (pages_same s t same)

pub used_determined : (s t : Store) → ((k : ℕ) → memory s k ≡ memory t k) → used_pages s ≡ used_pages t
used_determined s t same = ap (λ (xs : List ℕ). different xs + 1) (pages_same s t same)

pub equal_share : (s : Store) (m n i : ℕ) → m ≢ n → memory s m ≡ memory s n → is_own s m i ≡ false
equal_share s m n i ne same = when_not (is_own s m i) (λ own.
    let both = (alone_when s m i own).alone n i (ap (λ (x : Option Memory). get_or (or_empty x).pages i 0) (sym same)) in
    ne (sym both.0))

-- a page of a memory that stays
stays : (s t : Store) (n : ℕ) → ((k : ℕ) → k ≢ n → memory t k ≡ memory s k)
    → (m i : ℕ) → m ≢ n → is_own s m i ≡ true → ((j : ℕ) → page t n j ≢ page t m i) → is_own t m i ≡ true
stays s t n others m i ne own apart =
    let at : (k j : ℕ) → k ≢ n → page t k j ≡ page s k j = (λ k j far. ap (λ (x : Option Memory). get_or (or_empty x).pages j 0) (others k far)) in
    let alone = alone_when s m i own in
    own_when t m i (record {
      other = λ e. alone.other (sym (at m i ne) ∙ e);
      alone = λ k j e. elim (cases_eq k n) [
        | inl is ↦ absurd (apart j (sym (ap (λ (q : ℕ). page t q j) is) ∙ e))
        | inr far ↦ alone.alone k j (sym (at k j far) ∙ e ∙ at m i ne)
      ];
    })

pub stays_ended : (s t : Store) (n : ℕ) → memory t n ≡ None → ((k : ℕ) → k ≢ n → memory t k ≡ memory s k)
    → (m i : ℕ) → m ≢ n → is_own s m i ≡ true → is_own t m i ≡ true
stays_ended s t n gone others m i ne own =
    let some = own_full s m i own in
    let here : page t m i ≡ page s m i = ap (λ (x : Option Memory). get_or (or_empty x).pages i 0) (others m ne) in
    stays s t n others m i ne own (λ j e.
    let none : page t n j ≡ 0 = ap (λ (x : Option Memory). get_or (or_empty x).pages j 0) gone in
    absurd (omega (arith, none, e, here, some)))

pub stays_forked : (s t : Store) (m n : ℕ) → memory t n ≡ memory s m → ((k : ℕ) → k ≢ n → memory t k ≡ memory s k)
    → (k i : ℕ) → k ≢ m → k ≢ n → is_own s k i ≡ true → is_own t k i ≡ true
stays_forked s t m n forked others k i nm nn own =
    let here : page t k i ≡ page s k i = ap (λ (x : Option Memory). get_or (or_empty x).pages i 0) (others k nn) in
    stays s t n others k i nn own (λ j e.
    let there : page t n j ≡ page s m j = ap (λ (x : Option Memory). get_or (or_empty x).pages j 0) forked in
    nm (sym ((alone_when s k i own).alone m j (sym there ∙ e ∙ here)).0))

pub stays_begun : (s t : Store) (n : ℕ) (bytes : List ℕ) → IsBegun t n bytes → ((k : ℕ) → k ≢ n → memory t k ≡ memory s k)
    → (m i : ℕ) → m ≢ n → is_own s m i ≡ true → is_own t m i ≡ true
stays_begun s t n bytes begun others m i ne own =
    let some = own_full s m i own in
    let here : page t m i ≡ page s m i = ap (λ (x : Option Memory). get_or (or_empty x).pages i 0) (others m ne) in
    stays s t n others m i ne own (λ j e.
    let long = begun.long in
    let low : j < memory_pages = (let b = below_nonzero (the_memory t n).pages j (omega (arith, e, here, some)) in omega (arith, b, long)) in
    elim (cases_Bool (is_full bytes j)) [
      | inl full ↦ ne ((alone_when t n j (begun.own j low full)).alone m i (sym e)).0
      | inr empty ↦ let none = begun.zero j low empty in absurd (omega (arith, none, e, here, some))
    ])

-- a memory that a byte was written to has the same pages
written_pages : (s : Store) (m at byte : ℕ) → IsIn s m → (k : ℕ) → (the_memory (written s m at byte) k).pages ≡ (the_memory s k).pages
written_pages s m at byte known k = elim (cases_eq k m) [
  | inl e ↦
      let here = get_or-set_same s.memories m (Some (record (the_memory s m) { bytes = set (the_memory s m).bytes at byte })) None
      (in_list s.memories m known) in
      ap (λ (q : ℕ). (the_memory (written s m at byte) q).pages) e ∙ ap (λ (x : Option Memory). (or_empty x).pages) here
      ∙ ap (λ (q : ℕ). (the_memory s q).pages) (sym e)
  | inr ne ↦ ap (λ (x : Option Memory). (or_empty x).pages)
      (get_or-set_other s.memories m k (Some (record (the_memory s m) { bytes = set (the_memory s m).bytes at byte })) None ne)
]

written_all : (s : Store) (m at byte : ℕ) → IsIn s m → all_pages (written s m at byte) ≡ all_pages s
written_all s m at byte known = joined_same (written s m at byte).memories s.memories (written_pages s m at byte known)

pub written_own : (s : Store) (m at byte : ℕ) → IsIn s m → (k i : ℕ) → is_own (written s m at byte) k i ≡ is_own s k i
written_own s m at byte known k i =
    ap (λ (xs : List ℕ). nat_lt 0 (get_or xs i 0) && (occurs (get_or xs i 0) (all_pages (written s m at byte)) == 1)) (written_pages s m at byte known k)
    ∙ ap (λ (xs : List ℕ). nat_lt 0 (page s k i) && (occurs (page s k i) xs == 1)) (written_all s m at byte known)

pub written_used : (s : Store) (m at byte : ℕ) → IsIn s m → used_pages (written s m at byte) ≡ used_pages s
written_used s m at byte known = ap (λ (xs : List ℕ). different xs + 1) (written_all s m at byte known)

-- How many pages are reserved.

any_at : (p : ℕ → Bool) (xs : List ℕ) (k : ℕ) → k < length xs → p (get_or xs k 0) ≡ true → list_any p xs ≡ true
any_at p [] k low h = absurd (omega (arith, low))
any_at p (x ∷ xs) zero low h = ap (λ (b : Bool). b || list_any p xs) h
any_at p (x ∷ xs) (suc k) low h = right (p x) (list_any p xs) (any_at p xs k (omega (arith, low)) h)
  where
    right : (a b : Bool) → b ≡ true → (a || b) ≡ true
    right true b e = refl
    right false b e = e

reserved_bit : (s t : Store) (m i : ℕ) (at : List ℕ) → IsReserved s t m at → not (nat_eq (page t m i) (page s m i)) ≡ true
    → (list_any (λ a. nat_eq (a / PAGE_BYTES) i) at && not (is_own s m i)) ≡ true
reserved_bit s t m i at r changed = elim (r.pages i) [
  | inl same ↦ absurd (not_both (sym changed ∙ ap (λ (q : ℕ). not (nat_eq q (page s m i))) same ∙ same_bit (page s m i)))
  | inr w ↦
      let k = w.named in
      let is = any_at (λ a. nat_eq (a / PAGE_BYTES) i) at k.0 k.1 (ap (λ (q : ℕ). nat_eq q i) k.2 ∙ equal i) in
      ap (λ (b : Bool). b && not (is_own s m i)) is ∙ ap not w.shared
]
  where
    equal : (x : ℕ) → nat_eq x x ≡ true
    equal x = grind (arith, nat_tests)

pub reserved_few : (s t : Store) (m : ℕ) (at : List ℕ) → IsReserved s t m at → used_pages t ≤ used_pages s + shared_count s m at
reserved_few s t m at r =
    let used = r.used in
    let le = count_le (λ i. not (nat_eq (page t m i) (page s m i))) (λ i. list_any (λ a. nat_eq (a / PAGE_BYTES) i) at && not (is_own s m i)) memory_pages
    (λ i changed. reserved_bit s t m i at r changed) in
    omega (arith, used, le)
