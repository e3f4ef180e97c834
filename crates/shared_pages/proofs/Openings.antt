-- A memory is given its opening bytes, page by page.
use Rattle.am_base.specs.declared.limits.TheConstants.{MEMORY_BYTES, PAGE_BYTES}
use Rattle.shared_pages.specs.Size.{memory_pages}
use Rattle.std.proofs.Common.{◌≡◌, ◌≢◌, ℕ, zero, suc, ◌+◌, ◌-◌, ◌*◌, ◌/◌, ◌<◌, ◌≤◌, List, [], ◌∷◌, Bool, true, false, length, get_or, set, take, drop}
use Rattle.std.proofs.Common.{Option, Some, None, max, arith, ap, sym, ◌∙◌, refl, inl, inr, get_or-set_same, get_or-set_other}
use Rattle.std.specs.Prelude.{IsTrue, ◌↔◌, is_some, ◌&&◌, ◌==◌, ◌%◌, not, nat_eq, nat_lt, if◌then◌else◌}
use Rattle.std.specs.List.{count_by}
use Rattle.std.proofs.Math.ListN.{length-set}
use Rattle.std.proofs.lemmas.Bool.{and_from, cases_eq, cases_lt}
use Rattle.std.proofs.lemmas.Bool.Decides.{nat_tests}
use Rattle.std.proofs.lemmas.List.{get_or-drop, get_or-take, get_or_past, length-take-le}
use Rattle.std.proofs.lemmas.Grind.{same_number_lists}
use Rattle.shared_pages.specs.Counts.{different, occurs, one_if}
use Rattle.shared_pages.specs.Opening.{page_of, are_zero, is_full, full_count, zero_memory, first_bytes, is_opened, IsBegun, IsOpened, IsNext, IsLeft, IsPut}
use Rattle.shared_pages.specs.Store.{Memory, Store, IsIn, IsMadeOwn, memory, the_memory, or_empty, page, is_own, owns, written, tabulate, byte_at, memory_seen}
use Rattle.shared_pages.specs.Store.{all_pages, used_pages}
use Rattle.shared_pages.proofs.Already.{in_list, is_there}
use Rattle.shared_pages.proofs.Joined.{joined_same}
use Rattle.shared_pages.proofs.Tabulate.{length-tabulate, at_tabulate, same_tabulate, set_tabulate, counted_none, counted_more}

-- Bytes that are 0.

both_left : (a b : Bool) → (a && b) ≡ true → a ≡ true
both_left true b h = refl
both_left false b h = h

both_right : (a b : Bool) → (a && b) ≡ true → b ≡ true
both_right true b h = h
both_right false b h = absurd (not_both h)
  where
    not_both : false ≡ true → ⊥
    not_both e = cc

is_zero : (x : ℕ) → nat_eq 0 x ≡ true → x ≡ 0
is_zero x h = grind (arith, nat_tests)

pub zero_at : (xs : List ℕ) → are_zero xs ≡ true → (i : ℕ) → get_or xs i 0 ≡ 0
zero_at [] h i = get_or_past [] i 0 (omega arith)
zero_at (x ∷ xs) h zero = is_zero x (both_left (nat_eq 0 x) (are_zero xs) h)
zero_at (x ∷ xs) h (suc i) = zero_at xs (both_right (nat_eq 0 x) (are_zero xs) h) i

pub are_zero-from : (xs : List ℕ) → ((i : ℕ) → get_or xs i 0 ≡ 0) → are_zero xs ≡ true
are_zero-from [] h = refl
are_zero-from (x ∷ xs) h = and_from (nat_eq 0 x) (are_zero xs) (ap (nat_eq 0) (h 0)) (are_zero-from xs (λ i. h (suc i)))

-- the test of a page against the zero page
module _ (bs page : List ℕ) (zeros : (o : ℕ) → o < PAGE_BYTES → get_or bs o 0 ≡ 0) (room : PAGE_BYTES ≤ length bs) (long : length page ≡ PAGE_BYTES) where
  short : length (take PAGE_BYTES bs) ≡ PAGE_BYTES
  short = length-take-le PAGE_BYTES bs room

  same_as_zeros : are_zero page ≡ true → page ≡ take PAGE_BYTES bs
  same_as_zeros h = same_number_lists page (take PAGE_BYTES bs) (long ∙ sym short) (λ k low.
      let below : k < PAGE_BYTES = omega (arith, low, long) in
      zero_at page h k ∙ sym (get_or-take PAGE_BYTES bs k 0 below ∙ zeros k below))

  zero_as_same : page ≡ take PAGE_BYTES bs → are_zero page ≡ true
  zero_as_same e = are_zero-from page (λ i. elim (cases_lt i PAGE_BYTES) [
    | inl low ↦ ap (λ (xs : List ℕ). get_or xs i 0) e ∙ get_or-take PAGE_BYTES bs i 0 low ∙ zeros i low
    | inr high ↦ get_or_past page i 0 (omega (arith, high, long))
  ])

  pub zero_test : (d : Bool) → IsTrue d ↔ (page ≢ take PAGE_BYTES bs) → not d ≡ are_zero page
  zero_test d differs = go d (are_zero page) refl differs
    where
      not_both : false ≡ true → ⊥
      not_both e = cc

      go : (d z : Bool) → are_zero page ≡ z → IsTrue d ↔ (page ≢ take PAGE_BYTES bs) → not d ≡ z
      go true true e iff = absurd (iff.0 refl (same_as_zeros e))
      go true false e iff = refl
      go false true e iff = refl
      go false false e iff = absurd (not_both (iff.1 (λ same. not_both (sym e ∙ zero_as_same same))))

pub full_when : (bytes : List ℕ) (i : ℕ) (z : Bool) → are_zero (page_of bytes i) ≡ z → is_full bytes i ≡ not z
unfolding is_full
full_when bytes i z e = ap not e

-- The first bytes.

pub first_next : (bytes : List ℕ) (t : ℕ) → t < MEMORY_BYTES → first_bytes bytes (t + 1) ≡ set (first_bytes bytes t) t (get_or bytes t 0)
first_next bytes t low = set_tabulate MEMORY_BYTES (λ at. if nat_lt at t then get_or bytes at 0 else 0)
    (λ at. if nat_lt at (t + 1) then get_or bytes at 0 else 0)
    t (get_or bytes t 0) low (here t (get_or bytes t 0)) (λ j below ne. there j t (get_or bytes j 0) ne)
  where
    here : (t x : ℕ) → (if nat_lt t (t + 1) then x else 0) ≡ x
    here t x = grind (arith, nat_tests)

    there : (j t x : ℕ) → j ≢ t → (if nat_lt j (t + 1) then x else 0) ≡ (if nat_lt j t then x else 0)
    there j t x ne = elim (cases_lt j t) [
      | inl low ↦ less j t (t + 1) x low (omega (arith, low))
      | inr high ↦ more j t (t + 1) x high (omega (arith, high, ne))
    ]
      where
        less : (j a b x : ℕ) → j < a → j < b → (if nat_lt j b then x else 0) ≡ (if nat_lt j a then x else 0)
        less j a b x h k = grind (arith, nat_tests)

        more : (j a b x : ℕ) → a ≤ j → b ≤ j → (if nat_lt j b then x else 0) ≡ (if nat_lt j a then x else 0)
        more j a b x h k = grind (arith, nat_tests)

empty_page : (bytes : List ℕ) (i at : ℕ) → is_full bytes i ≡ false → i * PAGE_BYTES ≤ at → at < i * PAGE_BYTES + PAGE_BYTES → get_or bytes at 0 ≡ 0
unfolding is_full
empty_page bytes i at none from to =
    let off = at - i * PAGE_BYTES in
    let zero : get_or (page_of bytes i) off 0 ≡ 0 = zero_at (page_of bytes i) (not_false (are_zero (page_of bytes i)) none) off in
    let is : i * PAGE_BYTES + off ≡ at = omega (arith, from) in
    ap (λ (k : ℕ). get_or bytes k 0) (sym is)
    ∙ sym (get_or-take PAGE_BYTES (drop (i * PAGE_BYTES) bytes) off 0 (omega (arith, from, to)) ∙ get_or-drop (i * PAGE_BYTES) bytes off 0)
    ∙ zero
  where
    not_false : (b : Bool) → not b ≡ false → b ≡ true
    not_false true h = refl
    not_false false h = sym h

pub first_skip : (bytes : List ℕ) (i : ℕ) → is_full bytes i ≡ false → first_bytes bytes ((i + 1) * PAGE_BYTES) ≡ first_bytes bytes (i * PAGE_BYTES)
first_skip bytes i none = same_tabulate MEMORY_BYTES (λ at. if nat_lt at ((i + 1) * PAGE_BYTES) then get_or bytes at 0 else 0)
    (λ at. if nat_lt at (i * PAGE_BYTES) then get_or bytes at 0 else 0)
    (λ at below. elim (cases_lt at (i * PAGE_BYTES)) [
      | inl low ↦ within (get_or bytes at 0) at ((i + 1) * PAGE_BYTES) (i * PAGE_BYTES) (omega (arith, low)) low
      | inr high ↦ elim (cases_lt at ((i + 1) * PAGE_BYTES)) [
        | inl low ↦ gone (get_or bytes at 0) at ((i + 1) * PAGE_BYTES) (i * PAGE_BYTES) (empty_page bytes i at none high (omega (arith, low)))
        | inr past ↦ beyond (get_or bytes at 0) at ((i + 1) * PAGE_BYTES) (i * PAGE_BYTES) past high
      ]
    ])
  where
    within : (x at a b : ℕ) → at < a → at < b → (if nat_lt at a then x else 0) ≡ (if nat_lt at b then x else 0)
    within x at a b h k = grind (arith, nat_tests)

    beyond : (x at a b : ℕ) → a ≤ at → b ≤ at → (if nat_lt at a then x else 0) ≡ (if nat_lt at b then x else 0)
    beyond x at a b h k = grind (arith, nat_tests)

    choice : (b : Bool) → ◌≡◌ {A = ℕ} (if b then 0 else 0) 0
    choice true = refl
    choice false = refl

    gone : (x at a b : ℕ) → x ≡ 0 → (if nat_lt at a then x else 0) ≡ (if nat_lt at b then x else 0)
    gone x at a b e = ap (λ (y : ℕ). if nat_lt at a then y else 0) e ∙ choice (nat_lt at a)
        ∙ sym (ap (λ (y : ℕ). if nat_lt at b then y else 0) e ∙ choice (nat_lt at b))

-- Which pages are taken.

opened_elsewhere : (bytes : List ℕ) (i j : ℕ) → j ≢ i → is_opened bytes (i + 1) j ≡ is_opened bytes i j
opened_elsewhere bytes i j ne = ap (λ (b : Bool). b && is_full bytes j) (elim (cases_lt j i) [
  | inl low ↦ less j i low
  | inr high ↦ more j i (omega (arith, high, ne))
])
  where
    less : (j i : ℕ) → j < i → nat_lt j (i + 1) ≡ nat_lt j i
    less j i h = grind (arith, nat_tests)

    more : (j i : ℕ) → i + 1 ≤ j → nat_lt j (i + 1) ≡ nat_lt j i
    more j i h = grind (arith, nat_tests)

pub not_opened : (bytes : List ℕ) (i : ℕ) → is_opened bytes i i ≡ false
not_opened bytes i = ap (λ (b : Bool). b && is_full bytes i) (irreflexive i)
  where
    irreflexive : (i : ℕ) → nat_lt i i ≡ false
    irreflexive i = grind (arith, nat_tests)

-- How many pages are taken.

pub count_le : (f g : ℕ → Bool) (n : ℕ) → ((j : ℕ) → f j ≡ true → g j ≡ true) → count_by (λ b. b) (tabulate n f) ≤ count_by (λ b. b) (tabulate n g)
count_le f g zero h = let a = counted_none f in omega (arith, a)
count_le f g (suc n) h =
    let rest = count_le f g n h in
    let a = counted_more f n in
    let b = counted_more g n in
    let one = one_le (f n) (g n) (h n) in
    let next : n + 1 ≡ suc n = omega arith in
    let at = ap (λ (k : ℕ). count_by (λ b. b) (tabulate k f)) next in
    let bt = ap (λ (k : ℕ). count_by (λ b. b) (tabulate k g)) next in
    omega (arith, rest, a, b, one, at, bt)
  where
    one_le : (a b : Bool) → (a ≡ true → b ≡ true) → one_if a ≤ one_if b
    one_le true true h = omega arith
    one_le true false h = absurd (not_both (h refl))
      where
        not_both : false ≡ true → ⊥
        not_both e = cc
    one_le false b h = omega arith

-- What is written into a page.

not_both : false ≡ true → ⊥
not_both e = cc

written_here : (s : Store) (m at byte : ℕ) → IsIn s m
    → memory (written s m at byte) m ≡ Some (record (the_memory s m) { bytes = set (the_memory s m).bytes at byte })
written_here s m at byte known =
    get_or-set_same s.memories m (Some (record (the_memory s m) { bytes = set (the_memory s m).bytes at byte })) None (in_list s.memories m known)

pub written_other : (s : Store) (m at byte k : ℕ) → k ≢ m → memory (written s m at byte) k ≡ memory s k
written_other s m at byte k ne = get_or-set_other s.memories m k (Some (record (the_memory s m) { bytes = set (the_memory s m).bytes at byte })) None ne

pub nothing_put : (s : Store) (m end : ℕ) (bytes : List ℕ) → IsIn s m → (the_memory s m).bytes ≡ first_bytes bytes end → IsPut s s m bytes end
nothing_put s m end bytes known first = record {
  here = is_there s m known ∙ (λ i. Some (record (the_memory s m) { bytes = first i }));
  others = λ k ne. refl;
  peak = refl;
}

pub put_alive : (old s : Store) (m end : ℕ) (bytes : List ℕ) → IsPut old s m bytes end → IsIn s m
put_alive old s m end bytes put = ap is_some put.here

-- the pages stay what they are
pub put_pages : (old s : Store) (m end : ℕ) (bytes : List ℕ) → IsPut old s m bytes end → (k : ℕ) → (the_memory s k).pages ≡ (the_memory old k).pages
put_pages old s m end bytes put k = elim (cases_eq k m) [
  | inl e ↦ ap (λ (q : ℕ). (the_memory s q).pages) e ∙ ap (λ (x : Option Memory). (or_empty x).pages) put.here
      ∙ sym (ap (λ (q : ℕ). (the_memory old q).pages) e)
  | inr ne ↦ ap (λ (x : Option Memory). (or_empty x).pages) (put.others k ne)
]

pub put_all : (old s : Store) (m end : ℕ) (bytes : List ℕ) → IsPut old s m bytes end → all_pages s ≡ all_pages old
put_all old s m end bytes put = joined_same s.memories old.memories (put_pages old s m end bytes put)

pub put_own : (old s : Store) (m end k i : ℕ) (bytes : List ℕ) → IsPut old s m bytes end → is_own s k i ≡ is_own old k i
put_own old s m end k i bytes put =
    ap (λ (xs : List ℕ). nat_lt 0 (get_or xs i 0) && (occurs (get_or xs i 0) (all_pages s) == 1)) (put_pages old s m end bytes put k)
    ∙ ap (λ (xs : List ℕ). nat_lt 0 (page old k i) && (occurs (page old k i) xs == 1)) (put_all old s m end bytes put)

pub put_owns : (old s : Store) (m number at : ℕ) (bytes : List ℕ) → IsPut old s m bytes (number * PAGE_BYTES + at) → at < PAGE_BYTES
    → is_own old m number ≡ true → owns s m (number * PAGE_BYTES + at) ≡ true
put_owns old s m number at bytes put low own =
    let same : (number * PAGE_BYTES + at) / PAGE_BYTES ≡ number = omega (arith, low) in
    ap (is_own s m) same ∙ put_own old s m (number * PAGE_BYTES + at) m number bytes put ∙ own

pub put_next : (old s t : Store) (m end : ℕ) (bytes : List ℕ) → IsPut old s m bytes end → end < MEMORY_BYTES → t ≡ written s m end (get_or bytes end 0)
    → IsPut old t m bytes (end + 1)
put_next old s t m end bytes put low is =
    let known = put_alive old s m end bytes put in
    let was : the_memory s m ≡ record (the_memory old m) { bytes = first_bytes bytes end } = ap or_empty put.here in
    record {
      here = ap (λ (u : Store). memory u m) is
          ∙ written_here s m end (get_or bytes end 0) known
          ∙ ap (λ (x : Memory). Some (record x { bytes = set x.bytes end (get_or bytes end 0) })) was
          ∙ ap (λ (bs : List ℕ). Some (record (the_memory old m) { bytes = bs })) (sym (first_next bytes end low));
      others = λ k ne. ap (λ (u : Store). memory u k) is ∙ written_other s m end (get_or bytes end 0) k ne ∙ put.others k ne;
      peak = ap (λ (u : Store). u.peak) is ∙ put.peak;
    }

-- One page more.

not_own : (s : Store) (m i : ℕ) → page s m i ≡ 0 → is_own s m i ≡ false
not_own s m i e = none (page s m i) (occurs (page s m i) (all_pages s)) e
  where
    none : (p n : ℕ) → p ≡ 0 → (nat_lt 0 p && (n == 1)) ≡ false
    none p n h = grind (arith, nat_tests)

-- a page that is zero
pub skipped : (s : Store) (m i : ℕ) (bytes : List ℕ) → IsIn s m → (the_memory s m).bytes ≡ first_bytes bytes (i * PAGE_BYTES) → page s m i ≡ 0
    → used_pages s ≤ s.peak → is_full bytes i ≡ false → IsNext s s m bytes i
skipped s m i bytes known before empty most none =
    let zero_more = ap one_if none in
    record {
      alive = known;
      bytes = before ∙ sym (first_skip bytes i none);
      long = refl;
      zero = λ _. empty;
      own = λ full. absurd (not_both (sym none ∙ full));
      same = λ j ne. refl;
      grown = λ k j h. h;
      others = λ k ne. refl;
      used = omega (arith, zero_more);
      peak = omega (arith, most);
    }

-- a page that isn't, and that was made the memory's own and filled
pub filled : (s t u : Store) (m i : ℕ) (bytes : List ℕ) → page s m i ≡ 0 → IsMadeOwn s t m i → IsPut t u m bytes (i * PAGE_BYTES + PAGE_BYTES)
    → is_full bytes i ≡ true → IsNext s u m bytes i
filled s t u m i bytes empty made put full =
    let end : i * PAGE_BYTES + PAGE_BYTES ≡ (i + 1) * PAGE_BYTES = omega arith in
    let here = ap or_empty put.here in
    let there = ap or_empty made.here in
    let used = made.used in
    let none = ap one_if (not_own s m i empty) in
    let one = ap one_if full in
    let all = ap (λ (xs : List ℕ). different xs) (put_all t u m (i * PAGE_BYTES + PAGE_BYTES) bytes put) in
    record {
      alive = ap is_some put.here;
      bytes = ap (λ (x : Memory). x.bytes) here ∙ ap (first_bytes bytes) end;
      long = ap length (put_pages t u m (i * PAGE_BYTES + PAGE_BYTES) bytes put m) ∙ ap (λ (x : Memory). length x.pages) there
          ∙ length-set (the_memory s m).pages i (page t m i);
      zero = λ none. absurd (not_both (sym none ∙ full));
      own = λ _. put_own t u m (i * PAGE_BYTES + PAGE_BYTES) m i bytes put ∙ made.own;
      same = λ j ne. ap (λ (xs : List ℕ). get_or xs j 0) (put_pages t u m (i * PAGE_BYTES + PAGE_BYTES) bytes put m)
          ∙ ap (λ (x : Memory). get_or x.pages j 0) there ∙ get_or-set_other (the_memory s m).pages i j (page t m i) 0 ne;
      grown = λ k j h. put_own t u m (i * PAGE_BYTES + PAGE_BYTES) k j bytes put ∙ made.grown k j h;
      others = λ k ne. put.others k ne ∙ made.others k ne;
      used = omega (arith, used, none, one, all);
      peak = put.peak ∙ made.peak ∙ ap (λ (q : ℕ). max s.peak (q + 1)) (sym all);
    }

-- All pages.

-- a memory of zeros
pub opened_none : (s : Store) (m : ℕ) (bytes : List ℕ) → memory s m ≡ Some zero_memory → used_pages s ≤ s.peak → IsOpened s s m bytes 0
opened_none s m bytes is most =
    let there = ap or_empty is in
    let none = none_taken memory_pages in
    let count = ap (count_by (λ b. b)) (same_tabulate memory_pages (is_opened bytes 0) (λ _. false) (λ j low. nowhere j (is_full bytes j))) in
    record {
      alive = ap is_some is;
      bytes = ap (λ (x : Memory). x.bytes) there
          ∙ same_tabulate MEMORY_BYTES (λ _. 0) (λ at. if nat_lt at (0 * PAGE_BYTES) then get_or bytes at 0 else 0)
          (λ at low. sym (never at (get_or bytes at 0)));
      long = ap (λ (x : Memory). length x.pages) there ∙ length-tabulate memory_pages (λ _. 0);
      zero = λ i low _. ap (λ (x : Memory). get_or x.pages i 0) there ∙ at_tabulate memory_pages (λ _. 0) i 0 low;
      own = λ i low own. absurd (not_both (sym (nowhere i (is_full bytes i)) ∙ own));
      others = λ k ne. refl;
      used = omega (arith, none, count);
      peak = omega (arith, most);
    }
  where
    never : (at x : ℕ) → (if nat_lt at 0 then x else 0) ≡ 0
    never at x = grind (arith, nat_tests)

    nowhere : (j : ℕ) (b : Bool) → (nat_lt j 0 && b) ≡ false
    nowhere j b = ap (λ (a : Bool). a && b) (none j)
      where
        none : (j : ℕ) → nat_lt j 0 ≡ false
        none j = grind (arith, nat_tests)

    none_taken : (n : ℕ) → count_by (λ b. b) (tabulate n (λ _. false)) ≡ 0
    none_taken zero = counted_none (λ _. false)
    none_taken (suc n) =
        let more = counted_more (λ _. false) n in
        let rest = none_taken n in
        let next = ap (λ (k : ℕ). count_by (λ b. b) (tabulate k (λ _. false))) (let e : suc n ≡ n + 1 = omega arith in e) in
        omega (arith, more, rest, next)

-- the page of the memory that comes next is the zero page
pub opened_empty : (old s : Store) (m i : ℕ) (bytes : List ℕ) → IsOpened old s m bytes i → i < memory_pages → page s m i ≡ 0
opened_empty old s m i bytes opened low = opened.zero i low (not_opened bytes i)

-- how many of the pages are taken
opened_count : (bytes : List ℕ) (i n : ℕ) → n ≤ i → count_by (λ b. b) (tabulate n (is_opened bytes (i + 1))) ≡ count_by (λ b. b)
    (tabulate n (is_opened bytes i))
opened_count bytes i n le = ap (count_by (λ b. b)) (same_tabulate n (is_opened bytes (i + 1)) (is_opened bytes i)
    (λ j low. opened_elsewhere bytes i j (λ e. absurd (omega (arith, e, low, le)))))

count_more : (bytes : List ℕ) (i n : ℕ) → i < n
    → count_by (λ b. b) (tabulate n (is_opened bytes (i + 1))) ≡ count_by (λ b. b) (tabulate n (is_opened bytes i)) + one_if (is_full bytes i)
count_more bytes i zero low = absurd (omega (arith, low))
count_more bytes i (suc n) low =
    let a = counted_more (is_opened bytes (i + 1)) n in
    let b = counted_more (is_opened bytes i) n in
    let e : suc n ≡ n + 1 = omega arith in
    let at = ap (λ (k : ℕ). count_by (λ b. b) (tabulate k (is_opened bytes (i + 1)))) e in
    let bt = ap (λ (k : ℕ). count_by (λ b. b) (tabulate k (is_opened bytes i))) e in
    elim (cases_lt i n) [
      | inl below ↦
          let rest = count_more bytes i n below in
          let same = ap one_if (opened_elsewhere bytes i n (λ e. absurd (omega (arith, e, below)))) in
          omega (arith, a, b, at, bt, rest, same)
      | inr above ↦
          let is : i ≡ n = omega (arith, low, above) in
          let rest = opened_count bytes i n (omega (arith, is)) in
          let now : one_if (is_opened bytes (i + 1) n) ≡ one_if (is_full bytes i) =
          ap (λ (j : ℕ). one_if (is_opened bytes (i + 1) j)) (sym is) ∙ ap one_if (opened_now bytes i) in
          let was : one_if (is_opened bytes i n) ≡ 0 = ap (λ (j : ℕ). one_if (is_opened bytes i j)) (sym is) ∙ ap one_if (not_opened bytes i) in
          omega (arith, a, b, at, bt, rest, now, was)
    ]
  where
    opened_now : (bytes : List ℕ) (i : ℕ) → is_opened bytes (i + 1) i ≡ is_full bytes i
    opened_now bytes i = ap (λ (a : Bool). a && is_full bytes i) (below i)
      where
        below : (i : ℕ) → nat_lt i (i + 1) ≡ true
        below i = grind (arith, nat_tests)

pub opened_more : (old s t : Store) (m i : ℕ) (bytes : List ℕ) → IsOpened old s m bytes i → i < memory_pages → IsNext s t m bytes i
    → IsOpened old t m bytes (i + 1)
opened_more old s t m i bytes opened low next =
    let before = opened.used in
    let used = next.used in
    let was = opened.peak in
    let peak = next.peak in
    let count = count_more bytes i memory_pages low in
    record {
      alive = next.alive;
      bytes = next.bytes;
      long = next.long ∙ opened.long;
      zero = λ j below none. elim (cases_eq j i) [
        | inl e ↦ ap (page t m) e ∙ next.zero (sym (now i (is_full bytes i)) ∙ sym (ap (is_opened bytes (i + 1)) e) ∙ none)
        | inr ne ↦ next.same j ne ∙ opened.zero j below (sym (opened_elsewhere bytes i j ne) ∙ none)
      ];
      own = λ j below own. elim (cases_eq j i) [
        | inl e ↦ ap (is_own t m) e ∙ next.own (sym (now i (is_full bytes i)) ∙ sym (ap (is_opened bytes (i + 1)) e) ∙ own)
        | inr ne ↦ next.grown m j (opened.own j below (sym (opened_elsewhere bytes i j ne) ∙ own))
      ];
      others = λ k ne. next.others k ne ∙ opened.others k ne;
      used = omega (arith, before, used, count);
      peak = omega (arith, was, peak, used);
    }
  where
    now : (i : ℕ) (b : Bool) → (nat_lt i (i + 1) && b) ≡ b
    now i b = ap (λ (a : Bool). a && b) (below i)
      where
        below : (i : ℕ) → nat_lt i (i + 1) ≡ true
        below i = grind (arith, nat_tests)

-- no more than all of them
pub opened_left : (old s : Store) (m i : ℕ) (bytes : List ℕ) → IsOpened old s m bytes i → IsLeft old s m (full_count bytes)
opened_left old s m i bytes opened =
    let used = opened.used in
    let le = count_le (is_opened bytes i) (is_full bytes) memory_pages (λ j h. both_right (nat_lt j i) (is_full bytes j) h) in
    record {
      alive = opened.alive;
      others = opened.others;
      few = omega (arith, used, le);
      peak = opened.peak;
    }

all_opened : (bytes : List ℕ) (i : ℕ) → i < memory_pages → is_opened bytes memory_pages i ≡ is_full bytes i
all_opened bytes i low = ap (λ (a : Bool). a && is_full bytes i) (below i memory_pages low)
  where
    below : (j n : ℕ) → j < n → nat_lt j n ≡ true
    below j n h = grind (arith, nat_tests)

pub opened_all : (old s : Store) (m : ℕ) (bytes : List ℕ) → length bytes ≡ MEMORY_BYTES → IsOpened old s m bytes memory_pages → IsBegun s m bytes
opened_all old s m bytes long opened = record {
  alive = opened.alive;
  bytes = opened.bytes ∙ same_number_lists (first_bytes bytes (memory_pages * PAGE_BYTES)) bytes
      (length-tabulate MEMORY_BYTES (λ at. if nat_lt at (memory_pages * PAGE_BYTES) then get_or bytes at 0 else 0) ∙ sym long)
      (λ k low.
      let below : k < MEMORY_BYTES = (let l = length-tabulate MEMORY_BYTES (λ at. if nat_lt at (memory_pages * PAGE_BYTES) then get_or bytes at 0 else 0) in
      omega (arith, l, low)) in
      at_tabulate MEMORY_BYTES (λ at. if nat_lt at (memory_pages * PAGE_BYTES) then get_or bytes at 0 else 0) k 0 below
      ∙ within (get_or bytes k 0) k (memory_pages * PAGE_BYTES) (omega (arith, below)));
  long = opened.long;
  zero = λ i low none. opened.zero i low (all_opened bytes i low ∙ none);
  own = λ i low full. opened.own i low (all_opened bytes i low ∙ full);
}
  where
    within : (x at a : ℕ) → at < a → (if nat_lt at a then x else 0) ≡ x
    within x at a h = grind (arith, nat_tests)

pub opened_used : (old s : Store) (m : ℕ) (bytes : List ℕ) → IsOpened old s m bytes memory_pages → used_pages s ≡ used_pages old + full_count bytes
opened_used old s m bytes opened =
    let used = opened.used in
    let count = ap (count_by (λ b. b)) (same_tabulate memory_pages (is_opened bytes memory_pages) (is_full bytes) (all_opened bytes)) in
    omega (arith, used, count)

-- What a memory of zeros shows.

pub zero_seen : (es bs : List ℕ) (n : ℕ) → ((i : ℕ) → i < memory_pages → get_or es (n * memory_pages + i) 0 ≡ 0)
    → ((o : ℕ) → o < PAGE_BYTES → get_or bs o 0 ≡ 0) → memory_seen es bs n ≡ zero_memory
zero_seen es bs n zeros zero_page =
    let bytes = same_tabulate MEMORY_BYTES (byte_at es bs n) (λ _. 0)
    (λ b low. ap (λ (p : ℕ). get_or bs (p * PAGE_BYTES + b % PAGE_BYTES) 0) (zeros (b / PAGE_BYTES) (omega (arith, low)))
    ∙ zero_page (0 * PAGE_BYTES + b % PAGE_BYTES) (omega arith)) in
    let pages = same_tabulate memory_pages (λ i. get_or es (n * memory_pages + i) 0) (λ _. 0) zeros in
    λ k. record { bytes = bytes k; pages = pages k }
