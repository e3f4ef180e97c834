-- A memory that is let go.
use Rattle.shared_pages.specs.Size.{memory_pages}
use Rattle.std.proofs.Common.{◌≡◌, ◌≢◌, ℕ, zero, suc, ◌+◌, ◌-◌, ◌*◌, ◌<◌, ◌≤◌, ◌⊎◌, List, length, get_or, set, arith, ap, sym, ◌∙◌}
use Rattle.std.proofs.Common.{inl, inr, get_or-set_same, get_or-set_other}
use Rattle.std.specs.Prelude.{nat_lt, ◌&&◌}
use Rattle.std.specs.List.{count_by}
use Rattle.std.proofs.Math.ListN.{length-set}
use Rattle.std.proofs.lemmas.Bool.{cases_eq}
use Rattle.shared_pages.specs.Counts.{Names, one_if}
use Rattle.shared_pages.specs.Rows.{IsCleared, own_below}
use Rattle.shared_pages.specs.Store.{IsStore, IsIn, tabulate, own_at, is_own, is_live, seen, memory, own_count, used_pages}
use Rattle.shared_pages.proofs.Tabulate.{counted_none, counted_more, same_tabulate}
use Rattle.shared_pages.proofs.Views.{own_seen, used_seen}
use Rattle.shared_pages.proofs.ForkSteps.{row_apart, copy_seen}
use Rattle.shared_pages.proofs.Kept.{same_memory}

-- an entry outside the row
unmoved : (old new : Names) (m j : ℕ) → IsCleared memory_pages old new m memory_pages → (j < m * memory_pages) ⊎ (m * memory_pages + memory_pages ≤ j)
    → get_or new.entries j 0 ≡ get_or old.entries j 0
unmoved old new m j cleared far = elim far [ inl k ↦ cleared.below j k | inr k ↦ cleared.above j k ]

-- the numbers of the memories that are left
left_live : (slots : List ℕ) (m k n : ℕ) → k ≢ m → is_live (set slots m n) k ≡ is_live slots k
left_live slots m k n ne = ap (λ (q : ℕ). nat_lt 0 k && nat_lt 0 q) (get_or-set_other slots m k n 0 ne)

-- no other memory changes
pub released_same : (slots : List ℕ) (old new : Names) (bs : List ℕ) (p m k : ℕ) → IsCleared memory_pages old new m memory_pages → k ≢ m
    → memory (seen (set slots m (get_or slots m 0 - 1)) new bs p) k ≡ memory (seen slots old bs p) k
released_same slots old new bs p m k cleared ne =
    same_memory slots (set slots m (get_or slots m 0 - 1)) old new bs bs p p k (left_live slots m k (get_or slots m 0 - 1) ne)
    (λ live. copy_seen old.entries new.entries bs k k (λ i h. unmoved old new m (k * memory_pages + i) cleared (row_apart k m i ne h)))

pub released_store : (slots : List ℕ) (old new : Names) (bs : List ℕ) (p m : ℕ) → IsStore slots old bs p → IsCleared memory_pages old new m memory_pages
    → m < length slots → 0 < m → IsStore (set slots m (get_or slots m 0 - 1)) new bs p
released_store slots old new bs p m store cleared below some =
    let tables = store.tables in
    let few = store.few in
    let long = cleared.long in
    let same = length-set slots m (get_or slots m 0 - 1) in
    let pages = store.pages in
    let limit = cleared.limit in
    let most = store.most in
    let used = cleared.used in
    record {
      tables = omega (arith, tables, long, same);
      few = omega (arith, few, long);
      pages = omega (arith, pages, limit);
      room = store.room;
      zero = store.zero;
      dead = λ k i none low. elim (cases_eq k m) [
        | inl e ↦ ap (λ (r : ℕ). get_or new.entries (r * memory_pages + i) 0) e ∙ cleared.cleared i low
        | inr ne ↦ unmoved old new m (k * memory_pages + i) cleared (row_apart k m i ne low)
            ∙ store.dead k i (sym (left_live slots m k (get_or slots m 0 - 1) ne) ∙ none) low
      ];
      once = λ k other. elim (cases_eq k m) [
        | inl e ↦
            let at : get_or (set slots m (get_or slots m 0 - 1)) k 0 ≡ get_or slots m 0 - 1 = ap (λ (r : ℕ). get_or (set slots m
            (get_or slots m 0 - 1)) r 0) e ∙ get_or-set_same slots m (get_or slots m 0 - 1) 0 below in
            omega (arith, at, store.once m some)
        | inr ne ↦ let at = get_or-set_other slots m k (get_or slots m 0 - 1) 0 ne in omega (arith, at, store.once k other)
      ];
      apart = λ k i j low lower full e. elim (cases_eq k m) [
        | inl same ↦ absurd (full (ap (λ (r : ℕ). get_or new.entries (r * memory_pages + i) 0) same ∙ cleared.cleared i low))
        | inr ne ↦
            let here = unmoved old new m (k * memory_pages + i) cleared (row_apart k m i ne low) in
            let there = unmoved old new m (k * memory_pages + j) cleared (row_apart k m j ne lower) in
            store.apart k i j low lower (λ z. full (here ∙ z)) (sym here ∙ e ∙ there)
      ];
      most = omega (arith, most, used);
    }

-- a count of the pages of a row
pub counted_own : (es : List ℕ) (m n : ℕ) → count_by (λ b. b) (tabulate n (λ i. own_at es (m * memory_pages + i))) ≡ own_below memory_pages es m n
unfolding own_below
counted_own es m zero = counted_none (λ i. own_at es (m * memory_pages + i))
counted_own es m (suc n) =
    let next : suc n ≡ n + 1 = omega arith in
    ap (λ (k : ℕ). count_by (λ b. b) (tabulate k (λ i. own_at es (m * memory_pages + i)))) next
    ∙ counted_more (λ i. own_at es (m * memory_pages + i)) n
    ∙ ap (λ (k : ℕ). k + one_if (own_at es (m * memory_pages + n))) (counted_own es m n)

pub own_counted : (slots : List ℕ) (names : Names) (bs : List ℕ) (p m : ℕ) → IsStore slots names bs p → IsIn (seen slots names bs p) m
    → own_count (seen slots names bs p) m ≡ own_below memory_pages names.entries m memory_pages
own_counted slots names bs p m store known =
    ap (count_by (λ b. b)) (same_tabulate memory_pages (is_own (seen slots names bs p) m) (λ i. own_at names.entries (m * memory_pages + i))
    (λ i low. own_seen slots names bs p m i store known low))
    ∙ counted_own names.entries m memory_pages

-- how many pages are used
pub released_used : (slots : List ℕ) (old new : Names) (bs : List ℕ) (p m : ℕ) → IsStore slots old bs p → IsCleared memory_pages old new m memory_pages
    → m < length slots → 0 < m → IsIn (seen slots old bs p) m
    → used_pages (seen (set slots m (get_or slots m 0 - 1)) new bs p) + own_count (seen slots old bs p) m ≡ used_pages (seen slots old bs p)
released_used slots old new bs p m store cleared below some known =
    let was = used_seen slots old bs p store in
    let now = used_seen (set slots m (get_or slots m 0 - 1)) new bs p (released_store slots old new bs p m store cleared below some) in
    let count = own_counted slots old bs p m store known in
    let used = cleared.used in
    omega (arith, was, now, count, used)
