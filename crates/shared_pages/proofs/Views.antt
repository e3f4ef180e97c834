-- What is seen of the fields.
use Rattle.am_base.specs.declared.limits.TheConstants.{MEMORY_BYTES, PAGE_BYTES}
use Rattle.shared_pages.specs.Size.{memory_pages}
use Rattle.std.proofs.Common.{◌≡◌, ◌≢◌, ℕ, zero, suc, ◌+◌, ◌-◌, ◌*◌, ◌/◌, ◌%◌, ◌<◌, ◌≤◌, List, Option, Some, None, Bool, true, false}
use Rattle.std.proofs.Common.{length, get_or, set, arith, ap, sym, ◌∙◌, refl, get_or-set_same, get_or-set_other, subst, inl, inr}
use Rattle.std.specs.Prelude.{is_some, if◌then◌else◌, nat_lt, ◌&&◌, ◌==◌}
use Rattle.std.specs.List.{sum_by}
use Rattle.std.proofs.Math.ListN.{length-set}
use Rattle.std.proofs.lemmas.Bool.{cases_Bool, cases_lt}
use Rattle.std.proofs.lemmas.Bool.Decides.{nat_tests}
use Rattle.std.proofs.lemmas.List.{get_or_past}
use Rattle.shared_pages.specs.Counts.{occurs, different, Names}
use Rattle.shared_pages.specs.Store.{Memory, Store, tabulate, byte_at, own_at, is_live, memory_seen, memory_at, seen, memory, page, is_own, all_pages}
use Rattle.shared_pages.specs.Store.{the_memory, or_empty, IsIn, owns, written, IsStore}
use Rattle.shared_pages.proofs.Owners.{occurs_once}
use Rattle.shared_pages.proofs.Tabulate.{at_tabulate, past_tabulate, same_tabulate, set_tabulate, sum_start, sum_more, occurs_split}
use Rattle.shared_pages.proofs.Tabulate.{occurs_blank, as_tabulate}
use Rattle.shared_pages.proofs.Joined.{joined_sum, different_same}

-- a number with a memory is one of the slots, not the first, and has an owner
pub live_below : (slots es bs : List ℕ) (m : ℕ) → is_some (get_or (tabulate (length slots) (memory_at slots es bs)) m None) ≡ true → m < length slots
live_below slots es bs m h = elim (cases_lt m (length slots)) [
  | inl k ↦ k
  | inr k ↦ absurd (not_none (ap is_some (past_tabulate (length slots) (memory_at slots es bs) m None k)) h)
]
  where
    not_none : {b : Bool} → b ≡ false → b ≡ true → ⊥
    not_none e f = cc

pub live_is : (slots es bs : List ℕ) (m : ℕ) → is_some (get_or (tabulate (length slots) (memory_at slots es bs)) m None) ≡ true
    → get_or (tabulate (length slots) (memory_at slots es bs)) m None ≡ Some (memory_seen es bs m)
live_is slots es bs m h =
    let k = live_below slots es bs m h in
    let e = at_tabulate (length slots) (memory_at slots es bs) m None k in
    e ∙ chosen (is_live slots m) (memory_seen es bs m) (ap is_some (sym e) ∙ h)
  where
    chosen : (b : Bool) (x : Memory) → is_some (if b then Some x else None) ≡ true → (if b then Some x else None) ≡ Some x
    chosen true x h = refl
    chosen false x h = absurd cc

pub table_in : (slots : List ℕ) (names : Names) (bs : List ℕ) (peak m i : ℕ) → IsStore slots names bs peak → IsIn (seen slots names bs peak) m
    → i < memory_pages → m * memory_pages + i < length names.entries
table_in slots names bs peak m i s known h =
    let below = live_below slots names.entries bs m known in
    let tables = s.tables in
    omega (arith, below, tables)

pub memory_is : (slots : List ℕ) (names : Names) (bs : List ℕ) (peak m : ℕ) → IsIn (seen slots names bs peak) m
    → the_memory (seen slots names bs peak) m ≡ memory_seen names.entries bs m
memory_is slots names bs peak m known = ap or_empty (live_is slots names.entries bs m known)

pub read_seen : (slots : List ℕ) (names : Names) (bs : List ℕ) (peak m at : ℕ) → IsIn (seen slots names bs peak) m → at < MEMORY_BYTES
    → get_or (the_memory (seen slots names bs peak) m).bytes at 0 ≡ byte_at names.entries bs m at
read_seen slots names bs peak m at known h =
    ap (λ (x : Memory). get_or x.bytes at 0) (memory_is slots names bs peak m known) ∙ at_tabulate MEMORY_BYTES (byte_at names.entries bs m) at 0 h

-- The pages that are seen.

pub page_seen : (slots : List ℕ) (names : Names) (bs : List ℕ) (peak m i : ℕ) → IsIn (seen slots names bs peak) m → i < memory_pages
    → page (seen slots names bs peak) m i ≡ get_or names.entries (m * memory_pages + i) 0
page_seen slots names bs peak m i known h =
    ap (λ (x : Memory). get_or x.pages i 0) (memory_is slots names bs peak m known)
    ∙ at_tabulate memory_pages (λ i. get_or names.entries (m * memory_pages + i) 0) i 0 h

-- a place with a page other than 0 is one of a memory
pub page_place : (slots : List ℕ) (names : Names) (bs : List ℕ) (peak m i : ℕ) → 0 < page (seen slots names bs peak) m i
    → IsIn (seen slots names bs peak) m × (i < memory_pages)
page_place slots names bs peak m i some = elim (cases_Bool (is_some (memory (seen slots names bs peak) m))) [
  | inl known ↦ (
    known,
    elim (cases_lt i memory_pages) [
      | inl low ↦ low
      | inr high ↦
          let none : page (seen slots names bs peak) m i ≡ 0 = ap (λ (x : Memory). get_or x.pages i 0) (memory_is slots names bs peak m known)
          ∙ past_tabulate memory_pages (λ i. get_or names.entries (m * memory_pages + i) 0) i 0 high in
          absurd (omega (arith, none, some))
    ],
  )
  | inr out ↦ let none = no_pages (memory (seen slots names bs peak) m) i out in absurd (omega (arith, none, some))
]
  where
    no_pages : (o : Option Memory) (i : ℕ) → is_some o ≡ false → get_or (or_empty o).pages i 0 ≡ 0
    no_pages None i h = refl
    no_pages (Some x) i h = absurd (both h)
      where
        both : true ≡ false → ⊥
        both e = cc

pub not_live : (slots : List ℕ) (k : ℕ) → get_or slots k 0 ≡ 0 → is_live slots k ≡ false
not_live slots k h = none k (get_or slots k 0) h
  where
    none : (p n : ℕ) → n ≡ 0 → (nat_lt 0 p && nat_lt 0 n) ≡ false
    none p n h = grind (arith, nat_tests)

-- a number stands among the pages of a memory as often as in its row
row_counted : (slots : List ℕ) (names : Names) (bs : List ℕ) (peak p n : ℕ) → IsStore slots names bs peak → 0 < p
    → occurs p (or_empty (memory_at slots names.entries bs n)).pages ≡ occurs p (tabulate memory_pages (λ i. get_or names.entries (n * memory_pages + i) 0))
row_counted slots names bs peak p n store some = elim (cases_Bool (is_live slots n)) [
  | inl e ↦ ap (λ (b : Bool). occurs p (or_empty (if b then Some (memory_seen names.entries bs n) else None)).pages) e
  | inr e ↦ ap (λ (b : Bool). occurs p (or_empty (if b then Some (memory_seen names.entries bs n) else None)).pages) e
      ∙ sym (occurs_blank p memory_pages (λ i. get_or names.entries (n * memory_pages + i) 0) some (λ i low. store.dead n i e low))
]

rows_counted : (slots : List ℕ) (names : Names) (bs : List ℕ) (peak p n : ℕ) → IsStore slots names bs peak → 0 < p
    → sum_by (λ (o : Option Memory). occurs p (or_empty o).pages) (tabulate n (memory_at slots names.entries bs))
    ≡ occurs p (tabulate (n * memory_pages) (λ j. get_or names.entries j 0))
rows_counted slots names bs peak p zero store some =
    let none = sum_start (λ (o : Option Memory). occurs p (or_empty o).pages) (memory_at slots names.entries bs) in
    let also = occurs_blank p (zero * memory_pages) (λ j. get_or names.entries j 0) some (λ i low. absurd (omega (arith, low))) in
    omega (arith, none, also)
rows_counted slots names bs peak p (suc n) store some =
    let g : Option Memory → ℕ = λ o. occurs p (or_empty o).pages in
    let f : ℕ → ℕ = λ j. get_or names.entries j 0 in
    let long = ap (λ (k : ℕ). sum_by g (tabulate k (memory_at slots names.entries bs))) (let e : suc n ≡ n + 1 = omega arith in e) in
    let last = sum_more g (memory_at slots names.entries bs) n in
    let row = row_counted slots names bs peak p n store some in
    let rest = rows_counted slots names bs peak p n store some in
    let split = occurs_split p (n * memory_pages) memory_pages f in
    let end = ap (λ (k : ℕ). occurs p (tabulate k f)) (let e : suc n * memory_pages ≡ n * memory_pages + memory_pages = omega arith in e) in
    long ∙ last ∙ ap (λ (k : ℕ). k + g (memory_at slots names.entries bs n)) rest
    ∙ ap (λ (k : ℕ). occurs p (tabulate (n * memory_pages) f) + k) row ∙ sym split ∙ sym end

-- and among the pages of all memories as often as among all entries
pub all_counted : (slots : List ℕ) (names : Names) (bs : List ℕ) (peak p : ℕ) → IsStore slots names bs peak → 0 < p
    → occurs p (all_pages (seen slots names bs peak)) ≡ occurs p names.entries
all_counted slots names bs peak p store some =
    let es = names.entries in
    let n = length slots in
    let f : ℕ → ℕ = λ j. get_or es j 0 in
    let r = length es - n * memory_pages in
    let tables = store.tables in
    let whole = ap (occurs p) (as_tabulate es) in
    let end = ap (λ (k : ℕ). occurs p (tabulate k f)) (let e : length es ≡ n * memory_pages + r = omega (arith, tables) in e) in
    let split = occurs_split p (n * memory_pages) r f in
    let blank = occurs_blank p r (λ i. f (n * memory_pages + i)) some (λ i low.
    let j = n * memory_pages + i in
    let past = not_live slots (j / memory_pages) (get_or_past slots (j / memory_pages) 0 (omega arith)) in
    ap f (let e : j ≡ (j / memory_pages) * memory_pages + j % memory_pages = omega arith in e)
    ∙ store.dead (j / memory_pages) (j % memory_pages) past (omega arith)) in
    let front = joined_sum p (tabulate n (memory_at slots es bs)) in
    let rows = rows_counted slots names bs peak p n store some in
    omega (arith, whole, end, split, blank, front, rows)

pub used_seen : (slots : List ℕ) (names : Names) (bs : List ℕ) (peak : ℕ) → IsStore slots names bs peak
    → different (all_pages (seen slots names bs peak)) ≡ different names.entries
used_seen slots names bs peak store =
    different_same (all_pages (seen slots names bs peak)) names.entries (λ p some. all_counted slots names bs peak p store some)

pub own_seen : (slots : List ℕ) (names : Names) (bs : List ℕ) (peak m i : ℕ) → IsStore slots names bs peak → IsIn (seen slots names bs peak) m
    → i < memory_pages → is_own (seen slots names bs peak) m i ≡ own_at names.entries (m * memory_pages + i)
own_seen slots names bs peak m i store known h =
    let s = seen slots names bs peak in
    let at = m * memory_pages + i in
    let q = get_or names.entries at 0 in
    ap (λ (x : ℕ). nat_lt 0 x && (occurs x (all_pages s) == 1)) (page_seen slots names bs peak m i known h)
    ∙ elim (cases_lt 0 q) [
      | inl some ↦ ap (λ (n : ℕ). nat_lt 0 q && (n == 1)) (all_counted slots names bs peak q store some)
      | inr none ↦ let z : q ≡ 0 = omega (arith, none) in not_own q (occurs q (all_pages s)) z ∙ sym (not_own q (occurs q names.entries) z)
    ]
  where
    not_own : (p n : ℕ) → p ≡ 0 → (nat_lt 0 p && (n == 1)) ≡ false
    not_own p n h = grind (arith, nat_tests)

pub owns_seen : (slots : List ℕ) (names : Names) (bs : List ℕ) (peak m at : ℕ) → IsStore slots names bs peak → IsIn (seen slots names bs peak) m
    → at < MEMORY_BYTES → owns (seen slots names bs peak) m at ≡ own_at names.entries (m * memory_pages + at / PAGE_BYTES)
owns_seen slots names bs peak m at store known h = own_seen slots names bs peak m (at / PAGE_BYTES) store known (omega (arith, h))

-- a page of one's own is named once, and isn't page 0
pub own_is : (es : List ℕ) (at : ℕ) → own_at es at ≡ true → (0 < get_or es at 0) × (occurs (get_or es at 0) es ≡ 1)
own_is es at h = both (get_or es at 0) (occurs (get_or es at 0) es) h
  where
    both : (p n : ℕ) → (nat_lt 0 p && (n == 1)) ≡ true → (0 < p) × (n ≡ 1)
    both p n h = grind (arith, nat_tests)

pub live_at : (slots es bs : List ℕ) (m : ℕ) → is_some (get_or (tabulate (length slots) (memory_at slots es bs)) m None) ≡ true → is_live slots m ≡ true
live_at slots es bs m h =
    let k = live_below slots es bs m h in
    some_then (is_live slots m) (memory_seen es bs m) (ap is_some (sym (at_tabulate (length slots) (memory_at slots es bs) m None k)) ∙ h)
  where
    some_then : (b : Bool) (x : Memory) → is_some (if b then Some x else None) ≡ true → b ≡ true
    some_then true x h = refl
    some_then false x h = h

-- a page that one entry names has its bytes at one address of one memory
same_place : (es : List ℕ) (m at k b : ℕ) → occurs (get_or es (m * memory_pages + at / PAGE_BYTES) 0) es ≡ 1
    → m * memory_pages + at / PAGE_BYTES < length es → k * memory_pages + b / PAGE_BYTES < length es → at < MEMORY_BYTES → b < MEMORY_BYTES
    → get_or es (k * memory_pages + b / PAGE_BYTES) 0 * PAGE_BYTES + b % PAGE_BYTES ≡ get_or es
    (m * memory_pages + at / PAGE_BYTES) 0 * PAGE_BYTES + at % PAGE_BYTES → (k ≡ m) × (b ≡ at)
same_place es m at k b once h below low lower e =
    let page : get_or es (k * memory_pages + b / PAGE_BYTES) 0 ≡ get_or es (m * memory_pages + at / PAGE_BYTES) 0 = omega (arith, e) in
    let entry : k * memory_pages + b / PAGE_BYTES ≡ m * memory_pages + at / PAGE_BYTES = occurs_once (get_or es (m * memory_pages + at / PAGE_BYTES) 0) es
    (k * memory_pages + b / PAGE_BYTES) (m * memory_pages + at / PAGE_BYTES) once below h page refl in
    (omega (arith, entry, low, lower), omega (arith, entry, e, page, low, lower))

pub written_seen : (slots : List ℕ) (names : Names) (bs : List ℕ) (peak m at byte : ℕ) → IsStore slots names bs peak → IsIn (seen slots names bs peak) m
    → at < MEMORY_BYTES
    → owns (seen slots names bs peak) m at ≡ true → get_or names.entries (m * memory_pages + at / PAGE_BYTES) 0 < names.limit
    → seen slots names (set bs (get_or names.entries (m * memory_pages + at / PAGE_BYTES) 0 * PAGE_BYTES + at % PAGE_BYTES) byte) peak ≡ written
    (seen slots names bs peak) m at byte
written_seen slots names bs peak m at byte store known h own limit =
    let es = names.entries in
    let place = get_or es (m * memory_pages + at / PAGE_BYTES) 0 * PAGE_BYTES + at % PAGE_BYTES in
    let next = set bs place byte in
    let is = own_is es (m * memory_pages + at / PAGE_BYTES) (sym (owns_seen slots names bs peak m at store known h) ∙ own) in
    let below = live_below slots es bs m known in
    let pages = store.pages in
    let room : place < length bs = omega (arith, pages, limit) in
    let tables = store.tables in
    let live = live_at slots es bs m known in
    let entry = table_in slots names bs peak m (at / PAGE_BYTES) store known (omega (arith, h)) in
    let old = memory_seen es bs m in
    let bytes : tabulate MEMORY_BYTES (byte_at es next m) ≡ set old.bytes at byte =
    set_tabulate MEMORY_BYTES (byte_at es bs m) (byte_at es next m) at byte h (get_or-set_same bs place byte 0 room)
    (λ b low ne.
    let k = table_in slots names bs peak m (b / PAGE_BYTES) store known (omega (arith, low)) in
    get_or-set_other bs place (get_or es (m * memory_pages + b / PAGE_BYTES) 0 * PAGE_BYTES + b % PAGE_BYTES) byte 0 (λ e. ne
    (same_place es m at m b is.1 entry k h low e).1)) in
    let here : memory_at slots es next m ≡ Some (record old { bytes = set old.bytes at byte }) =
    ap (λ (b : Bool). if b then Some (memory_seen es next m) else None) live ∙ (λ i. Some (record { bytes = bytes i; pages = old.pages })) in
    let others : (k : ℕ) → k < length slots → k ≢ m → memory_at slots es next k ≡ memory_at slots es bs k = (λ k low ne.
    let same : tabulate MEMORY_BYTES (byte_at es next k) ≡ tabulate MEMORY_BYTES (byte_at es bs k) = same_tabulate MEMORY_BYTES (byte_at es next k)
    (byte_at es bs k)
    (λ b lower.
    let j : k * memory_pages + b / PAGE_BYTES < length es = omega (arith, tables, low, lower) in
    get_or-set_other bs place (get_or es (k * memory_pages + b / PAGE_BYTES) 0 * PAGE_BYTES + b % PAGE_BYTES) byte 0 (λ e. ne
    (same_place es m at k b is.1 entry j h lower e).0)) in
    λ i. if is_live slots k then Some (record { bytes = same i; pages = (memory_seen es bs k).pages }) else None) in
    let memories : tabulate (length slots) (memory_at slots es next) ≡ set (tabulate (length slots) (memory_at slots es bs)) m (Some
    (record old { bytes = set old.bytes at byte })) =
    set_tabulate (length slots) (memory_at slots es bs) (memory_at slots es next) m (Some
    (record old { bytes = set old.bytes at byte })) below here others in
    let was : the_memory (seen slots names bs peak) m ≡ old = memory_is slots names bs peak m known in
    subst (λ (x : Memory). seen slots names next peak ≡ record {
      memories = set (tabulate (length slots) (memory_at slots es bs)) m (Some
          (record x { bytes = set x.bytes at byte }));
      peak = peak;
    }) (sym was)
    (λ i. record { memories = memories i; peak = peak })

-- the fields after a write to a page that isn't page 0
pub written_kept : (slots : List ℕ) (names : Names) (bs : List ℕ) (peak place byte : ℕ) → IsStore slots names bs peak → PAGE_BYTES ≤ place
    → IsStore slots names (set bs place byte) peak
written_kept slots names bs peak place byte store h =
    let pages = store.pages in
    let long = length-set bs place byte in
    record {
      tables = store.tables;
      few = store.few;
      pages = omega (arith, pages, long);
      room = let room = store.room in omega (arith, room, long);
      zero = λ o low. get_or-set_other bs place o byte 0 (λ e. absurd (omega (arith, e, low, h))) ∙ store.zero o low;
      dead = store.dead;
      once = store.once;
      apart = store.apart;
      most = store.most;
    }

-- a number without an owner has no memory
pub none_at : (slots es bs : List ℕ) (m : ℕ) → get_or slots m 0 ≡ 0 → get_or (tabulate (length slots) (memory_at slots es bs)) m None ≡ None
none_at slots es bs m e = elim (cases_lt m (length slots)) [
  | inl k ↦ at_tabulate (length slots) (memory_at slots es bs) m None k ∙ dead (get_or slots m 0) (memory_seen es bs m) e
  | inr k ↦ past_tabulate (length slots) (memory_at slots es bs) m None k
]
  where
    dead : (n : ℕ) (x : Memory) → n ≡ 0 → (if (nat_lt 0 m && nat_lt 0 n) then Some x else None) ≡ None
    dead n x e = grind (arith, nat_tests)

pub live_owned : (slots es bs : List ℕ) (m : ℕ) → is_some (get_or (tabulate (length slots) (memory_at slots es bs)) m None) ≡ true → 0 < get_or slots m 0
live_owned slots es bs m h = both m (get_or slots m 0) (live_at slots es bs m h)
  where
    both : (p n : ℕ) → (nat_lt 0 p && nat_lt 0 n) ≡ true → 0 < n
    both p n h = grind (arith, nat_tests)

pub live_positive : (slots es bs : List ℕ) (m : ℕ) → is_some (get_or (tabulate (length slots) (memory_at slots es bs)) m None) ≡ true → 0 < m
live_positive slots es bs m h = both m (get_or slots m 0) (live_at slots es bs m h)
  where
    both : (p n : ℕ) → (nat_lt 0 p && nat_lt 0 n) ≡ true → 0 < p
    both p n h = grind (arith, nat_tests)

-- a memory that is in a store, said of the fields
pub known_in : (s t : Store) (m k : ℕ) → s ≡ t → m ≡ k → IsIn t k → IsIn s m
known_in s t m k e f h = subst (λ (r : Store). IsIn r m) (sym e) (subst (λ (j : ℕ). IsIn t j) (sym f) h)

pub in_view : (P : Store → ℕ → Type 0) (s t : Store) (m k : ℕ) → s ≡ t → m ≡ k → P s m → P t k
in_view P s t m k e f h = subst (λ (j : ℕ). P t j) f (subst (λ (r : Store). P r m) e h)
