-- A page that becomes a memory's own.
use Rattle.am_base.specs.declared.limits.TheConstants.{MEMORY_BYTES, PAGE_BYTES}
use Rattle.shared_pages.specs.Size.{memory_pages}
use Rattle.std.proofs.Common.{◌≡◌, ◌≢◌, ℕ, ◌+◌, ◌*◌, ◌/◌, ◌%◌, ◌<◌, ◌≤◌, ◌⊎◌, max, List, Some, true, false, length, get_or, set}
use Rattle.std.proofs.Common.{arith, ap, sym, ◌∙◌, refl, inl, inr, get_or-set_same, get_or-set_other}
use Rattle.std.specs.Prelude.{is_some, nat_lt, ◌&&◌, ◌==◌}
use Rattle.std.proofs.Math.ListN.{length-set}
use Rattle.std.proofs.lemmas.Bool.{cases_eq, cases_lt}
use Rattle.std.proofs.lemmas.Bool.Decides.{nat_tests}
use Rattle.std.proofs.lemmas.List.{get_or_past}
use Rattle.shared_pages.specs.Counts.{Names, different, is_one, occurs, one_if}
use Rattle.shared_pages.specs.Rows.{IsRenewed}
use Rattle.shared_pages.specs.Store.{IsStore, IsIn, IsMadeOwn, Store, Memory, memory, the_memory, page, own_at, is_own, byte_at, is_live}
use Rattle.shared_pages.specs.Store.{memory_seen, seen}
use Rattle.shared_pages.specs.Store.{all_pages}
use Rattle.shared_pages.proofs.Owners.{is_one-same, is_one-other, occurs-set, occurs_at, occurs_once}
use Rattle.shared_pages.proofs.Tabulate.{same_tabulate, set_tabulate}
use Rattle.shared_pages.proofs.Views.{all_counted, live_at, memory_is, own_is, own_seen, page_place, page_seen, table_in, used_seen}
use Rattle.shared_pages.proofs.Kept.{live_is_below, same_memory, some_when}
use Rattle.shared_pages.proofs.ForkSteps.{own_true}

not_both : true ≡ false → ⊥
not_both e = cc

entry_there : (old new : Names) (bs cs : List ℕ) (at p : ℕ) → IsRenewed old new bs cs at p → get_or new.entries at 0 ≡ p
entry_there old new bs cs at p r = ap (λ (xs : List ℕ). get_or xs at 0) r.entries ∙ get_or-set_same old.entries at p 0 r.place

entry_elsewhere : (old new : Names) (bs cs : List ℕ) (at p j : ℕ) → IsRenewed old new bs cs at p → j ≢ at → get_or new.entries j 0 ≡ get_or old.entries j 0
entry_elsewhere old new bs cs at p j r ne = ap (λ (xs : List ℕ). get_or xs j 0) r.entries ∙ get_or-set_other old.entries at j p 0 ne

occurs_then : (old new : Names) (bs cs : List ℕ) (at p x : ℕ) → IsRenewed old new bs cs at p
    → occurs x new.entries + is_one x (get_or old.entries at 0) ≡ occurs x old.entries + is_one x p
occurs_then old new bs cs at p x r = ap (λ (xs : List ℕ). occurs x xs + is_one x (get_or old.entries at 0)) r.entries ∙ occurs-set x old.entries at p r.place

-- a number that an entry names isn't the new one
named_before : (old new : Names) (bs cs : List ℕ) (at p j : ℕ) → IsRenewed old new bs cs at p → j < length old.entries → get_or old.entries j 0 ≢ p
named_before old new bs cs at p j r low e =
    let o = occurs_at old.entries j low in
    let none = r.unnamed in
    let moved : occurs (get_or old.entries j 0) old.entries ≡ occurs p old.entries = ap (λ (x : ℕ). occurs x old.entries) e in
    omega (arith, o, none, moved)

never_before : (old new : Names) (bs cs : List ℕ) (at p j : ℕ) → IsRenewed old new bs cs at p → get_or old.entries j 0 ≡ p → ⊥
never_before old new bs cs at p j r e = elim (cases_lt j (length old.entries)) [
  | inl low ↦ named_before old new bs cs at p j r low e
  | inr high ↦ let past = get_or_past old.entries j 0 high in let other = r.other in omega (arith, past, e, other)
]

own_there : (old new : Names) (bs cs : List ℕ) (at p : ℕ) → IsRenewed old new bs cs at p → own_at new.entries at ≡ true
own_there old new bs cs at p r =
    let here = entry_there old new bs cs at p r in
    let count = occurs_then old new bs cs at p p r in
    let one = is_one-same p in
    let none = is_one-other p (get_or old.entries at 0) (λ e. named_before old new bs cs at p at r r.place (sym e)) in
    let unnamed = r.unnamed in
    let other = r.other in
    own_true new.entries at (omega (arith, here, other)) (ap (λ (x : ℕ). occurs x new.entries) here ∙ omega (arith, count, one, none, unnamed))

-- the count of a number that the entry didn't name stays
count_kept : (old new : Names) (bs cs : List ℕ) (at p j : ℕ) → IsRenewed old new bs cs at p → j < length old.entries
    → get_or old.entries j 0 ≢ get_or old.entries at 0
    → occurs (get_or old.entries j 0) new.entries ≡ occurs (get_or old.entries j 0) old.entries
count_kept old new bs cs at p j r low differs =
    let count = occurs_then old new bs cs at p (get_or old.entries j 0) r in
    let none = is_one-other (get_or old.entries j 0) (get_or old.entries at 0) differs in
    let also = is_one-other (get_or old.entries j 0) p (named_before old new bs cs at p j r low) in
    omega (arith, count, none, also)

own_same : (old new : Names) (bs cs : List ℕ) (at p j : ℕ) → IsRenewed old new bs cs at p → j < length old.entries → j ≢ at
    → (get_or old.entries j 0 ≢ 0 → get_or old.entries j 0 ≢ get_or old.entries at 0)
    → own_at new.entries j ≡ own_at old.entries j
own_same old new bs cs at p j r low ne differs =
    let same = entry_elsewhere old new bs cs at p j r ne in
    ap (λ (x : ℕ). nat_lt 0 x && (occurs x new.entries == 1)) same
    ∙ elim (cases_eq (get_or old.entries j 0) 0) [
      | inl z ↦ blank (get_or old.entries j 0) (occurs (get_or old.entries j 0) new.entries) (occurs (get_or old.entries j 0) old.entries) z
      | inr full ↦ ap (λ (k : ℕ). nat_lt 0 (get_or old.entries j 0) && (k == 1)) (count_kept old new bs cs at p j r low (differs full))
    ]
  where
    blank : (x m n : ℕ) → x ≡ 0 → (nat_lt 0 x && (m == 1)) ≡ (nat_lt 0 x && (n == 1))
    blank x m n e = ap (λ (y : ℕ). nat_lt 0 y && (m == 1)) e ∙ ap (λ (y : ℕ). nat_lt 0 y && (n == 1)) (sym e)

own_more : (old new : Names) (bs cs : List ℕ) (at p j : ℕ) → IsRenewed old new bs cs at p → j < length old.entries → j ≢ at
    → own_at old.entries j ≡ true → own_at new.entries j ≡ true
own_more old new bs cs at p j r low ne own =
    let is = own_is old.entries j own in
    own_same old new bs cs at p j r low ne (λ full e. ne (sym (occurs_once (get_or old.entries j 0) old.entries at j is.1 r.place low (sym e) refl))) ∙ own

-- the bytes of each memory are those that they were
byte_kept : (old new : Names) (bs cs : List ℕ) (at p k b : ℕ) → IsRenewed old new bs cs at p → k * memory_pages + b / PAGE_BYTES < length old.entries
    → byte_at new.entries cs k b ≡ byte_at old.entries bs k b
byte_kept old new bs cs at p k b r low = elim (cases_eq (k * memory_pages + b / PAGE_BYTES) at) [
  | inl e ↦
      ap (λ (j : ℕ). get_or cs (get_or new.entries j 0 * PAGE_BYTES + b % PAGE_BYTES) 0) e
      ∙ ap (λ (q : ℕ). get_or cs (q * PAGE_BYTES + b % PAGE_BYTES) 0) (entry_there old new bs cs at p r)
      ∙ r.copied (b % PAGE_BYTES) (omega arith)
      ∙ ap (λ (j : ℕ). get_or bs (get_or old.entries j 0 * PAGE_BYTES + b % PAGE_BYTES) 0) (sym e)
  | inr ne ↦
      let other = named_before old new bs cs at p (k * memory_pages + b / PAGE_BYTES) r low in
      ap (λ (q : ℕ). get_or cs (q * PAGE_BYTES + b % PAGE_BYTES) 0) (entry_elsewhere old new bs cs at p (k * memory_pages + b / PAGE_BYTES) r ne)
      ∙ r.same (get_or old.entries (k * memory_pages + b / PAGE_BYTES) 0 * PAGE_BYTES + b % PAGE_BYTES) (beside (get_or old.entries
      (k * memory_pages + b / PAGE_BYTES) 0) p (b % PAGE_BYTES) other (omega arith))
]
  where
    beside : (q p o : ℕ) → q ≢ p → o < PAGE_BYTES → (q * PAGE_BYTES + o < p * PAGE_BYTES) ⊎ (p * PAGE_BYTES + PAGE_BYTES ≤ q * PAGE_BYTES + o)
    beside q p o ne h = elim (cases_lt q p) [ inl a ↦ inl (omega (arith, a, h)) | inr a ↦ inr (omega (arith, a, ne)) ]

-- what holds of the fields
pub renewed_store : (slots : List ℕ) (old new : Names) (bs cs : List ℕ) (peak most m i p : ℕ) → IsStore slots old bs peak
    → IsRenewed old new bs cs (m * memory_pages + i) p → i < memory_pages → is_live slots m ≡ true
    → PAGE_BYTES * new.limit ≤ length cs → length bs ≤ length cs → different new.entries + 1 ≤ most → IsStore slots new cs most
renewed_store slots old new bs cs peak most m i p store r h live pages longer used =
    let at = m * memory_pages + i in
    let long : length new.entries ≡ length old.entries = ap length r.entries ∙ length-set old.entries at p in
    let tables = store.tables in
    let few = store.few in
    let other = r.other in
    record {
      tables = omega (arith, tables, long);
      few = omega (arith, few, long);
      pages = pages;
      room = let room = store.room in omega (arith, room, longer);
      zero = λ o low. r.same o (inl (omega (arith, low, other))) ∙ store.zero o low;
      dead = λ k j none low.
          entry_elsewhere old new bs cs at p (k * memory_pages + j) r (λ e.
          let k_is : k ≡ m = omega (arith, e, low, h) in
          not_both (sym live ∙ ap (is_live slots) (sym k_is) ∙ none))
          ∙ store.dead k j none low;
      once = store.once;
      apart = λ k j l low lower full e. elim (cases_eq j l) [
        | inl done ↦ done
        | inr differ ↦ absurd (elim (cases_eq (k * memory_pages + j) at) [
          | inl here ↦
              let there : k * memory_pages + l ≢ at = (λ a. differ (omega (arith, here, a))) in
              let is : get_or new.entries (k * memory_pages + j) 0 ≡ p = ap (λ (q : ℕ). get_or new.entries q 0) here ∙ entry_there old new bs cs at p r in
              let was = entry_elsewhere old new bs cs at p (k * memory_pages + l) r there in
              never_before old new bs cs at p (k * memory_pages + l) r (sym was ∙ sym e ∙ is)
          | inr away ↦ elim (cases_eq (k * memory_pages + l) at) [
            | inl here ↦
                let is : get_or new.entries (k * memory_pages + l) 0 ≡ p = ap (λ (q : ℕ). get_or new.entries q 0) here ∙ entry_there old new bs cs at p r in
                let was = entry_elsewhere old new bs cs at p (k * memory_pages + j) r away in
                never_before old new bs cs at p (k * memory_pages + j) r (sym was ∙ e ∙ is)
            | inr there ↦
                let one = entry_elsewhere old new bs cs at p (k * memory_pages + j) r away in
                let two = entry_elsewhere old new bs cs at p (k * memory_pages + l) r there in
                differ (store.apart k j l low lower (λ z. full (one ∙ z)) (sym one ∙ e ∙ two))
          ]
        ])
      ];
      most = used;
    }

-- What is seen.

-- the memory whose page it is
made_seen : (old new : Names) (bs cs : List ℕ) (m i p : ℕ) → IsRenewed old new bs cs (m * memory_pages + i) p → i < memory_pages
    → m * memory_pages + memory_pages ≤ length old.entries
    → memory_seen new.entries cs m ≡ record (memory_seen old.entries bs m) { pages = set (memory_seen old.entries bs m).pages i p }
made_seen old new bs cs m i p r h row =
    let at = m * memory_pages + i in
    let bytes = same_tabulate MEMORY_BYTES (byte_at new.entries cs m) (byte_at old.entries bs m)
    (λ b low. byte_kept old new bs cs at p m b r (omega (arith, row, low))) in
    let pages = set_tabulate memory_pages (λ j. get_or old.entries (m * memory_pages + j) 0) (λ j. get_or new.entries (m * memory_pages + j) 0) i p h
    (entry_there old new bs cs at p r)
    (λ j low ne. entry_elsewhere old new bs cs at p (m * memory_pages + j) r (λ e. ne (omega (arith, e)))) in
    λ k. record { bytes = bytes k; pages = pages k }

-- another memory
other_seen : (old new : Names) (bs cs : List ℕ) (m i p k : ℕ) → IsRenewed old new bs cs (m * memory_pages + i) p → i < memory_pages → k ≢ m
    → k * memory_pages + memory_pages ≤ length old.entries
    → memory_seen new.entries cs k ≡ memory_seen old.entries bs k
other_seen old new bs cs m i p k r h ne row =
    let at = m * memory_pages + i in
    let bytes = same_tabulate MEMORY_BYTES (byte_at new.entries cs k) (byte_at old.entries bs k)
    (λ b low. byte_kept old new bs cs at p k b r (omega (arith, row, low))) in
    let pages = same_tabulate memory_pages (λ j. get_or new.entries (k * memory_pages + j) 0) (λ j. get_or old.entries (k * memory_pages + j) 0)
    (λ j low. entry_elsewhere old new bs cs at p (k * memory_pages + j) r (λ e. ne (omega (arith, e, low, h)))) in
    λ q. record { bytes = bytes q; pages = pages q }

-- a number that some entry named is still named: the entry that changed was not the only one that named it
still_named : (old new : Names) (bs cs : List ℕ) (at p x : ℕ) → IsRenewed old new bs cs at p → own_at old.entries at ≡ false → 0 < x
    → 0 < occurs x old.entries → 0 < occurs x new.entries
still_named old new bs cs at p x r shared some there =
    let moved = occurs_then old new bs cs at p x r in
    elim (cases_eq x (get_or old.entries at 0)) [
      | inl e ↦
          let one = ap (λ (y : ℕ). is_one x y) (sym e) in
          let same = is_one-same x in
          let more : occurs x old.entries ≢ 1 = (λ once. not_both (sym (own_true old.entries at (omega (arith, e, some))
          (ap (λ (y : ℕ). occurs y old.entries) (sym e) ∙ once)) ∙ shared)) in
          omega (arith, moved, one, same, more, there)
      | inr ne ↦ let none = is_one-other x (get_or old.entries at 0) ne in omega (arith, moved, none, there)
    ]

pub own_full : (s : Store) (m i : ℕ) → is_own s m i ≡ true → 0 < page s m i
own_full s m i own = full (page s m i) (occurs (page s m i) (all_pages s)) own
  where
    full : (p n : ℕ) → (nat_lt 0 p && (n == 1)) ≡ true → 0 < p
    full p n h = grind (arith, nat_tests)

-- own pages stay own
own_grown : (slots : List ℕ) (old new : Names) (bs cs : List ℕ) (peak most m i p k j : ℕ) → IsStore slots old bs peak → IsStore slots new cs most
    → IsRenewed old new bs cs (m * memory_pages + i) p
    → is_own (seen slots old bs peak) k j ≡ true → is_own (seen slots new cs most) k j ≡ true
own_grown slots old new bs cs peak most m i p k j store later r own =
    let at = m * memory_pages + i in
    let place = page_place slots old bs peak k j (own_full (seen slots old bs peak) k j own) in
    let live = live_at slots old.entries bs k place.0 in
    let known : IsIn (seen slots new cs most) k = ap is_some (some_when slots new.entries cs k live) in
    let was : own_at old.entries (k * memory_pages + j) ≡ true = sym (own_seen slots old bs peak k j store place.0 place.1) ∙ own in
    own_seen slots new cs most k j later known place.1
    ∙ elim (cases_eq (k * memory_pages + j) at) [
      | inl e ↦ ap (own_at new.entries) e ∙ own_there old new bs cs at p r
      | inr ne ↦ own_more old new bs cs at p (k * memory_pages + j) r (table_in slots old bs peak k j store place.0 place.1) ne was
    ]

pub made_own : (slots : List ℕ) (old new : Names) (bs cs : List ℕ) (peak most m i p : ℕ) → IsStore slots old bs peak → IsStore slots new cs most
    → IsRenewed old new bs cs (m * memory_pages + i) p → IsIn (seen slots old bs peak) m → i < memory_pages
    → own_at old.entries (m * memory_pages + i) ≡ false → different new.entries ≡ different old.entries + 1
    → most ≡ max peak (different new.entries + 1) → IsMadeOwn (seen slots old bs peak) (seen slots new cs most) m i
made_own slots old new bs cs peak most m i p store later r known h shared used peak_is =
    let s = seen slots old bs peak in
    let t = seen slots new cs most in
    let at = m * memory_pages + i in
    let tables = store.tables in
    let live = live_at slots old.entries bs m known in
    let row : m * memory_pages + memory_pages ≤ length old.entries = (let low = live_is_below slots m live in omega (arith, low, tables)) in
    let there : memory t m ≡ Some (memory_seen new.entries cs m) = some_when slots new.entries cs m live in
    let now : IsIn t m = ap is_some there in
    let number : page t m i ≡ p = page_seen slots new cs most m i now h ∙ entry_there old new bs cs at p r in
    let was : page s m i ≡ get_or old.entries at 0 = page_seen slots old bs peak m i known h in
    let not_own : is_own s m i ≡ false = own_seen slots old bs peak m i store known h ∙ shared in
    let before = used_seen slots old bs peak store in
    let after = used_seen slots new cs most later in
    let none = ap one_if not_own in
    record {
      here = there ∙ ap (λ (x : Memory). Some x) (made_seen old new bs cs m i p r h row)
          ∙ ap (λ (x : Memory). Some (record x { pages = set x.pages i p })) (sym (memory_is slots old bs peak m known))
          ∙ ap (λ (q : ℕ). Some (record (the_memory s m) { pages = set (the_memory s m).pages i q })) (sym number);
      others = λ k ne. same_memory slots slots old new bs cs peak most k refl (λ alive.
          other_seen old new bs cs m i p k r h ne (let low = live_is_below slots k alive in omega (arith, low, tables)));
      own = own_seen slots new cs most m i later now h ∙ own_there old new bs cs at p r;
      grown = λ k j own. own_grown slots old new bs cs peak most m i p k j store later r own;
      still = λ x some there.
          let a = all_counted slots old bs peak x store some in
          let b = all_counted slots new cs most x later some in
          let c = still_named old new bs cs at p x r shared some (omega (arith, a, there)) in
          omega (arith, b, c);
      kept = λ own. absurd (not_both (sym own ∙ not_own));
      differs = λ _ e. named_before old new bs cs at p at r r.place (sym was ∙ sym e ∙ number);
      fresh = λ _. ap (λ (q : ℕ). occurs q (all_pages s)) number ∙ all_counted slots old bs peak p store r.other ∙ r.unnamed;
      used = omega (arith, before, after, used, none);
      peak = peak_is ∙ ap (λ (q : ℕ). max peak (q + 1)) (sym after);
    }
