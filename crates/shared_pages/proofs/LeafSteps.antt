-- Roots and leaves at each change.
use Rattle.shared_pages.specs.Size.{memory_pages, table_entries}
use Rattle.std.proofs.Common.{◌≡◌, ◌≢◌, ℕ, zero, suc, ◌+◌, ◌*◌, ◌/◌, ◌%◌, ◌^◌, ◌<◌, ◌≤◌, ◌⊎◌, ◌++◌, [], List, Bool, true, false, length, get_or, set, replicate, arith}
use Rattle.std.proofs.Common.{ap, sym, ◌∙◌, refl, inl, inr, subst, get_or-set_same, get_or-set_other, length-append}
use Rattle.std.specs.Prelude.{◌&&◌}
use Rattle.std.proofs.Math.ListN.{length-set}
use Rattle.std.proofs.lemmas.Bool.{cases_eq, cases_lt}
use Rattle.std.proofs.lemmas.List.{ext_get_or, get_or_past}
use Rattle.std.proofs.lemmas.List.Sums.{sum_by-append}
use Rattle.std.proofs.lemmas.Simd.{length-replicate}
use Rattle.shared_pages.specs.Counts.{Names, IsShared, different, is_one, occurs, one_if}
use Rattle.shared_pages.specs.Rows.{IsCleared, IsCopied, IsExtended, own_below}
use Rattle.shared_pages.specs.Store.{own_at, tabulate}
use Rattle.shared_pages.specs.Tables.{AreSame, AreTables, IsFreshLeaf, IsOwnLeaf, flat, leaf_entry, names_seen}
use Rattle.shared_pages.proofs.Flat.{different_flat, flat_any, flat_at, flat_place, flat_same, leaf_place, leaf_zero, length_flat, named_place, own_both}
use Rattle.shared_pages.proofs.ForkSteps.{when_not}
use Rattle.shared_pages.proofs.Joined.{occurs_alike}
use Rattle.shared_pages.proofs.Owners.{is_one-other, is_one-same, occurs-set, occurs_at, occurs_once}
use Rattle.shared_pages.proofs.RowSteps.{at_longer, at_zeros}
use Rattle.shared_pages.proofs.Tabulate.{set_tabulate}
use Rattle.shared_pages.proofs.Views.{own_is}

pub names_same : (a b : Names) → a.entries ≡ b.entries → a.limit ≡ b.limit → a ≡ b
names_same a b e l = λ i. record { entries = e i; limit = l i }

pub new_tables : (roots leaves : Names) → roots.entries ≡ [] → roots.limit ≡ 1 → leaves.entries ≡ replicate table_entries 0 → AreTables roots leaves
new_tables roots leaves none one zeros =
    let size = ap length none in
    let long = ap length zeros in
    let blank = length-replicate {A = ℕ} table_entries 0 in
    let empty : (k : ℕ) → get_or leaves.entries k 0 ≡ 0 = (λ k. ap (λ (xs : List ℕ). get_or xs k 0) zeros ∙ at_zeros table_entries k) in
    record {
      rows = omega (arith, one, long, blank);
      few = omega (arith, long, blank);
      short = omega (arith, size);
      zero = λ j low. empty j;
      dead = λ l j out low. empty (l * table_entries + j);
    }

-- An entry of a leaf that one root names changes.

pub set_flat : (roots leaves : Names) (at l p : ℕ) → AreTables roots leaves → IsOwnLeaf roots (at / table_entries) l
    → flat roots.entries (set leaves.entries (l * table_entries + at % table_entries) p) ≡ set (flat roots.entries leaves.entries) at p
set_flat roots leaves at l p tables own =
    let rs = roots.entries in
    let ls = leaves.entries in
    let place = l * table_entries + at % table_entries in
    let below = own.below in
    let rows = tables.rows in
    let under = own.place in
    let room : place < length ls = omega (arith, below, rows) in
    set_tabulate (length rs * table_entries) (leaf_entry rs ls) (leaf_entry rs (set ls place p)) at p (omega (arith, under))
    (ap (λ (r : ℕ). get_or (set ls place p) (r * table_entries + at % table_entries) 0) own.named ∙ get_or-set_same ls place p 0 room)
    (λ k low ne. get_or-set_other ls place (get_or rs (k / table_entries) 0 * table_entries + k % table_entries) p 0 (λ e.
    let name : get_or rs (k / table_entries) 0 ≡ l = omega (arith, e) in
    let first = occurs_once l rs (k / table_entries) (at / table_entries) own.once (omega (arith, low)) own.place name own.named in
    ne (omega (arith, first, e))))

pub set_tables : (roots leaves new : Names) (at l p : ℕ) → AreTables roots leaves → IsOwnLeaf roots (at / table_entries) l
    → new.entries ≡ set leaves.entries (l * table_entries + at % table_entries) p → AreTables roots new
set_tables roots leaves new at l p tables own e =
    let ls = leaves.entries in
    let place = l * table_entries + at % table_entries in
    let long : length new.entries ≡ length ls = ap length e ∙ length-set ls place p in
    let rows = tables.rows in
    let few = tables.few in
    let other = own.other in
    let same : (k : ℕ) → k ≢ place → get_or new.entries k 0 ≡ get_or ls k 0 =
    (λ k ne. ap (λ (xs : List ℕ). get_or xs k 0) e ∙ get_or-set_other ls place k p 0 ne) in
    record {
      rows = omega (arith, rows, long);
      few = omega (arith, few, long);
      short = tables.short;
      zero = λ j low. same j (λ k. absurd (omega (arith, k, low, other))) ∙ tables.zero j low;
      dead = λ k j none low. same (k * table_entries + j) (λ q.
          let is : k ≡ l = omega (arith, q, low) in
          let once = own.once in
          let also = ap (λ (x : ℕ). occurs x roots.entries) is in
          absurd (omega (arith, once, also, none))) ∙ tables.dead k j none low;
    }

pub set_seen : (roots leaves new n : Names) (at l p : ℕ) → AreTables roots leaves → IsOwnLeaf roots (at / table_entries) l
    → new.entries ≡ set leaves.entries (l * table_entries + at % table_entries) p → names_seen roots leaves ≡ n
    → flat roots.entries new.entries ≡ set n.entries at p
set_seen roots leaves new n at l p tables own e view =
    ap (flat roots.entries) e ∙ set_flat roots leaves at l p tables own ∙ ap (λ (x : Names). set x.entries at p) view

pub set_used : (roots leaves new n : Names) → AreTables roots leaves → AreTables roots new → different new.entries ≡ different leaves.entries + 1
    → names_seen roots leaves ≡ n → different (flat roots.entries new.entries) ≡ different n.entries + 1
set_used roots leaves new n tables later more view =
    let was = different_flat roots leaves tables in
    let now = different_flat roots new later in
    let seen = ap (λ (x : Names). different x.entries) view in
    omega (arith, was, now, seen, more)

-- A memory's roots are added.

occurs_more : (p n : ℕ) (xs : List ℕ) → occurs p xs ≤ occurs p (xs ++ replicate n 0)
occurs_more p n xs = let a = sum_by-append (λ y. is_one p y) xs (replicate n 0) in omega (arith, a)

pub more_tables : (roots leaves new : Names) → AreTables roots leaves → new.entries ≡ roots.entries ++ replicate table_entries 0 → new.limit ≡ roots.limit
    → length roots.entries * table_entries + memory_pages < 2 ^ 32 → AreTables new leaves
more_tables roots leaves new tables e limit short =
    let long = length-append roots.entries (replicate table_entries 0) in
    let zeros = length-replicate {A = ℕ} table_entries 0 in
    let is = ap length e in
    let rows = tables.rows in
    record {
      rows = omega (arith, rows, limit);
      few = tables.few;
      short = omega (arith, is, long, zeros, short);
      zero = tables.zero;
      dead = λ l j none low. tables.dead l j (
          let le = occurs_more l table_entries roots.entries in
          let also = ap (occurs l) e in
          omega (arith, le, also, none)) low;
    }

pub more_flat : (roots leaves new : Names) → AreTables roots leaves → AreTables new leaves → new.entries ≡ roots.entries ++ replicate table_entries 0
    → flat new.entries leaves.entries ≡ flat roots.entries leaves.entries ++ replicate memory_pages 0
more_flat roots leaves new tables later e =
    let rs = roots.entries in
    let ls = leaves.entries in
    let es = flat rs ls in
    let long = length-append rs (replicate table_entries 0) in
    let zeros = length-replicate {A = ℕ} table_entries 0 in
    let is = ap length e in
    let wide = length_flat new.entries ls in
    let was = length_flat rs ls in
    let longer = length-append es (replicate memory_pages 0) in
    let blank = length-replicate {A = ℕ} memory_pages 0 in
    ext_get_or 0 (flat new.entries ls) (es ++ replicate memory_pages 0) (omega (arith, long, zeros, is, wide, was, longer, blank)) (λ i low.
    flat_any new leaves i later
    ∙ ap (λ (xs : List ℕ). get_or ls (get_or xs (i / table_entries) 0 * table_entries + i % table_entries) 0) e
    ∙ ap (λ (r : ℕ). get_or ls (r * table_entries + i % table_entries) 0) (at_longer rs table_entries (i / table_entries))
    ∙ sym (flat_any roots leaves i tables) ∙ sym (at_longer es memory_pages i))

-- Room for a leaf is added.

pub room_tables : (roots leaves new : Names) → AreTables roots leaves → IsExtended leaves new → AreTables roots new
room_tables roots leaves new tables more =
    let rows = tables.rows in
    let long = more.long in
    record {
      rows = omega (arith, rows, long);
      few = more.few;
      short = tables.short;
      zero = λ j low. more.same j ∙ tables.zero j low;
      dead = λ l j none low. more.same (l * table_entries + j) ∙ tables.dead l j none low;
    }

pub room_same : (roots leaves new : Names) → AreTables roots leaves → IsExtended leaves new → AreSame roots leaves roots new
room_same roots leaves new tables more = record {
  tables = room_tables roots leaves new tables more;
  seen = names_same (names_seen roots new) (names_seen roots leaves)
      (flat_same roots.entries leaves.entries roots.entries new.entries refl
      (λ i low. more.same (get_or roots.entries (i / table_entries) 0 * table_entries + i % table_entries))) more.limit;
}

pub none_same : (roots leaves : Names) → AreTables roots leaves → AreSame roots leaves roots leaves
none_same roots leaves tables = record { tables = tables; seen = refl }

-- A root gets a leaf of its own.

pub table_apart : (k n i : ℕ) → k ≢ n → i < table_entries
    → (k * table_entries + i < n * table_entries) ⊎ (n * table_entries + table_entries ≤ k * table_entries + i)
table_apart k n i ne h = elim (cases_lt k n) [ inl a ↦ inl (omega (arith, a, h)) | inr a ↦ inr (omega (arith, a, ne)) ]

-- a table that wasn't copied to
pub uncopied : (old new : Names) (m n k j : ℕ) → IsCopied table_entries old new m n table_entries → k ≢ n → j < table_entries
    → get_or new.entries (k * table_entries + j) 0 ≡ get_or old.entries (k * table_entries + j) 0
uncopied old new m n k j copied ne low =
    elim (table_apart k n j ne low) [ inl a ↦ copied.below (k * table_entries + j) a | inr a ↦ copied.above (k * table_entries + j) a ]

-- and one that wasn't cleared
pub uncleared : (old new : Names) (n k j : ℕ) → IsCleared table_entries old new n table_entries → k ≢ n → j < table_entries
    → get_or new.entries (k * table_entries + j) 0 ≡ get_or old.entries (k * table_entries + j) 0
uncleared old new n k j cleared ne low =
    elim (table_apart k n j ne low) [ inl a ↦ cleared.below (k * table_entries + j) a | inr a ↦ cleared.above (k * table_entries + j) a ]

-- the leaves of the other roots, and of the root itself
pub owned_tables : (r0 l0 r1 l1 l2 : Names) (at l : ℕ) → AreTables r0 l0 → at < length r0.entries → IsShared r0.entries at → IsFreshLeaf r0 l0 r1 l1 at l
    → IsCopied table_entries l1 l2 (get_or r0.entries at 0) l table_entries → AreTables r1 l2
owned_tables r0 l0 r1 l1 l2 at l tables place shared fresh copied =
    let was = get_or r0.entries at 0 in
    let entries = fresh.entries in
    let size : length r1.entries ≡ length r0.entries = ap length entries ∙ length-set r0.entries at l in
    let long = copied.long in
    let rows = fresh.rows in
    let few = fresh.more.few in
    let short = tables.short in
    let other = fresh.other in
    let kept : (k j : ℕ) → k ≢ l → j < table_entries → get_or l2.entries (k * table_entries + j) 0 ≡ get_or l0.entries (k * table_entries + j) 0 =
    (λ k j ne low. uncopied l1 l2 was l k j copied ne low ∙ fresh.more.same (k * table_entries + j)) in
    record {
      rows = omega (arith, rows, long);
      few = omega (arith, few, long);
      short = omega (arith, short, size);
      zero = λ j low. ap (λ (k : ℕ). get_or l2.entries k 0) (let e : j ≡ 0 * table_entries + j = omega arith in e)
          ∙ kept 0 j (λ e. absurd (omega (arith, e, other))) low ∙ leaf_zero r0 l0 0 j tables refl low;
      dead = λ k j none low.
          let moved = occurs-set k r0.entries at l place in
          let now = ap (occurs k) entries in
          let apart : k ≢ l = (λ e. let one : is_one k l ≡ 1 = ap (is_one k) (sym e) ∙ is_one-same k in
          let fresh_none = fresh.unnamed in let same = ap (λ (x : ℕ). occurs x r0.entries) e in
          let left : is_one k was ≤ occurs k r0.entries = one_at_most k r0.entries at place in
          absurd (omega (arith, moved, now, none, one, same, fresh_none, left))) in
          let gone = is_one-other k l apart in
          kept k j apart low ∙ (elim (cases_eq k was) [
            | inl e ↦ elim (cases_eq was 0) [
              | inl z ↦ leaf_zero r0 l0 k j tables (e ∙ z) low
              | inr ne ↦
                  let two = shared ne in
                  let same = ap (λ (x : ℕ). occurs x r0.entries) e in
                  let one : is_one k was ≡ 1 = ap (is_one k) (sym e) ∙ is_one-same k in
                  absurd (omega (arith, moved, now, none, gone, one, two, same))
            ]
            | inr ne ↦ let zero = is_one-other k was ne in tables.dead k j (omega (arith, moved, now, none, gone, zero)) low
          ]);
    }
  where
    one_at_most : (k : ℕ) (xs : List ℕ) (i : ℕ) → i < length xs → is_one k (get_or xs i 0) ≤ occurs k xs
    one_at_most k xs i h = elim (cases_eq k (get_or xs i 0)) [
      | inl e ↦
          let one : is_one k (get_or xs i 0) ≡ 1 = ap (is_one k) (sym e) ∙ is_one-same k in
          let some = occurs_at xs i h in
          let same = ap (λ (x : ℕ). occurs x xs) e in
          omega (arith, one, some, same)
      | inr ne ↦ let none = is_one-other k (get_or xs i 0) ne in omega (arith, none)
    ]

pub owned_same : (r0 l0 r1 l1 l2 : Names) (at l : ℕ) → AreTables r0 l0 → at < length r0.entries → IsShared r0.entries at → IsFreshLeaf r0 l0 r1 l1 at l
    → IsCopied table_entries l1 l2 (get_or r0.entries at 0) l table_entries → AreSame r0 l0 r1 l2
owned_same r0 l0 r1 l1 l2 at l tables place shared fresh copied =
    let was = get_or r0.entries at 0 in
    let entries = fresh.entries in
    let size : length r1.entries ≡ length r0.entries = ap length entries ∙ length-set r0.entries at l in
    record {
      tables = owned_tables r0 l0 r1 l1 l2 at l tables place shared fresh copied;
      seen = names_same (names_seen r1 l2) (names_seen r0 l0)
          (flat_same r0.entries l0.entries r1.entries l2.entries size (λ i low.
          let q = i / table_entries in
          let j = i % table_entries in
          ap (λ (xs : List ℕ). get_or l2.entries (get_or xs q 0 * table_entries + j) 0) entries ∙ (elim (cases_eq q at) [
            | inl e ↦ ap (λ (r : ℕ). get_or l2.entries (r * table_entries + j) 0)
                (ap (λ (x : ℕ). get_or (set r0.entries at l) x 0) e ∙ get_or-set_same r0.entries at l 0 place)
                ∙ copied.copied j (omega arith) ∙ fresh.more.same (was * table_entries + j)
                ∙ ap (λ (x : ℕ). get_or l0.entries (get_or r0.entries x 0 * table_entries + j) 0) (sym e)
            | inr ne ↦ ap (λ (r : ℕ). get_or l2.entries (r * table_entries + j) 0) (get_or-set_other r0.entries at q l 0 ne)
                ∙ uncopied l1 l2 was l (get_or r0.entries q 0) j copied (λ e.
                let some = occurs_at r0.entries q (omega (arith, low)) in
                let same = ap (λ (x : ℕ). occurs x r0.entries) e in
                let none = fresh.unnamed in
                absurd (omega (arith, some, same, none))) (omega arith)
                ∙ fresh.more.same (get_or r0.entries q 0 * table_entries + j)
          ]))) (copied.limit ∙ fresh.more.limit);
    }

pub owned_leaf : (r0 l0 r1 l1 : Names) (at l : ℕ) → at < length r0.entries → IsFreshLeaf r0 l0 r1 l1 at l → IsOwnLeaf r1 at l
owned_leaf r0 l0 r1 l1 at l place fresh =
    let entries = fresh.entries in
    let size = length-set r0.entries at l in
    let long = ap length entries in
    let moved = occurs-set l r0.entries at l place in
    let now = ap (occurs l) entries in
    let none = fresh.unnamed in
    let one = is_one-same l in
    let gone : is_one l (get_or r0.entries at 0) ≡ 0 = is_one-other l (get_or r0.entries at 0) (λ e.
    let some = occurs_at r0.entries at place in
    let same = ap (λ (x : ℕ). occurs x r0.entries) e in
    absurd (omega (arith, some, same, none))) in
    record {
      place = omega (arith, long, size, place);
      named = ap (λ (xs : List ℕ). get_or xs at 0) entries ∙ get_or-set_same r0.entries at l 0 place;
      other = fresh.other;
      below = fresh.below;
      once = omega (arith, moved, now, none, one, gone);
    }

pub own_already : (roots : Names) (at : ℕ) → at < length roots.entries → get_or roots.entries at 0 < roots.limit → own_at roots.entries at ≡ true
    → IsOwnLeaf roots at (get_or roots.entries at 0)
own_already roots at place below own =
    let is = own_is roots.entries at own in
    record { place = place; named = refl; other = is.0; below = below; once = is.1 }

-- A root becomes 0.

-- a number but 0 that doesn't stand in the places that changed
pub kept_elsewhere : (p n : ℕ) (old new : List ℕ) → 0 < p → length new ≡ length old
    → ((j : ℕ) → j < table_entries → get_or new (n * table_entries + j) 0 ≡ 0)
    → ((j : ℕ) → j < n * table_entries → get_or new j 0 ≡ get_or old j 0)
    → ((j : ℕ) → n * table_entries + table_entries ≤ j → get_or new j 0 ≡ get_or old j 0)
    → ((j : ℕ) → j < table_entries → get_or old (n * table_entries + j) 0 ≢ p) → occurs p new ≡ occurs p old
kept_elsewhere p n old new some long cleared below above other = occurs_alike p new old long (λ i low. elim (cases_lt i (n * table_entries)) [
  | inl a ↦ ap (is_one p) (below i a)
  | inr a ↦ elim (cases_lt i (n * table_entries + table_entries)) [
    | inl b ↦
        let j = i % table_entries in
        let e : i ≡ n * table_entries + j = omega (arith, a, b) in
        let small : j < table_entries = omega arith in
        ap (λ (k : ℕ). is_one p (get_or new k 0)) e ∙ ap (is_one p) (cleared j small)
        ∙ is_one-other p 0 (λ z. absurd (omega (arith, z, some)))
        ∙ sym (ap (λ (k : ℕ). is_one p (get_or old k 0)) e ∙ is_one-other p (get_or old (n * table_entries + j) 0) (λ z. other j small (sym z)))
    | inr b ↦ ap (is_one p) (above i b)
  ]
])

pub own_below_same : (es fs : List ℕ) (a b n : ℕ) → ((i : ℕ) → i < n → own_at es (a * table_entries + i) ≡ own_at fs (b * table_entries + i))
    → own_below table_entries es a n ≡ own_below table_entries fs b n
unfolding own_below
own_below_same es fs a b zero same = refl
own_below_same es fs a b (suc n) same =
    let rest = own_below_same es fs a b n (λ i low. same i (omega (arith, low))) in
    let last = ap one_if (same n (omega arith)) in
    omega (arith, rest, last)

pub own_below_none : (es : List ℕ) (a n : ℕ) → ((i : ℕ) → i < n → own_at es (a * table_entries + i) ≡ false) → own_below table_entries es a n ≡ 0
unfolding own_below
own_below_none es a zero same = refl
own_below_none es a (suc n) same =
    let rest = own_below_none es a n (λ i low. same i (omega (arith, low))) in
    let last = ap one_if (same n (omega arith)) in
    omega (arith, rest, last)

-- what is seen, where the leaves of the other roots are the same
pub cleared_flat : (r0 l0 r1 l1 : Names) (at : ℕ) → AreTables r0 l0 → AreTables r1 l1 → at < length r0.entries → r1.entries ≡ set r0.entries at 0
    → l1.limit ≡ l0.limit
    → ((q j : ℕ) → q < length r0.entries → q ≢ at → j < table_entries
    → get_or l1.entries (get_or r0.entries q 0 * table_entries + j) 0 ≡ get_or l0.entries (get_or r0.entries q 0 * table_entries + j) 0)
    → different l1.entries + own_below table_entries (flat r0.entries l0.entries) at table_entries ≡ different l0.entries
    → IsCleared table_entries (names_seen r0 l0) (names_seen r1 l1) at table_entries
cleared_flat r0 l0 r1 l1 at tables later place e limit same used =
    let old = flat r0.entries l0.entries in
    let new = flat r1.entries l1.entries in
    let size : length r1.entries ≡ length r0.entries = ap length e ∙ length-set r0.entries at 0 in
    let long : length new ≡ length old =
    (let a = length_flat r0.entries l0.entries in let b = length_flat r1.entries l1.entries in omega (arith, a, b, size)) in
    let was = different_flat r0 l0 tables in
    let now = different_flat r1 l1 later in
    let cleared : (j : ℕ) → j < table_entries → get_or new (at * table_entries + j) 0 ≡ 0 = (λ j low.
    flat_place r1.entries l1.entries at j (omega (arith, size, place)) low
    ∙ leaf_zero r1 l1 (get_or r1.entries at 0) j later (ap (λ (xs : List ℕ). get_or xs at 0) e ∙ get_or-set_same r0.entries at 0 0 place) low) in
    let others : (k : ℕ) → k / table_entries ≢ at → get_or new k 0 ≡ get_or old k 0 = (λ k ne.
    let q = k / table_entries in
    let j = k % table_entries in
    flat_any r1 l1 k later
    ∙ ap (λ (xs : List ℕ). get_or l1.entries (get_or xs q 0 * table_entries + j) 0) e
    ∙ ap (λ (r : ℕ). get_or l1.entries (r * table_entries + j) 0) (get_or-set_other r0.entries at q 0 0 ne)
    ∙ elim (cases_lt q (length r0.entries)) [
      | inl low ↦ same q j low ne (omega arith)
      | inr high ↦
          let past = get_or_past r0.entries q 0 high in
          leaf_zero r1 l1 (get_or r0.entries q 0) j later past (omega arith) ∙ sym (leaf_zero r0 l0 (get_or r0.entries q 0) j tables past (omega arith))
    ] ∙ sym (flat_any r0 l0 k tables)) in
    let below : (k : ℕ) → k < at * table_entries → get_or new k 0 ≡ get_or old k 0 = (λ k low. others k (λ z. absurd (omega (arith, z, low)))) in
    let above : (k : ℕ) → at * table_entries + table_entries ≤ k → get_or new k 0 ≡ get_or old k 0 =
    (λ k high. others k (λ z. absurd (omega (arith, z, high)))) in
    record {
      long = long;
      limit = limit;
      used = omega (arith, was, now, used);
      cleared = cleared;
      below = below;
      above = above;
      others = λ p some out. kept_elsewhere p at old new some long cleared below above out;
    }

-- where another root names the leaf, or it is leaf 0
pub left_tables : (roots leaves new : Names) (at : ℕ) → AreTables roots leaves → at < length roots.entries → IsShared roots.entries at
    → new.entries ≡ set roots.entries at 0 → new.limit ≡ roots.limit → AreTables new leaves
left_tables roots leaves new at tables place shared e limit =
    let was = get_or roots.entries at 0 in
    let size : length new.entries ≡ length roots.entries = ap length e ∙ length-set roots.entries at 0 in
    let rows = tables.rows in
    let short = tables.short in
    record {
      rows = omega (arith, rows, limit);
      few = tables.few;
      short = omega (arith, short, size);
      zero = tables.zero;
      dead = λ l j none low.
          let moved = occurs-set l roots.entries at 0 place in
          let now = ap (occurs l) e in
          elim (cases_eq l was) [
            | inl same ↦ elim (cases_eq was 0) [
              | inl z ↦ leaf_zero roots leaves l j tables (same ∙ z) low
              | inr ne ↦
                  let two = shared ne in
                  let often = ap (λ (x : ℕ). occurs x roots.entries) same in
                  let one : is_one l was ≡ 1 = ap (is_one l) (sym same) ∙ is_one-same l in
                  absurd (omega (arith, moved, now, none, one, two, often))
            ]
            | inr ne ↦ let gone = is_one-other l was ne in tables.dead l j (omega (arith, moved, now, none, gone)) low
          ];
    }

pub left_cleared : (roots leaves new : Names) (at : ℕ) → AreTables roots leaves → at < length roots.entries → own_at roots.entries at ≡ false
    → IsShared roots.entries at → new.entries ≡ set roots.entries at 0 → new.limit ≡ roots.limit
    → IsCleared table_entries (names_seen roots leaves) (names_seen new leaves) at table_entries
left_cleared roots leaves new at tables place out shared e limit =
    let none = own_below_none (flat roots.entries leaves.entries) at table_entries (λ i low.
    own_both roots leaves at i tables place low
    ∙ ap (λ (b : Bool). b && own_at leaves.entries (get_or roots.entries at 0 * table_entries + i)) out) in
    cleared_flat roots leaves new leaves at tables (left_tables roots leaves new at tables place shared e limit) place e refl
    (λ q j low ne small. refl) (omega (arith, none))

-- where no other root does
pub ended_tables : (r0 l0 r1 l1 : Names) (at : ℕ) → AreTables r0 l0 → at < length r0.entries → own_at r0.entries at ≡ true
    → IsCleared table_entries l0 l1 (get_or r0.entries at 0) table_entries → r1.entries ≡ set r0.entries at 0 → r1.limit ≡ r0.limit → AreTables r1 l1
ended_tables r0 l0 r1 l1 at tables place own cleared e limit =
    let was = get_or r0.entries at 0 in
    let is = own_is r0.entries at own in
    let other = is.0 in
    let size : length r1.entries ≡ length r0.entries = ap length e ∙ length-set r0.entries at 0 in
    let rows = tables.rows in
    let few = tables.few in
    let short = tables.short in
    let long = cleared.long in
    record {
      rows = omega (arith, rows, limit, long);
      few = omega (arith, few, long);
      short = omega (arith, short, size);
      zero = λ j low. ap (λ (k : ℕ). get_or l1.entries k 0) (let e : j ≡ 0 * table_entries + j = omega arith in e)
          ∙ uncleared l0 l1 was 0 j cleared (λ z. absurd (omega (arith, z, other))) low ∙ leaf_zero r0 l0 0 j tables refl low;
      dead = λ l j none low. elim (cases_eq l was) [
        | inl same ↦ ap (λ (q : ℕ). get_or l1.entries (q * table_entries + j) 0) same ∙ cleared.cleared j low
        | inr ne ↦
            let moved = occurs-set l r0.entries at 0 place in
            let now = ap (occurs l) e in
            let gone = is_one-other l was ne in
            uncleared l0 l1 was l j cleared ne low ∙ tables.dead l j (omega (arith, moved, now, none, gone)) low
      ];
    }

pub ended_cleared : (r0 l0 r1 l1 : Names) (at : ℕ) → AreTables r0 l0 → at < length r0.entries → own_at r0.entries at ≡ true
    → IsCleared table_entries l0 l1 (get_or r0.entries at 0) table_entries → r1.entries ≡ set r0.entries at 0 → r1.limit ≡ r0.limit
    → IsCleared table_entries (names_seen r0 l0) (names_seen r1 l1) at table_entries
ended_cleared r0 l0 r1 l1 at tables place own cleared e limit =
    let was = get_or r0.entries at 0 in
    let is = own_is r0.entries at own in
    let used = cleared.used in
    let same = own_below_same (flat r0.entries l0.entries) l0.entries at was table_entries (λ i low.
    own_both r0 l0 at i tables place low
    ∙ ap (λ (b : Bool). b && own_at l0.entries (was * table_entries + i)) own) in
    cleared_flat r0 l0 r1 l1 at tables (ended_tables r0 l0 r1 l1 at tables place own cleared e limit) place e cleared.limit
    (λ q j low ne small. uncleared l0 l1 was (get_or r0.entries q 0) j cleared (λ z. ne (occurs_once was r0.entries q at is.1 low place z refl)) small)
    (omega (arith, used, same))

-- A memory's roots name what those of another do.

pub shared_tables : (roots leaves new : Names) (m n : ℕ) → AreTables roots leaves → n * table_entries + table_entries ≤ length roots.entries
    → IsCopied table_entries roots new m n table_entries
    → ((i : ℕ) → i < memory_pages → get_or (flat roots.entries leaves.entries) (n * memory_pages + i) 0 ≡ 0) → AreTables new leaves
shared_tables roots leaves new m n tables room copied empty =
    let rs = roots.entries in
    let ls = leaves.entries in
    let rows = tables.rows in
    let limit = copied.limit in
    let short = tables.short in
    let long = copied.long in
    record {
      rows = omega (arith, rows, limit);
      few = tables.few;
      short = omega (arith, short, long);
      zero = tables.zero;
      dead = λ l j none low. elim (cases_lt 0 (occurs l rs)) [
        | inl some ↦
            let p = named_place l rs some in
            let under = p.below in
            elim (cases_eq (p.at / table_entries) n) [
              | inl e ↦
                  let i = p.at % table_entries * table_entries + j in
                  let here : n * memory_pages + i ≡ p.at * table_entries + j = omega (arith, e, low) in
                  ap (λ (r : ℕ). get_or ls (r * table_entries + j) 0) (sym p.is) ∙ sym (flat_place rs ls p.at j under low)
                  ∙ ap (λ (k : ℕ). get_or (flat rs ls) k 0) (sym here) ∙ empty i (omega (arith, low))
              | inr ne ↦
                  let kept = uncopied roots new m n (p.at / table_entries) (p.at % table_entries) copied ne (omega arith) in
                  let whole : p.at ≡ p.at / table_entries * table_entries + p.at % table_entries = omega arith in
                  let still : get_or new.entries p.at 0 ≡ l =
                  ap (λ (k : ℕ). get_or new.entries k 0) whole ∙ kept ∙ ap (λ (k : ℕ). get_or rs k 0) (sym whole) ∙ p.is in
                  let often = occurs_at new.entries p.at (omega (arith, under, long)) in
                  let same = ap (λ (x : ℕ). occurs x new.entries) still in
                  absurd (omega (arith, often, same, none))
            ]
        | inr out ↦ tables.dead l j (omega (arith, out)) low
      ];
    }

pub shared_copied : (roots leaves new : Names) (m n : ℕ) → AreTables roots leaves → AreTables new leaves → m * table_entries + table_entries ≤ length roots.entries
    → n * table_entries + table_entries ≤ length roots.entries → IsCopied table_entries roots new m n table_entries
    → IsCopied memory_pages (names_seen roots leaves) (names_seen new leaves) m n memory_pages
shared_copied roots leaves new m n tables later from to copied =
    let rs = roots.entries in
    let ls = leaves.entries in
    let long = copied.long in
    let others : (k : ℕ) → k / memory_pages ≢ n → get_or (flat new.entries ls) k 0 ≡ get_or (flat rs ls) k 0 = (λ k ne.
    let q = k / table_entries in
    let whole : q ≡ k / memory_pages * table_entries + q % table_entries = omega arith in
    let kept : get_or new.entries q 0 ≡ get_or rs q 0 =
    ap (λ (x : ℕ). get_or new.entries x 0) whole
    ∙ uncopied roots new m n (k / memory_pages) (q % table_entries) copied ne (omega arith)
    ∙ ap (λ (x : ℕ). get_or rs x 0) (sym whole) in
    flat_any new leaves k later ∙ ap (λ (r : ℕ). get_or ls (r * table_entries + k % table_entries) 0) kept ∙ sym (flat_any roots leaves k tables)) in
    record {
      long = (let a = length_flat rs ls in let b = length_flat new.entries ls in omega (arith, a, b, long));
      limit = refl;
      copied = λ j low.
          let q = j / table_entries in
          let o = j % table_entries in
          let there : n * memory_pages + j ≡ (n * table_entries + q) * table_entries + o = omega arith in
          let here : m * memory_pages + j ≡ (m * table_entries + q) * table_entries + o = omega arith in
          let small : q < table_entries = omega (arith, low) in
          ap (λ (k : ℕ). get_or (flat new.entries ls) k 0) there
          ∙ flat_place new.entries ls (n * table_entries + q) o (omega (arith, to, long, small)) (omega arith)
          ∙ ap (λ (r : ℕ). get_or ls (r * table_entries + o) 0) (copied.copied q small)
          ∙ sym (ap (λ (k : ℕ). get_or (flat rs ls) k 0) here ∙ flat_place rs ls (m * table_entries + q) o (omega (arith, from, small)) (omega arith));
      below = λ k low. others k (λ z. absurd (omega (arith, z, low)));
      above = λ k high. others k (λ z. absurd (omega (arith, z, high)));
    }
