-- A row is cleared, leaf by leaf.
use Rattle.shared_pages.specs.Size.{memory_pages, table_entries}
use Rattle.std.proofs.Common.{◌≡◌, ◌≢◌, ℕ, zero, suc, ◌+◌, ◌-◌, ◌*◌, ◌<◌, ◌≤◌, List, length, get_or, arith, ap, sym, ◌∙◌, refl, inl, inr, false}
use Rattle.std.specs.Prelude.{nat_lt, ◌&&◌, ◌==◌}
use Rattle.std.proofs.lemmas.Bool.{cases_lt}
use Rattle.std.proofs.lemmas.Bool.Decides.{nat_tests}
use Rattle.shared_pages.specs.Counts.{Names, different, occurs, one_if}
use Rattle.shared_pages.specs.Rows.{IsCleared, own_below}
use Rattle.shared_pages.specs.Store.{own_at}

pub none_cleared : (old : Names) (n : ℕ) → IsCleared memory_pages old old n 0
unfolding own_below
none_cleared old n = record {
  long = refl;
  limit = refl;
  used = omega arith;
  cleared = λ j low. absurd (omega (arith, low));
  below = λ j low. refl;
  above = λ j high. refl;
  others = λ p some out. refl;
}

own_more : (es fs : List ℕ) (n a q c : ℕ) → ((i : ℕ) → i < c → own_at es (n * memory_pages + (a + i)) ≡ own_at fs (q * table_entries + i))
    → own_below memory_pages es n (a + c) ≡ own_below memory_pages es n a + own_below table_entries fs q c
unfolding own_below
own_more es fs n a q zero same = let e = ap (own_below memory_pages es n) (let z : a + zero ≡ a = omega arith in z) in omega (arith, e)
own_more es fs n a q (suc c) same =
    let e = ap (own_below memory_pages es n) (let z : a + suc c ≡ suc (a + c) = omega arith in z) in
    let rest = own_more es fs n a q c (λ i low. same i (omega (arith, low))) in
    let last = ap one_if (same c (omega arith)) in
    omega (arith, e, rest, last)

-- an entry that isn't cleared yet is the only one of its number where it was so before
own_still : (old cur : Names) (n a k : ℕ) → IsCleared memory_pages old cur n a
    → ((i j : ℕ) → i < memory_pages → j < memory_pages → get_or old.entries (n * memory_pages + i) 0 ≢ 0
    → get_or old.entries (n * memory_pages + i) 0 ≡ get_or old.entries (n * memory_pages + j) 0 → i ≡ j)
    → a ≤ k → k < memory_pages → own_at old.entries (n * memory_pages + k) ≡ own_at cur.entries (n * memory_pages + k)
own_still old cur n a k cleared apart high low =
    let at = n * memory_pages + k in
    let p = get_or old.entries at 0 in
    let same : get_or cur.entries at 0 ≡ p = cleared.above at (omega (arith, high)) in
    sym (ap (λ (x : ℕ). nat_lt 0 x && (occurs x cur.entries == 1)) same ∙ elim (cases_lt 0 p) [
      | inl some ↦ ap (λ (c : ℕ). nat_lt 0 p && (c == 1)) (cleared.others p some (λ j below e.
          let first = apart k j low (omega (arith, below, high, low)) (λ z. absurd (omega (arith, z, some))) (sym e) in
          absurd (omega (arith, first, below, high))))
      | inr none ↦ let z : p ≡ 0 = omega (arith, none) in not_own p (occurs p cur.entries) z ∙ sym (not_own p (occurs p old.entries) z)
    ])
  where
    not_own : (p n : ℕ) → p ≡ 0 → (nat_lt 0 p && (n == 1)) ≡ false
    not_own p n h = grind (arith, nat_tests)

pub cleared_more : (old cur new : Names) (n r : ℕ) → r < table_entries → IsCleared memory_pages old cur n (r * table_entries)
    → IsCleared table_entries cur new (n * table_entries + r) table_entries
    → ((i j : ℕ) → i < memory_pages → j < memory_pages → get_or old.entries (n * memory_pages + i) 0 ≢ 0
    → get_or old.entries (n * memory_pages + i) 0 ≡ get_or old.entries (n * memory_pages + j) 0 → i ≡ j)
    → IsCleared memory_pages old new n ((r + 1) * table_entries)
cleared_more old cur new n r small before now apart =
    let a = r * table_entries in
    let q = n * table_entries + r in
    let end : (r + 1) * table_entries ≡ a + table_entries = omega arith in
    let was = before.used in
    let used = now.used in
    let more = own_more old.entries cur.entries n a q table_entries (λ i low.
    own_still old cur n a (a + i) before apart (omega arith) (omega (arith, small, low))
    ∙ ap (own_at cur.entries) (let e : n * memory_pages + (a + i) ≡ q * table_entries + i = omega arith in e)) in
    let whole = ap (own_below memory_pages old.entries n) end in
    record {
      long = now.long ∙ before.long;
      limit = now.limit ∙ before.limit;
      used = omega (arith, was, used, more, whole);
      cleared = λ j low. elim (cases_lt j a) [
        | inl b ↦ now.below (n * memory_pages + j) (omega (arith, b)) ∙ before.cleared j b
        | inr b ↦
            let i = j - a in
            let e : n * memory_pages + j ≡ q * table_entries + i = omega (arith, b) in
            ap (λ (k : ℕ). get_or new.entries k 0) e ∙ now.cleared i (omega (arith, b, low))
      ];
      below = λ j low. now.below j (omega (arith, low)) ∙ before.below j low;
      above = λ j high. now.above j (omega (arith, high)) ∙ before.above j (omega (arith, high));
      others = λ p some out.
          now.others p some (λ i low e. out (a + i) (omega (arith, low))
          (sym (before.above (n * memory_pages + (a + i)) (omega arith))
          ∙ ap (λ (k : ℕ). get_or cur.entries k 0) (let z : n * memory_pages + (a + i) ≡ q * table_entries + i = omega arith in z) ∙ e))
          ∙ before.others p some (λ j low. out j (omega (arith, low)));
    }

pub apart_still : (old cur : Names) (n r : ℕ) → r < table_entries → IsCleared memory_pages old cur n (r * table_entries)
    → ((i j : ℕ) → i < memory_pages → j < memory_pages → get_or old.entries (n * memory_pages + i) 0 ≢ 0
    → get_or old.entries (n * memory_pages + i) 0 ≡ get_or old.entries (n * memory_pages + j) 0 → i ≡ j)
    → (i j : ℕ) → i < table_entries → j < table_entries → get_or cur.entries ((n * table_entries + r) * table_entries + i) 0 ≢ 0
    → get_or cur.entries ((n * table_entries + r) * table_entries + i) 0 ≡ get_or cur.entries ((n * table_entries + r) * table_entries + j) 0 → i ≡ j
apart_still old cur n r small cleared apart i j low lower full e =
    let at : (k : ℕ) → get_or cur.entries ((n * table_entries + r) * table_entries + k) 0 ≡ get_or old.entries (n * memory_pages + (r * table_entries + k)) 0 =
    (λ k. ap (λ (x : ℕ). get_or cur.entries x 0) (let z : (n * table_entries + r) * table_entries + k ≡ n * memory_pages + (r * table_entries + k) = omega
    arith in z) ∙ cleared.above (n * memory_pages + (r * table_entries + k)) (omega arith)) in
    let first = apart (r * table_entries + i) (r * table_entries + j) (omega (arith, small, low)) (omega (arith, small, lower)) (λ z. full (at i ∙ z))
    (sym (at i) ∙ e ∙ at j) in
    omega (arith, first)
