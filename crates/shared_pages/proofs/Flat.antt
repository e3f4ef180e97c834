-- What is seen of roots and leaves.
use Rattle.shared_pages.specs.Size.{memory_pages, table_entries}
use Rattle.std.proofs.Common.{◌≡◌, ◌≢◌, ℕ, zero, suc, ◌+◌, ◌*◌, ◌/◌, ◌%◌, ◌<◌, ◌≤◌, List, [], ◌∷◌, Bool, true, false, length, get_or, arith, ap, sym, ◌∙◌}
use Rattle.std.proofs.Common.{refl, inl, inr, subst}
use Rattle.std.specs.Prelude.{◌&&◌}
use Rattle.std.proofs.lemmas.Bool.{cases_eq, cases_lt}
use Rattle.std.proofs.lemmas.List.{ext_get_or, get_or_past}
use Rattle.shared_pages.specs.Counts.{IsShared, Names, different, occurs}
use Rattle.shared_pages.specs.Store.{own_at, tabulate}
use Rattle.shared_pages.specs.Tables.{AreTables, IsOwnLeaf, flat, leaf_entry, names_seen}
use Rattle.shared_pages.proofs.ForkSteps.{own_true, when_not}
use Rattle.shared_pages.proofs.Joined.{different_alike}
use Rattle.shared_pages.proofs.Named.{below_nonzero, shared_when}
use Rattle.shared_pages.proofs.Owners.{is_one-other, occurs_at, occurs_cons, occurs_once, once_from_places}
use Rattle.shared_pages.proofs.Tabulate.{at_tabulate, length-tabulate, past_tabulate, same_tabulate}
use Rattle.shared_pages.proofs.Views.{own_is}

-- a place of a number
pub record Place (x : ℕ) (xs : List ℕ) : Type 0 where
  pub at : ℕ
  pub below : at < length xs
  pub is : get_or xs at 0 ≡ x

pub named_place : (x : ℕ) (xs : List ℕ) → 0 < occurs x xs → Place x xs
named_place x [] h = absurd (omega (arith, h))
named_place x (y ∷ xs) h = elim (cases_eq x y) [
  | inl e ↦ record { at = 0; below = omega arith; is = sym e }
  | inr ne ↦
      let none = is_one-other x y ne in
      let more = occurs_cons x y xs in
      let rest = named_place x xs (omega (arith, h, none, more)) in
      let low = rest.below in
      record { at = suc rest.at; below = omega (arith, low); is = rest.is }
]

pub length_flat : (rs ls : List ℕ) → length (flat rs ls) ≡ length rs * table_entries
length_flat rs ls = length-tabulate (length rs * table_entries) (leaf_entry rs ls)

pub flat_at : (rs ls : List ℕ) (i : ℕ) → i < length rs * table_entries → get_or (flat rs ls) i 0 ≡ leaf_entry rs ls i
flat_at rs ls i h = at_tabulate (length rs * table_entries) (leaf_entry rs ls) i 0 h

pub leaf_place : (rs ls : List ℕ) (q j : ℕ) → j < table_entries
    → leaf_entry rs ls (q * table_entries + j) ≡ get_or ls (get_or rs q 0 * table_entries + j) 0
leaf_place rs ls q j low =
    let at = q * table_entries + j in
    let root : at / table_entries ≡ q = omega (arith, low) in
    let rest : at % table_entries ≡ j = omega (arith, low) in
    ap (λ (r : ℕ). get_or ls (get_or rs r 0 * table_entries + at % table_entries) 0) root
    ∙ ap (λ (r : ℕ). get_or ls (get_or rs q 0 * table_entries + r) 0) rest

pub flat_place : (rs ls : List ℕ) (q j : ℕ) → q < length rs → j < table_entries
    → get_or (flat rs ls) (q * table_entries + j) 0 ≡ get_or ls (get_or rs q 0 * table_entries + j) 0
flat_place rs ls q j h low = flat_at rs ls (q * table_entries + j) (omega (arith, h, low)) ∙ leaf_place rs ls q j low

pub leaf_zero : (roots leaves : Names) (l j : ℕ) → AreTables roots leaves → l ≡ 0 → j < table_entries
    → get_or leaves.entries (l * table_entries + j) 0 ≡ 0
leaf_zero roots leaves l j tables none low =
    ap (λ (k : ℕ). get_or leaves.entries k 0) (let e : l * table_entries + j ≡ j = omega (arith, none) in e) ∙ tables.zero j low

-- past the end a root names leaf 0
pub flat_any : (roots leaves : Names) (i : ℕ) → AreTables roots leaves
    → get_or (flat roots.entries leaves.entries) i 0 ≡ leaf_entry roots.entries leaves.entries i
flat_any roots leaves i tables =
    let rs = roots.entries in
    let ls = leaves.entries in
    elim (cases_lt i (length rs * table_entries)) [
      | inl low ↦ flat_at rs ls i low
      | inr high ↦
          let none : get_or rs (i / table_entries) 0 ≡ 0 = get_or_past rs (i / table_entries) 0 (omega (arith, high)) in
          past_tabulate (length rs * table_entries) (leaf_entry rs ls) i 0 high
          ∙ sym (leaf_zero roots leaves (get_or rs (i / table_entries) 0) (i % table_entries) tables none (omega arith))
    ]

pub flat_same : (rs ls qs ks : List ℕ) → length qs ≡ length rs → ((i : ℕ) → i < length rs * table_entries → leaf_entry qs ks i ≡ leaf_entry rs ls i)
    → flat qs ks ≡ flat rs ls
flat_same rs ls qs ks long same =
    ap (λ (n : ℕ). tabulate (n * table_entries) (leaf_entry qs ks)) long
    ∙ same_tabulate (length rs * table_entries) (leaf_entry qs ks) (leaf_entry rs ls) same

-- A page is a memory's own where one root names its leaf and one entry of all leaves names it.

-- a place of the leaves with a page other than 0 is seen
pub record Seen (roots leaves : Names) (k : ℕ) : Type 0 where
  pub at : ℕ
  pub below : at < length roots.entries * table_entries
  pub rest : at % table_entries ≡ k % table_entries
  pub root : get_or roots.entries (at / table_entries) 0 ≡ k / table_entries
  pub is : get_or (flat roots.entries leaves.entries) at 0 ≡ get_or leaves.entries k 0

pub seen_leaf : (roots leaves : Names) (k : ℕ) → AreTables roots leaves → 0 < get_or leaves.entries k 0 → Seen roots leaves k
seen_leaf roots leaves k tables some =
    let rs = roots.entries in
    let ls = leaves.entries in
    let l = k / table_entries in
    let j = k % table_entries in
    let whole : k ≡ l * table_entries + j = omega arith in
    let low : j < table_entries = omega arith in
    elim (cases_lt 0 (occurs l rs)) [
      | inl named ↦
          let p = named_place l rs named in
          let under = p.below in
          record {
            at = p.at * table_entries + j;
            below = omega (arith, under, low);
            rest = omega (arith, low);
            root = ap (λ (r : ℕ). get_or rs r 0) (let e : (p.at * table_entries + j) / table_entries ≡ p.at = omega (arith, low) in e) ∙ p.is;
            is = flat_place rs ls p.at j p.below low ∙ ap (λ (r : ℕ). get_or ls (r * table_entries + j) 0) p.is
                ∙ ap (λ (r : ℕ). get_or ls r 0) (sym whole);
          }
      | inr out ↦
          let none : get_or ls k 0 ≡ 0 = ap (λ (r : ℕ). get_or ls r 0) whole ∙ tables.dead l j (omega (arith, out)) low in
          absurd (omega (arith, none, some))
    ]

pub root_own : (roots leaves : Names) (q j : ℕ) → AreTables roots leaves → q < length roots.entries → j < table_entries
    → own_at (flat roots.entries leaves.entries) (q * table_entries + j) ≡ true → own_at roots.entries q ≡ true
root_own roots leaves q j tables h low own =
    let rs = roots.entries in
    let ls = leaves.entries in
    let es = flat rs ls in
    let at = q * table_entries + j in
    let is = own_is es at own in
    let page = is.0 in
    let here = flat_place rs ls q j h low in
    let long = length_flat rs ls in
    let some : 0 < get_or rs q 0 = (elim (cases_lt 0 (get_or rs q 0)) [
      | inl k ↦ k
      | inr k ↦
          let z : get_or rs q 0 ≡ 0 = omega (arith, k) in
          let none : get_or es at 0 ≡ 0 = here ∙ leaf_zero roots leaves (get_or rs q 0) j tables z low in
          absurd (omega (arith, none, page))
    ]) in
    own_true rs q some (once_from_places rs q h (λ k below e.
    let there : get_or es (k * table_entries + j) 0 ≡ get_or es at 0 =
    flat_place rs ls k j below low ∙ ap (λ (r : ℕ). get_or ls (r * table_entries + j) 0) e ∙ sym here in
    let same = occurs_once (get_or es at 0) es (k * table_entries + j) at is.1 (omega (arith, long, below, low)) (omega (arith, long, h, low)) there refl in
    omega (arith, same)))

pub leaf_own : (roots leaves : Names) (q j : ℕ) → AreTables roots leaves → q < length roots.entries → j < table_entries
    → own_at (flat roots.entries leaves.entries) (q * table_entries + j) ≡ true
    → own_at leaves.entries (get_or roots.entries q 0 * table_entries + j) ≡ true
leaf_own roots leaves q j tables h low own =
    let rs = roots.entries in
    let ls = leaves.entries in
    let es = flat rs ls in
    let at = q * table_entries + j in
    let place = get_or rs q 0 * table_entries + j in
    let is = own_is es at own in
    let page = is.0 in
    let here = flat_place rs ls q j h low in
    let long = length_flat rs ls in
    let some : 0 < get_or ls place 0 = omega (arith, here, page) in
    own_true ls place some (once_from_places ls place (below_nonzero ls place some) (λ k below e.
    let p = seen_leaf roots leaves k tables (omega (arith, e, some)) in
    let under = p.below in
    let same = occurs_once (get_or es at 0) es p.at at is.1 (omega (arith, long, under)) (omega (arith, long, h, low)) (p.is ∙ e ∙ sym here) refl in
    let rest = p.rest in
    let root = p.root in
    let leaf : get_or rs (p.at / table_entries) 0 ≡ get_or rs q 0 =
    ap (λ (r : ℕ). get_or rs r 0) (let e : p.at / table_entries ≡ q = omega (arith, same, low) in e) in
    omega (arith, same, rest, root, leaf, low)))

pub own_back : (roots leaves : Names) (q j : ℕ) → AreTables roots leaves → q < length roots.entries → j < table_entries → own_at roots.entries q ≡ true
    → own_at leaves.entries (get_or roots.entries q 0 * table_entries + j) ≡ true
    → own_at (flat roots.entries leaves.entries) (q * table_entries + j) ≡ true
own_back roots leaves q j tables h low root leaf =
    let rs = roots.entries in
    let ls = leaves.entries in
    let es = flat rs ls in
    let at = q * table_entries + j in
    let place = get_or rs q 0 * table_entries + j in
    let ir = own_is rs q root in
    let il = own_is ls place leaf in
    let here = flat_place rs ls q j h low in
    let page = il.0 in
    let long = length_flat rs ls in
    own_true es at (omega (arith, here, page)) (once_from_places es at (omega (arith, long, h, low)) (λ k below e.
    let r = k / table_entries in
    let under : k < length rs * table_entries = omega (arith, below, long) in
    let there = flat_at rs ls k under in
    let there_some : 0 < get_or ls (get_or rs r 0 * table_entries + k % table_entries) 0 = omega (arith, there, e, here, page) in
    let same = occurs_once (get_or ls place 0) ls (get_or rs r 0 * table_entries + k % table_entries) place il.1 (below_nonzero ls
    (get_or rs r 0 * table_entries + k % table_entries) there_some) (below_nonzero ls place il.0) (sym there ∙ e ∙ here) refl in
    let name : get_or rs r 0 ≡ get_or rs q 0 = omega (arith, same, low) in
    let first = occurs_once (get_or rs q 0) rs r q ir.1 (omega (arith, under)) h name refl in
    omega (arith, same, first, low)))

pub same_truth : (a b : Bool) → (a ≡ true → b ≡ true) → (b ≡ true → a ≡ true) → a ≡ b
same_truth true b there back = sym (there refl)
same_truth false false there back = refl
same_truth false true there back = back refl

pub both_true : (a b : Bool) → a ≡ true → b ≡ true → (a && b) ≡ true
both_true true b x y = y
both_true false b x y = x

pub first_true : (a b : Bool) → (a && b) ≡ true → a ≡ true
first_true true b h = refl
first_true false b h = h

pub second_true : (a b : Bool) → (a && b) ≡ true → b ≡ true
second_true true b h = h
second_true false b h = absurd (not_both h)
  where
    not_both : false ≡ true → ⊥
    not_both e = cc

pub own_both : (roots leaves : Names) (q j : ℕ) → AreTables roots leaves → q < length roots.entries → j < table_entries
    → own_at (flat roots.entries leaves.entries) (q * table_entries + j)
    ≡ (own_at roots.entries q && own_at leaves.entries (get_or roots.entries q 0 * table_entries + j))
own_both roots leaves q j tables h low =
    let a = own_at roots.entries q in
    let b = own_at leaves.entries (get_or roots.entries q 0 * table_entries + j) in
    same_truth (own_at (flat roots.entries leaves.entries) (q * table_entries + j)) (a && b)
    (λ own. both_true a b (root_own roots leaves q j tables h low own) (leaf_own roots leaves q j tables h low own))
    (λ own. own_back roots leaves q j tables h low (first_true a b own) (second_true a b own))

-- How many pages are named.

leaf_named : (roots leaves : Names) (p : ℕ) → AreTables roots leaves → 0 < p → 0 < occurs p (flat roots.entries leaves.entries)
    → 0 < occurs p leaves.entries
leaf_named roots leaves p tables other some =
    let rs = roots.entries in
    let ls = leaves.entries in
    let k = named_place p (flat rs ls) some in
    let under = k.below in
    let long = length_flat rs ls in
    let place = get_or rs (k.at / table_entries) 0 * table_entries + k.at % table_entries in
    let there : get_or ls place 0 ≡ p = sym (flat_at rs ls k.at (omega (arith, long, under))) ∙ k.is in
    subst (λ (x : ℕ). 0 < occurs x ls) there (occurs_at ls place (below_nonzero ls place (omega (arith, there, other))))

flat_named : (roots leaves : Names) (p : ℕ) → AreTables roots leaves → 0 < p → 0 < occurs p leaves.entries
    → 0 < occurs p (flat roots.entries leaves.entries)
flat_named roots leaves p tables other some =
    let es = flat roots.entries leaves.entries in
    let k = named_place p leaves.entries some in
    let is = k.is in
    let s = seen_leaf roots leaves k.at tables (omega (arith, is, other)) in
    let under = s.below in
    let long = length_flat roots.entries leaves.entries in
    subst (λ (x : ℕ). 0 < occurs x es) (s.is ∙ k.is) (occurs_at es s.at (omega (arith, long, under)))

pub different_flat : (roots leaves : Names) → AreTables roots leaves → different (flat roots.entries leaves.entries) ≡ different leaves.entries
different_flat roots leaves tables =
    different_alike (flat roots.entries leaves.entries) leaves.entries (λ p other some. leaf_named roots leaves p tables other some)
    (λ p other some. flat_named roots leaves p tables other some)

pub unnamed_flat : (roots leaves : Names) (p : ℕ) → AreTables roots leaves → 0 < p → occurs p leaves.entries ≡ 0
    → occurs p (flat roots.entries leaves.entries) ≡ 0
unnamed_flat roots leaves p tables other none = elim (cases_lt 0 (occurs p (flat roots.entries leaves.entries))) [
  | inl some ↦ let named = leaf_named roots leaves p tables other some in absurd (omega (arith, named, none))
  | inr out ↦ omega (arith, out)
]

-- The places of an entry.

pub in_roots : (roots leaves n : Names) (at : ℕ) → names_seen roots leaves ≡ n → at < length n.entries → at / table_entries < length roots.entries
in_roots roots leaves n at view low =
    let a = ap (λ (x : Names). length x.entries) view in
    let b = length_flat roots.entries leaves.entries in
    omega (arith, a, b, low)

pub in_leaves : (roots leaves : Names) (l at : ℕ) → AreTables roots leaves → l < roots.limit → l * table_entries + at % table_entries < length leaves.entries
in_leaves roots leaves l at tables low = let rows = tables.rows in omega (arith, rows, low)

pub row_in_leaves : (roots leaves : Names) (l : ℕ) → AreTables roots leaves → l < roots.limit → l * table_entries + table_entries ≤ length leaves.entries
row_in_leaves roots leaves l tables low = let rows = tables.rows in omega (arith, rows, low)

pub own_any : (roots leaves : Names) (at : ℕ) → AreTables roots leaves → at / table_entries < length roots.entries
    → own_at (flat roots.entries leaves.entries) at
    ≡ (own_at roots.entries (at / table_entries) && own_at leaves.entries (get_or roots.entries (at / table_entries) 0 * table_entries + at % table_entries))
own_any roots leaves at tables h =
    ap (own_at (flat roots.entries leaves.entries)) (let e : at ≡ at / table_entries * table_entries + at % table_entries = omega arith in e)
    ∙ own_both roots leaves (at / table_entries) (at % table_entries) tables h (omega arith)

pub root_in : (roots leaves n : Names) (at : ℕ) → names_seen roots leaves ≡ n → at * table_entries + table_entries ≤ length n.entries
    → at < length roots.entries
root_in roots leaves n at view low =
    let a = ap (λ (x : Names). length x.entries) view in
    let b = length_flat roots.entries leaves.entries in
    omega (arith, a, b, low)

pub row_of_roots : (roots leaves n : Names) (m : ℕ) → names_seen roots leaves ≡ n → m * memory_pages + memory_pages ≤ length n.entries
    → m * table_entries + table_entries ≤ length roots.entries
row_of_roots roots leaves n m view low =
    let a = ap (λ (x : Names). length x.entries) view in
    let b = length_flat roots.entries leaves.entries in
    omega (arith, a, b, low)

-- an entry that is shared is so in a leaf that one root names
pub shared_leaf : (roots leaves : Names) (at l : ℕ) → AreTables roots leaves → IsOwnLeaf roots (at / table_entries) l
    → IsShared (flat roots.entries leaves.entries) at → l < roots.limit → IsShared leaves.entries (l * table_entries + at % table_entries)
shared_leaf roots leaves at l tables own shared low =
    let rs = roots.entries in
    let ls = leaves.entries in
    let q = at / table_entries in
    let place = l * table_entries + at % table_entries in
    let named = own.named in
    let other = own.other in
    let out : own_at (flat rs ls) at ≡ false = when_not (own_at (flat rs ls) at) (λ h.
    let is = own_is (flat rs ls) at h in
    let some = is.0 in
    let once = is.1 in
    let two = shared (λ z. absurd (omega (arith, z, some))) in
    omega (arith, two, once)) in
    let root : own_at rs q ≡ true = own_true rs q (omega (arith, named, other)) (ap (λ (x : ℕ). occurs x rs) named ∙ own.once) in
    shared_when ls place (in_leaves roots leaves l at tables low)
    (ap (λ (x : ℕ). own_at ls (x * table_entries + at % table_entries)) (sym named)
    ∙ ap (λ (b : Bool). b && own_at ls (get_or rs q 0 * table_entries + at % table_entries)) (sym root)
    ∙ sym (own_any roots leaves at tables own.place) ∙ out)

pub flat_none : (rs ls : List ℕ) → rs ≡ [] → flat rs ls ≡ []
flat_none rs ls e =
    let long = length_flat rs ls in
    let is = ap length e in
    ext_get_or 0 (flat rs ls) [] (omega (arith, long, is)) (λ i low. absurd (omega (arith, low, long, is)))
