-- Pages that become a memory's own, one after the other.
use Rattle.am_base.specs.declared.limits.TheConstants.{PAGE_BYTES}
use Rattle.shared_pages.specs.Size.{memory_pages}
use Rattle.std.proofs.Common.{◌≡◌, ◌≢◌, ℕ, zero, suc, ◌+◌, ◌/◌, ◌<◌, ◌≤◌, ◌⊎◌, ◌++◌, ◌∷◌, [], List, Bool, true, false, length, take, get_or}
use Rattle.std.proofs.Common.{arith, ap, sym, ◌∙◌, refl, subst, inl, inr, get_or-set_other, length-append}
use Rattle.std.specs.Prelude.{is_some, cond, nat_eq, not}
use Rattle.std.specs.List.{count_by}
use Rattle.std.proofs.Math.ListN.{length-set}
use Rattle.std.proofs.lemmas.Bool.{cases_Bool, cases_eq, cases_lt}
use Rattle.std.proofs.lemmas.Bool.Decides.{nat_tests}
use Rattle.std.proofs.lemmas.List.{get_or_append_left}
use Rattle.std.proofs.lemmas.List.Sums.{sum_by-set}
use Rattle.shared_pages.specs.Counts.{occurs, one_if}
use Rattle.shared_pages.specs.Store.{Store, Memory, IsIn, IsMadeOwn, IsRenamed, IsReserved, the_memory, or_empty, page, is_own, all_pages}
use Rattle.shared_pages.specs.Store.{changed_count, tabulate, used_pages}
use Rattle.shared_pages.proofs.ForkSteps.{when_not}
use Rattle.shared_pages.proofs.PageSteps.{own_full}
use Rattle.shared_pages.proofs.Tabulate.{at_tabulate, counted_none, counted_more, length-tabulate, same_tabulate, set_tabulate}

not_both : true ≡ false → ⊥
not_both e = cc

-- no page changed
pub same_bit : (x : ℕ) → not (nat_eq x x) ≡ false
same_bit x = grind (arith, nat_tests)

none_counted : (n : ℕ) → count_by (λ b. b) (tabulate n (λ _. false)) ≡ 0
none_counted zero = counted_none (λ _. false)
none_counted (suc n) =
    let more = counted_more (λ _. false) n in
    let rest = none_counted n in
    let next = ap (λ (k : ℕ). count_by (λ b. b) (tabulate k (λ _. false))) (let e : suc n ≡ n + 1 = omega arith in e) in
    omega (arith, more, rest, next)

pub nothing_reserved : (s : Store) (m : ℕ) → IsIn s m → used_pages s ≤ s.peak → IsReserved s s m []
nothing_reserved s m known most =
    let none : changed_count s s m ≡ 0 =
    ap (count_by (λ b. b)) (same_tabulate memory_pages (λ i. not (nat_eq (page s m i) (page s m i))) (λ _. false) (λ i low. same_bit (page s m i)))
    ∙ none_counted memory_pages in
    record {
      alive = known;
      bytes = refl;
      long = refl;
      others = λ k ne. refl;
      pages = λ i. inl refl;
      grown = λ k i h. h;
      still = λ p some h. h;
      used = omega (arith, none);
      peak = omega (arith, most);
    }

one_or_none : (b : Bool) → one_if b ≤ 1
one_or_none true = omega arith
one_or_none false = omega arith

pub at_end : (xs : List ℕ) (a : ℕ) → get_or (xs ++ a ∷ []) (length xs) 0 ≡ a
at_end [] a = refl
at_end (x ∷ xs) a = at_end xs a

-- a page of one of some addresses is one of more addresses
named_more : (xs : List ℕ) (a i : ℕ) → (k : ℕ) × (k < length xs) × (get_or xs k 0 / PAGE_BYTES ≡ i)
    → (k : ℕ) × (k < length (xs ++ a ∷ [])) × (get_or (xs ++ a ∷ []) k 0 / PAGE_BYTES ≡ i)
named_more xs a i n =
    let low = n.1 in
    let long = length-append xs (a ∷ []) in
    (n.0, omega (arith, low, long), ap (λ (b : ℕ). b / PAGE_BYTES) (get_or_append_left xs (a ∷ []) 0 n.0 n.1) ∙ n.2)

named_last : (xs : List ℕ) (a i : ℕ) → a / PAGE_BYTES ≡ i → (k : ℕ) × (k < length (xs ++ a ∷ [])) × (get_or (xs ++ a ∷ []) k 0 / PAGE_BYTES ≡ i)
named_last xs a i is =
    let long = length-append xs (a ∷ []) in
    (length xs, omega (arith, long), ap (λ (b : ℕ). b / PAGE_BYTES) (at_end xs a) ∙ is)

-- a page of the memory that isn't the one that was made its own
elsewhere : (s t : Store) (m i j : ℕ) → IsMadeOwn s t m i → j ≢ i → page t m j ≡ page s m j
elsewhere s t m i j made ne =
    ap (λ (y : Memory). get_or y.pages j 0) (ap or_empty made.here) ∙ get_or-set_other (the_memory s m).pages i j (page t m i) 0 ne

-- the page that was made the memory's own
renamed_here : (old s t : Store) (m i a : ℕ) (xs : List ℕ) → IsReserved old s m xs → a / PAGE_BYTES ≡ i → IsMadeOwn s t m i
    → (page t m i ≡ page old m i) ⊎ IsRenamed old t m (xs ++ a ∷ []) i
renamed_here old s t m i a xs r is made = elim (cases_Bool (is_own s m i)) [
  | inl own ↦ elim (r.pages i) [
    | inl same ↦ inl (made.kept own ∙ same)
    | inr w ↦ inr (record {
      named = named_more xs a i w.named;
      shared = w.shared;
      own = made.own;
      fresh = ap (λ (q : ℕ). occurs q (all_pages old)) (made.kept own) ∙ w.fresh;
    })
  ]
  | inr shared ↦ inr (record {
    named = named_last xs a i is;
    shared = when_not (is_own old m i) (λ own. not_both (sym (r.grown m i own) ∙ shared));
    own = made.own;
    fresh = elim (cases_lt 0 (occurs (page t m i) (all_pages old))) [
      | inl there ↦
          let still = r.still (page t m i) (own_full t m i made.own) there in
          let none = made.fresh shared in
          absurd (omega (arith, still, none))
      | inr none ↦ omega (arith, none)
    ];
  })
]

renamed_more : (old s t : Store) (m i a j : ℕ) (xs : List ℕ) → IsReserved old s m xs → a / PAGE_BYTES ≡ i → IsMadeOwn s t m i
    → (page t m j ≡ page old m j) ⊎ IsRenamed old t m (xs ++ a ∷ []) j
renamed_more old s t m i a j xs r is made = elim (cases_eq j i) [
  | inl e ↦ subst (λ (q : ℕ). (page t m q ≡ page old m q) ⊎ IsRenamed old t m (xs ++ a ∷ []) q) (sym e) (renamed_here old s t m i a xs r is made)
  | inr ne ↦ elim (r.pages j) [
    | inl same ↦ inl (elsewhere s t m i j made ne ∙ same)
    | inr w ↦ inr (record {
      named = named_more xs a j w.named;
      shared = w.shared;
      own = made.grown m j w.own;
      fresh = ap (λ (q : ℕ). occurs q (all_pages old)) (elsewhere s t m i j made ne) ∙ w.fresh;
    })
  ]
]

-- how many pages changed
changed_more : (old s t : Store) (m i : ℕ) (xs : List ℕ) → IsReserved old s m xs → i < memory_pages → IsMadeOwn s t m i
    → changed_count old t m + one_if (is_own s m i) ≡ changed_count old s m + 1
changed_more old s t m i xs r low made = elim (cases_Bool (is_own s m i)) [
  | inl own ↦
      let one = ap one_if own in
      let same = ap (count_by (λ b. b)) (same_tabulate memory_pages (λ j. not (nat_eq (page t m j) (page old m j)))
      (λ j. not (nat_eq (page s m j) (page old m j))) (λ j below. ap (λ (q : ℕ). not (nat_eq q (page old m j))) (elim (cases_eq j i) [
        | inl e ↦ ap (page t m) e ∙ made.kept own ∙ sym (ap (page s m) e)
        | inr ne ↦ elsewhere s t m i j made ne
      ]))) in
      omega (arith, one, same)
  | inr shared ↦
      let none = ap one_if shared in
      let was : page s m i ≡ page old m i = elim (r.pages i) [
        | inl same ↦ same
        | inr w ↦ absurd (not_both (sym w.own ∙ shared))
      ] in
      let f : ℕ → Bool = λ j. not (nat_eq (page s m j) (page old m j)) in
      let g : ℕ → Bool = λ j. not (nat_eq (page t m j) (page old m j)) in
      let next = set_tabulate memory_pages f g i true low (differ (page t m i) (page old m i) (λ e. made.differs shared (e ∙ sym was)))
      (λ j below ne. ap (λ (q : ℕ). not (nat_eq q (page old m j))) (elsewhere s t m i j made ne)) in
      let long = length-tabulate memory_pages f in
      let count = sum_by-set (λ b. cond b 1 0) (tabulate memory_pages f) i true false (omega (arith, long, low)) in
      let before : one_if (get_or (tabulate memory_pages f) i false) ≡ 0 = ap one_if
      (at_tabulate memory_pages f i false low ∙ ap (λ (q : ℕ). not (nat_eq q (page old m i))) was ∙ same_bit (page old m i)) in
      let after = ap (count_by (λ b. b)) next in
      omega (arith, none, count, before, after)
]
  where
    differ : (x y : ℕ) → x ≢ y → not (nat_eq x y) ≡ true
    differ x y h = grind (arith, nat_tests)

pub reserved_more : (old s t : Store) (m i a : ℕ) (xs : List ℕ) → IsReserved old s m xs → a / PAGE_BYTES ≡ i → i < memory_pages → IsMadeOwn s t m i
    → IsReserved old t m (xs ++ a ∷ [])
reserved_more old s t m i a xs r page_is low made =
    let is = ap or_empty made.here in
    let before = r.used in
    let was = r.peak in
    let now = made.peak in
    let used = made.used in
    let most = one_or_none (is_own s m i) in
    let changed = changed_more old s t m i xs r low made in
    record {
      alive = ap is_some made.here;
      bytes = ap (λ (y : Memory). y.bytes) is ∙ r.bytes;
      long = ap (λ (y : Memory). length y.pages) is ∙ length-set (the_memory s m).pages i (page t m i) ∙ r.long;
      others = λ k ne. made.others k ne ∙ r.others k ne;
      pages = λ j. renamed_more old s t m i a j xs r page_is made;
      grown = λ k j h. made.grown k j (r.grown k j h);
      still = λ p some h. made.still p some (r.still p some h);
      used = omega (arith, before, used, changed);
      peak = omega (arith, now, was, used, most);
    }

-- the addresses so far are among all addresses
at_take : (xs : List ℕ) (n k : ℕ) → k < length (take n xs) → (k < length xs) × (get_or (take n xs) k 0 ≡ get_or xs k 0)
at_take [] zero k h = absurd (omega (arith, h))
at_take [] (suc n) k h = absurd (omega (arith, h))
at_take (x ∷ xs) zero k h = absurd (omega (arith, h))
at_take (x ∷ xs) (suc n) zero h = (omega arith, refl)
at_take (x ∷ xs) (suc n) (suc k) h = let rest = at_take xs n k (omega (arith, h)) in let low = rest.0 in (omega (arith, low), rest.1)

pub reserved_whole : (old s : Store) (m n : ℕ) (at : List ℕ) → IsReserved old s m (take n at) → IsReserved old s m at
reserved_whole old s m n at r = record {
  alive = r.alive;
  bytes = r.bytes;
  long = r.long;
  others = r.others;
  pages = λ j. elim (r.pages j) [
    | inl same ↦ inl same
    | inr w ↦
        let k = w.named in
        let there = at_take at n k.0 k.1 in
        inr (record {
          named = (k.0, there.0, ap (λ (b : ℕ). b / PAGE_BYTES) (sym there.1) ∙ k.2);
          shared = w.shared;
          own = w.own;
          fresh = w.fresh;
        })
  ];
  grown = r.grown;
  still = r.still;
  used = r.used;
  peak = r.peak;
}
