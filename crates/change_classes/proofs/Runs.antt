-- Keys in order, the run of one key, and the first item of a run that passes a test.
use Rattle.std.proofs.Common.{◌≡◌, ℕ, ◌+◌, ◌<◌, ◌≤◌, true, false, Bool, ltb, leb, nat_cmp, List, length, get_or, take, drop, slice_index, refl, sym, ap, ◌∙◌}
use Rattle.std.proofs.Common.{subst, arith, ◌⊎◌, ⊎_elim, IsPermutation, Ordering}
use Rattle.std.specs.List.{All, Contains, position_or_len}
use Rattle.std.specs.List.Sorted.{IsSorted, IsPartitionPoint}
use Rattle.std.specs.Ordering.{is_lt, ordering_then}
use Rattle.std.proofs.lemmas.Bool.{lt-ltb, le-ltb, eq-eqb, ltb-false, leb-true, le-leb, cases_lt, both_ways, false_from_ne_true}
use Rattle.std.proofs.lemmas.Cmp.{nat_cmp_total, then_total, on_total}
use Rattle.std.proofs.lemmas.List.{get_or-take, get_or-drop, length-take-le, length-drop, take-append-drop, get_or_default}
use Rattle.std.proofs.lemmas.List.Elements.{All-contains, All-get_or, All-take, All-drop, All-from_get_or, Contains-append_cases}
use Rattle.std.proofs.lemmas.List.Sorted.{ranks_by, sorted_far, All-permutation, Contains-permutation}
use Rattle.std.proofs.lemmas.List.Sums.{position_or_len_is}
use Rattle.change_classes.specs.Keyed.{HasEqualKeys, IsOrderOf, IsRunOf, HoldsNumbers}

abbrev pair_cmp : ℕ × ℕ → ℕ × ℕ → Ordering
pair_cmp x y = ordering_then (nat_cmp x.0 y.0) (nat_cmp x.1 y.1)

lower : (a b c d : ℕ) → a < b → is_lt (pair_cmp (a, c) (b, d)) ≡ true
lower a b c d h = rw (lt-ltb a b h) refl

level : (a c d : ℕ) → c < d → is_lt (pair_cmp (a, c) (a, d)) ≡ true
level a c d h = rw (le-ltb a a (omega arith), eq-eqb a a refl, lt-ltb c d h) refl

keys_up : (x y : ℕ × ℕ) → is_lt (pair_cmp y x) ≡ false → x.0 ≤ y.0
keys_up x y h = ⊎_elim (λ l. absurd (both_ways _ h (lower y.0 x.0 y.1 x.1 l))) (λ l. l) (cases_lt y.0 x.0)

numbers_up : (x y : ℕ × ℕ) → is_lt (pair_cmp y x) ≡ false → x.0 ≡ y.0 → x.1 ≤ y.1
numbers_up x y h e =
    ⊎_elim (λ l. absurd (both_ways _ h (subst (λ k. is_lt (pair_cmp y (k, x.1)) ≡ true) (sym e) (level y.0 y.1 x.1 l)))) (λ l. l) (cases_lt y.1 x.1)

-- numbered keys after a sort
module _ (keys : List ℕ) (listed order : List (ℕ × ℕ)) (long : length listed ≡ length keys)
    (entries : (k : ℕ) → k < length keys → get_or listed k (0, 0) ≡ (slice_index keys k, k))
    (moved : IsPermutation listed order) (sorted : IsSorted pair_cmp order) where
  far : (i j : ℕ) (d : ℕ × ℕ) → i ≤ j → j < length order → is_lt (pair_cmp (get_or order j d) (get_or order i d)) ≡ false
  far = sorted_far (λ x y. is_lt (pair_cmp x y))
      (ranks_by (then_total (on_total (λ (x : ℕ × ℕ). x.0) nat_cmp_total) (on_total (λ (x : ℕ × ℕ). x.1) nat_cmp_total)) (λ x. x)) order sorted

  pub order_is : IsOrderOf keys order
  order_is = record {
    within = All-permutation (λ e. e.1 < length keys) listed order moved
        (All-from_get_or (λ e. e.1 < length keys) listed (0, 0)
        (λ i l. let m : i < length keys = omega (arith, long) in subst (λ e. e.1 < length keys) (sym (entries i m)) m));
    whole = λ n l. Contains-permutation listed order (slice_index keys n, n) moved
        (n, omega (arith, long), get_or_default listed n (slice_index keys n, n) (0, 0) (omega (arith, long)) ∙ entries n l);
    keys_rise = λ i j d l m. keys_up (get_or order i d) (get_or order j d) (far i j d l m);
    numbers_rise = λ i j d l m. numbers_up (get_or order i d) (get_or order j d) (far i j d l m);
  }

-- a list cut where a test ends
module _ {X : Type 0} (p : X → Bool) (xs : List X) (i : ℕ) (bound : i ≤ length xs)
    (cut : IsPartitionPoint (λ y. p y ≡ true) (λ y. p y ≡ false) xs i) where
  front_passes : All (λ y. p y ≡ true) (take i xs)
  front_passes k d l =
      let long = length-take-le i xs bound in let below : k < i = omega arith in
      subst (λ y. p y ≡ true) (sym (get_or-take i xs k d below)) (cut.0 k d (omega arith) below)

  back_fails : All (λ y. p y ≡ false) (drop i xs)
  back_fails k d l =
      let long = length-drop i xs in
      subst (λ y. p y ≡ false) (sym (get_or-drop i xs k d)) (cut.1 (i + k) d (omega arith) (omega arith))

  both : (x : X) → Contains xs x → Contains (take i xs) x ⊎ Contains (drop i xs) x
  both x h = Contains-append_cases (take i xs) (drop i xs) x (subst (λ ys. Contains ys x) (sym (take-append-drop i xs)) h)

  front_holds : (x : X) → Contains xs x → p x ≡ true → Contains (take i xs) x
  front_holds x h e = ⊎_elim (λ c. c) (λ c. absurd (both_ways (p x) (All-contains (λ y. p y ≡ false) (drop i xs) x back_fails c) e)) (both x h)

  back_holds : (x : X) → Contains xs x → p x ≡ false → Contains (drop i xs) x
  back_holds x h e = ⊎_elim (λ c. absurd (both_ways (p x) e (All-contains (λ y. p y ≡ true) (take i xs) x front_passes c))) (λ c. c) (both x h)

-- what holds of any two in order, in a part
abbrev InOrder : {X : Type 0} → (X → X → Type 0) → List X → Type 0
InOrder {X} R xs = (i j : ℕ) (d : X) → i ≤ j → j < length xs → R (get_or xs i d) (get_or xs j d)

in_take : {X : Type 0} (R : X → X → Type 0) (n : ℕ) (xs : List X) → n ≤ length xs → InOrder R xs → InOrder R (take n xs)
in_take R n xs b h i j d l m =
    let long = length-take-le n xs b in
    subst (λ x. R x (get_or (take n xs) j d)) (sym (get_or-take n xs i d (omega arith)))
    (subst (R (get_or xs i d)) (sym (get_or-take n xs j d (omega arith))) (h i j d l (omega arith)))

in_drop : {X : Type 0} (R : X → X → Type 0) (n : ℕ) (xs : List X) → InOrder R xs → InOrder R (drop n xs)
in_drop R n xs h i j d l m =
    let long = length-drop n xs in
    subst (λ x. R x (get_or (drop n xs) j d)) (sym (get_or-drop n xs i d))
    (subst (R (get_or xs (n + i) d)) (sym (get_or-drop n xs j d)) (h (n + i) (n + j) d (omega arith) (omega arith)))

-- the run of a key
module _ (keys : List ℕ) (order : List (ℕ × ℕ)) (o : IsOrderOf keys order) (key low high : ℕ) (bound : low ≤ length order)
    (first : IsPartitionPoint (λ e. ltb e.0 key ≡ true) (λ e. ltb e.0 key ≡ false) order low)
    (rest : List (ℕ × ℕ)) (same : rest ≡ drop low order) (end : high ≤ length rest)
    (last : IsPartitionPoint (λ e. leb e.0 key ≡ true) (λ e. leb e.0 key ≡ false) rest high) where
  above : All (λ e. ltb e.0 key ≡ false) (take high rest)
  above = All-take (λ e. ltb e.0 key ≡ false) high rest
      (subst (All (λ e. ltb e.0 key ≡ false)) (sym same) (back_fails (λ e. ltb e.0 key) order low bound first))

  keyed : All (λ e. e.0 ≡ key) (take high rest)
  keyed k d l =
      let a = ltb-false _ _ (above k d l) in
      let b = leb-true _ _ (front_passes (λ e. leb e.0 key) rest high end last k d l) in omega arith

  pub run_is : IsRunOf keys key (take high rest)
  run_is = record {
    within = All-take (λ e. e.1 < length keys) high rest
        (subst (All (λ e. e.1 < length keys)) (sym same) (All-drop (λ e. e.1 < length keys) low order o.within));
    whole = λ n l e. front_holds (λ e. leb e.0 key) rest high end last (key, n)
        (subst (λ ys. Contains ys (key, n)) (sym same)
        (back_holds (λ e. ltb e.0 key) order low bound first (key, n) (subst (λ k. Contains order (k, n)) e (o.whole n l)) (le-ltb key key (omega arith))))
        (le-leb key key (omega arith));
    numbers_rise = λ i j d l m.
        in_take (λ x y. x.0 ≡ y.0 → x.1 ≤ y.1) high rest end
        (subst (InOrder (λ x y. x.0 ≡ y.0 → x.1 ≤ y.1)) (sym same) (in_drop (λ x y. x.0 ≡ y.0 → x.1 ≤ y.1) low order o.numbers_rise)) i j d l m
        (keyed i d (omega arith) ∙ sym (keyed j d m));
  }

-- the first in a run that passes
module _ {X : Type 0} (passes : X → Bool) (items : List X) (item : X) (run : List (ℕ × ℕ)) (h : HoldsNumbers passes run items) (at : ℕ)
    (none : (k : ℕ) → k < at → passes (get_or items (get_or run k (0, 0)).1 item) ≡ false) where
  fails : (k : ℕ) → k < length items → ((q : ℕ) → at ≤ q → q < length run → (get_or run q (0, 0)).1 ≡ k → ⊥) → passes (get_or items k item) ≡ false
  fails k l not_later = false_from_ne_true _ (λ t.
      let there = h.holds k item l t in
      let q = there.1.0 in
      let is : (get_or run q (0, 0)).1 ≡ k = ap (λ e. e.1) (get_or_default run q (0, 0) (there.0, k) there.1.1 ∙ there.1.2) in
      ⊎_elim (λ b. both_ways _ (ap (λ n. passes (get_or items n item)) (sym is) ∙ none q b) t) (λ b. not_later q b there.1.1 is) (cases_lt q at))

  pub first_is : at < length run → All (λ e. e.1 < length items) run → passes (get_or items (get_or run at (0, 0)).1 item) ≡ true
      → (get_or run at (0, 0)).1 ≡ position_or_len passes items
  first_is l within t =
      let n = (get_or run at (0, 0)).1 in
      let inside : n < length items = All-get_or (λ e. e.1 < length items) run at (0, 0) l within in
      sym (position_or_len_is passes items n item (omega arith)
      (λ k b. fails k (omega arith) (λ q c d is. let up = h.rise at q (0, 0) c d in let same : (get_or run q (0, 0)).1 ≡ k = is in omega arith)) (λ _. t))

  pub none_is : length run ≤ at → length items ≡ position_or_len passes items
  none_is l = sym (position_or_len_is passes items (length items) item (omega arith)
      (λ k b. fails k b (λ q c d is. omega arith)) (λ b. absurd (let c : length items < length items = b in omega arith)))

pub holds_equal : {X : Type 0} (equal : X → X → Bool) (keys : List ℕ) (items : List X) (at : ℕ) (item : X) (key : ℕ) (run : List (ℕ × ℕ))
    → length keys ≡ length items → HasEqualKeys equal keys items → at < length items → item ≡ get_or items at item → key ≡ slice_index keys at
    → IsRunOf keys key run → HoldsNumbers (λ other. equal other item) run items
holds_equal equal keys items at item key run long agree l is has r = record {
  rise = r.numbers_rise;
  holds = λ n d m t. (
    key,
    r.whole n (omega (arith, long))
        (agree n at d m l (ap (equal (get_or items n d)) (get_or_default items at d item l ∙ sym is) ∙ t) ∙ sym has),
  );
}
