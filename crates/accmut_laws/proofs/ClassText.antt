-- The classes at a step are one text: from lists of members, each of which is a class at the step or has the mutants of shorter traces.
use Rattle.std.proofs.Common.{◌≡◌, ℕ, zero, suc, ◌≤◌, ◌<◌, Bool, true, false, ◌&&◌, not, nat_le, nat_lt, nat_eq, if◌then◌else◌, List, [], ◌∷◌, ◌++◌}
use Rattle.std.proofs.Common.{length, map, refl, sym, ap, subst, ◌∙◌, arith, ⊎_elim, append-nil, cond}
use Rattle.std.specs.Prelude.{◌↔◌, slice_index, slice_index_or}
use Rattle.std.specs.List.{filter, flat_map, list_any, Contains}
use Rattle.std.specs.List.Sorted.{IsPermutation, IsNonDecreasing, IsNonDecreasingBy}
use Rattle.std.proofs.lemmas.Bool.{and_from, le-leb, lt-ltb, ltb-true, cases_lt}
use Rattle.std.proofs.lemmas.Bool.Decides.{nat_tests}
use Rattle.std.proofs.lemmas.List.Concat.{flat_map-append}
use Rattle.std.proofs.lemmas.List.Folds.{flat_map-map, Any-from_list_any}
use Rattle.std.proofs.lemmas.List.Elements.{filter-append, Contains-get_or}
use Rattle.std.proofs.lemmas.List.Kept.{IsNonDecreasingBy-filter, IsStrictlyIncreasing-filter, AllPairs-from_increasing}
use Rattle.std.proofs.lemmas.List.Sorted.{sum_by-IsPermutation, IsPermutation-trans}
use Rattle.traces.specs.Meanings.{IsSameTest}
use Rattle.traces.specs.Trace.{Trial, trace}
use Rattle.traces.specs.Together.{below, together, class_of, AreTogether}
use Rattle.traces.proofs.Bools.{on_bool}
use Rattle.traces.proofs.Lists.{contains_here, contains_there, contains_cases, from_filter, to_filter, filter_yes, filter_no, count_by-filter}
use Rattle.traces.proofs.Below.{below_below, has_below, IsStrictlyIncreasing-below}
use Rattle.traces.proofs.Permutations.{from_counts}
use Rattle.traces.proofs.Together.{AreTogether-from, together_from}
use Rattle.traces.proofs.Turns.{any_from}
use Rattle.accmut_laws.specs.Classes.{leads, classes_at, is_shorter, shorter_than, InOne}
use Rattle.commands.proofs.OneGroups.{Rises, above, first_least, first_there, ordered-one}

-- ---- lists

filter_none : {X : Type 0} (p : X → Bool) (xs : List X) → ((x : X) → Contains xs x → p x ≡ false) → filter p xs ≡ []
filter_none p [] h = refl
filter_none p (x ∷ xs) h = filter_no p x xs (h x (contains_here x xs)) ∙ filter_none p xs (λ y c. h y (contains_there x y xs c))

filter_all : {X : Type 0} (p : X → Bool) (xs : List X) → ((x : X) → Contains xs x → p x ≡ true) → filter p xs ≡ xs
filter_all p [] h = refl
filter_all p (x ∷ xs) h =
    filter_yes p x xs (h x (contains_here x xs)) ∙ ap (λ ys. x ∷ ys) (filter_all p xs (λ y c. h y (contains_there x y xs c)))

filter_first : (p : ℕ → Bool) (xs : List ℕ) → 0 < length xs → p (slice_index xs 0) ≡ true
    → ((y : ℕ) → Contains xs y → slice_index xs 0 < y → p y ≡ false) → Rises xs → filter p xs ≡ slice_index xs 0 ∷ []
filter_first p [] l first others r = absurd (omega arith)
filter_first p (x ∷ xs) l first others r =
    filter_yes p x xs first ∙ ap (λ ys. x ∷ ys) (filter_none p xs (λ y c. others y (contains_there x y xs c) (above x xs r y c)))

pub element_of_map : {X Y : Type 0} (f : X → Y) (xs : List X) (y : Y) → Contains (map f xs) y → (x : X) × Contains xs x × (f x ≡ y)
element_of_map f [] y c = absurd (let l = c.1 in omega arith)
element_of_map f (x ∷ xs) y c = ⊎_elim
    (λ e. (x, contains_here x xs, e))
    (λ d. let r = element_of_map f xs y d in (r.0, contains_there x r.0 xs r.1, r.2))
    (contains_cases (f x) y (map f xs) c)

pub map_element : {X Y : Type 0} (f : X → Y) (xs : List X) (x : X) → Contains xs x → Contains (map f xs) (f x)
map_element f [] x c = absurd (let l = c.1 in omega arith)
map_element f (y ∷ ys) x c = ⊎_elim
    (λ e. subst (λ z. Contains (f y ∷ map f ys) (f z)) e (contains_here (f y) (map f ys)))
    (λ d. contains_there (f y) (f x) (map f ys) (map_element f ys x d))
    (contains_cases y x ys c)

permutation_filtered : (p : ℕ → Bool) (xs ys : List ℕ) → IsPermutation xs ys → IsPermutation (filter p xs) (filter p ys)
permutation_filtered p xs ys h = from_counts (filter p xs) (filter p ys) (λ k.
    count_by-filter (nat_eq k) p xs ∙ sym (sum_by-IsPermutation (λ y. cond (p y && nat_eq k y) 1 0) xs ys h) ∙ sym (count_by-filter (nat_eq k) p ys))

-- a number before a list in order, none of which is lower
put_first : (x : ℕ) (xs : List ℕ) → ((y : ℕ) → Contains xs y → x ≤ y) → IsNonDecreasing xs → IsNonDecreasing (x ∷ xs)
put_first x xs low h zero zero d le l = omega arith
put_first x xs low h zero (suc j) d le l = low _ (Contains-get_or xs j d (omega (arith, l)))
put_first x xs low h (suc i) zero d le l = absurd (omega (arith, le))
put_first x xs low h (suc i) (suc j) d le l = h i j d (omega (arith, le)) (omega (arith, l))

firsts_in_order : {E : Type 0} (least : E → ℕ) (es : List E) → IsNonDecreasingBy least es → IsNonDecreasing (map least es)
firsts_in_order least [] h = λ i j d le l. absurd (omega (arith, l))
firsts_in_order least (e ∷ es) h =
    put_first (least e) (map least es)
    (λ y c. let r = element_of_map least es y c in
    subst (λ z. least e ≤ z) (ap least r.1.2 ∙ r.2) (h 0 (suc r.1.0) r.0 (omega arith) (let l = r.1.1 in omega (arith, l))))
    (firsts_in_order least es (λ i j d le l. h (suc i) (suc j) d (omega (arith, le)) (omega (arith, l))))

below_in_order : (n : ℕ) → IsNonDecreasing (below n)
below_in_order n i j d le l = ⊎_elim
    (λ (lt : i < j). let s = AllPairs-from_increasing (below n) (IsStrictlyIncreasing-below n) i j d lt l in omega (arith, s))
    (λ (ge : j ≤ i). let e : i ≡ j = omega (arith, le, ge) in subst (λ k. slice_index_or (below n) i d ≤ slice_index_or (below n) k d) e (omega arith))
    (cases_lt i j)

-- ---- classes

module _ {S C : Type 0} (T : Trial S C) (same : IsSameTest T.meanings) (n : ℕ) where
  in_class : (m k : ℕ) → Contains (class_of T m n) k → (k < T.mutants) × AreTogether T m k n
  unfolding class_of
  in_class m k c = let r = from_filter (λ j. together T m j n) (below T.mutants) k c in (below_below T.mutants k r.0, AreTogether-from T same m k n r.1)

  to_class : (m k : ℕ) → k < T.mutants → AreTogether T m k n → Contains (class_of T m n) k
  unfolding class_of
  to_class m k l t = to_filter (λ j. together T m j n) (below T.mutants) k (has_below T.mutants k l) (together_from T same m k n t)

  class_rises : (m : ℕ) → Rises (class_of T m n)
  unfolding class_of
  class_rises m = AllPairs-from_increasing _ (IsStrictlyIncreasing-filter (λ j. together T m j n) (below T.mutants) (IsStrictlyIncreasing-below T.mutants))

  back : (m k : ℕ) → AreTogether T m k n → AreTogether T k m n
  back m k t = record { reached = t.other_reached; other_reached = t.reached; equal = sym t.equal }

  along : (m k j : ℕ) → AreTogether T m k n → AreTogether T k j n → AreTogether T m j n
  along m k j t u = record { reached = t.reached; other_reached = u.other_reached; equal = t.equal ∙ u.equal }

  itself : (m : ℕ) → n ≤ length (trace T m) → AreTogether T m m n
  itself m l = record { reached = l; other_reached = l; equal = refl }

  -- the least of a class leads it, and no other member does
  least_leads : (x : ℕ) → x < T.mutants → n ≤ length (trace T x) → ((k : ℕ) → Contains (class_of T x n) k → x ≤ k) → leads T n x ≡ true
  least_leads x i l low = and_from _ _ (le-leb _ _ l) (on_bool (list_any (λ k. together T k x n) (below x))
      (λ t. absurd (let k = Any-from_list_any (λ k. together T k x n) (below x) t in
      let lower = below_below x k.1 (k.0, k.2, k.3) in
      let le = low k.1 (to_class x k.1 (omega (arith, lower, i)) (back k.1 x (AreTogether-from T same k.1 x n k.4))) in
      omega (arith, lower, le)))
      (λ f. ap not f))

  later_follows : (x y : ℕ) → x < y → AreTogether T x y n → leads T n y ≡ false
  later_follows x y l t =
      let any : list_any (λ k. together T k y n) (below y) ≡ true =
      any_from (λ k. together T k y n) (below y) x (has_below y x l) (together_from T same x y n t) in
      on_bool (nat_le n (length (trace T y))) (λ a. rw (a, any) refl) (λ a. rw a refl)

  shorter_follows : (m : ℕ) → length (trace T m) < n → leads T n m ≡ false
  shorter_follows m l = let no : nat_le n (length (trace T m)) ≡ false = grind (arith, nat_tests) in rw no refl

  -- ---- what the lists say

  pub one_class : (m k : ℕ) → InOne (classes_at T n) m k → AreTogether T m k n
  one_class m k h =
      let x = element_of_map (λ m. class_of T m n) (filter (leads T n) (below T.mutants)) h.members h.there in
      let first = in_class x.0 m (subst (λ ms. Contains ms m) (sym x.2) h.member) in
      let second = in_class x.0 k (subst (λ ms. Contains ms k) (sym x.2) h.other) in
      along m x.0 k (back x.0 m first.1) second.1

  pub to_one_class : (m k : ℕ) → m < T.mutants → k < T.mutants → AreTogether T m k n → InOne (classes_at T n) m k
  to_one_class m k i j t =
      let here = to_class m m i (itself m t.reached) in
      let x = slice_index (class_of T m n) 0 in
      let some : 0 < length (class_of T m n) = (let l = here.1 in omega (arith, l)) in
      let there = in_class m x (first_there (class_of T m n) some) in
      let leading = least_leads x there.0 there.1.other_reached
      (λ y c. let d = in_class x y c in first_least (class_of T m n) (class_rises m) y (to_class m y d.0 (along m x y there.1 d.1))) in
      record {
        members = class_of T x n;
        there = map_element (λ m. class_of T m n) (filter (leads T n) (below T.mutants)) x
            (to_filter (leads T n) (below T.mutants) x (has_below T.mutants x there.0) leading);
        member = to_class x m i (back m x there.1);
        other = to_class x k j (along x m k (back m x there.1) t);
      }

  pub shorter_is : (m : ℕ) → m < T.mutants → Contains (shorter_than T n) m ↔ (length (trace T m) < n)
  shorter_is m l = (
    λ c. ltb-true _ _ (from_filter (is_shorter T n) (below T.mutants) m c).1,
    λ s. to_filter (is_shorter T n) (below T.mutants) m (has_below T.mutants m l) (lt-ltb _ _ s),
  )

  -- ---- from classes of an analysis

  module _ {E : Type 0} (members : E → List ℕ) (length_of : E → ℕ) where
    abbrev is_cut : E → Bool
    is_cut e = nat_lt (length_of e) n

    abbrev least_of : E → ℕ
    least_of e = slice_index (members e) 0

    -- a class at the step, or mutants of shorter traces
    pub record IsPart (e : E) : Type 0 where
      pub some : 0 < length (members e)
      pub rising : Rises (members e)
      pub whole : is_cut e ≡ false → (m : ℕ) → Contains (members e) m → members e ≡ class_of T m n
      pub short : is_cut e ≡ true → (m : ℕ) → Contains (members e) m → length (trace T m) < n

    of_whole : (e : E) → IsPart e → is_cut e ≡ false → (m k : ℕ) → Contains (members e) m → Contains (members e) k → (k < T.mutants) × AreTogether T m k n
    of_whole e is f m k c d = in_class m k (subst (λ ms. Contains ms k) (is.whole f m c) d)

    whole_leads : (e : E) → IsPart e → is_cut e ≡ false → filter (leads T n) (members e) ≡ least_of e ∷ []
    whole_leads e is f =
        let x = least_of e in
        let there = first_there (members e) is.some in
        let self = of_whole e is f x x there there in
        filter_first (leads T n) (members e) is.some
        (least_leads x self.0 self.1.reached
        (λ k c. first_least (members e) is.rising k (subst (λ ms. Contains ms k) (sym (is.whole f x there)) c)))
        (λ y c l. later_follows x y l (of_whole e is f x y there c).1) is.rising

    short_leads : (e : E) → IsPart e → is_cut e ≡ true → filter (leads T n) (members e) ≡ []
    short_leads e is t = filter_none (leads T n) (members e) (λ m c. shorter_follows m (is.short t m c))

    module _ (line : List ℕ → List ℕ) where
      abbrev line_of : E → List ℕ
      line_of e = if is_cut e then [] else line (members e)

      abbrev line_at : ℕ → List ℕ
      line_at m = line (class_of T m n)

      part_line : (e : E) → IsPart e → line_of e ≡ flat_map line_at (filter (leads T n) (members e))
      part_line e is = on_bool (is_cut e)
          (λ t. rw t (sym (ap (flat_map line_at) (short_leads e is t))))
          (λ f. rw f (ap line (is.whole f (least_of e) (first_there (members e) is.some)) ∙ sym (append-nil (line_at (least_of e)))
          ∙ sym (ap (flat_map line_at) (whole_leads e is f))))

      part_lines : (es : List E) → ((e : E) → Contains es e → IsPart e)
          → flat_map line_of es ≡ flat_map line_at (filter (leads T n) (flat_map members es))
      part_lines [] h = refl
      part_lines (e ∷ es) h =
          ap (λ xs. xs ++ flat_map line_of es) (part_line e (h e (contains_here e es)))
          ∙ ap (λ xs. flat_map line_at (filter (leads T n) (members e)) ++ xs) (part_lines es (λ f c. h f (contains_there e f es c)))
          ∙ sym (flat_map-append line_at (filter (leads T n) (members e)) (filter (leads T n) (flat_map members es)))
          ∙ ap (flat_map line_at) (sym (filter-append (leads T n) (members e) (flat_map members es)))

    part_leads : (es : List E) → ((e : E) → Contains es e → IsPart e)
        → filter (leads T n) (flat_map members es) ≡ map least_of (filter (λ e. not (is_cut e)) es)
    part_leads [] h = refl
    part_leads (e ∷ es) h =
        let rest = part_leads es (λ f c. h f (contains_there e f es c)) in
        let is = h e (contains_here e es) in
        filter-append (leads T n) (members e) (flat_map members es) ∙ ap (λ xs. filter (leads T n) (members e) ++ xs) rest
        ∙ on_bool (is_cut e)
        (λ t. rw t (ap (λ xs. xs ++ map least_of (filter (λ e. not (is_cut e)) es)) (short_leads e is t)))
        (λ f. rw f (ap (λ xs. xs ++ map least_of (filter (λ e. not (is_cut e)) es)) (whole_leads e is f)))

    abbrev short_in : E → List ℕ
    short_in e = if is_cut e then members e else []

    part_short : (e : E) → IsPart e → filter (is_shorter T n) (members e) ≡ short_in e
    part_short e is = on_bool (is_cut e)
        (λ t. rw t (filter_all (is_shorter T n) (members e) (λ m c. lt-ltb _ _ (is.short t m c))))
        (λ f. rw f (filter_none (is_shorter T n) (members e)
        (λ m c. let l = (of_whole e is f m m c c).1.reached in grind (arith, nat_tests))))

    parts_short : (es : List E) → ((e : E) → Contains es e → IsPart e) → filter (is_shorter T n) (flat_map members es) ≡ flat_map short_in es
    parts_short [] h = refl
    parts_short (e ∷ es) h =
        filter-append (is_shorter T n) (members e) (flat_map members es)
        ∙ ap (λ xs. xs ++ filter (is_shorter T n) (flat_map members es)) (part_short e (h e (contains_here e es)))
        ∙ ap (λ xs. short_in e ++ xs) (parts_short es (λ f c. h f (contains_there e f es c)))

    module _ (es : List E) (parts : (e : E) → Contains es e → IsPart e) (once : IsPermutation (below T.mutants) (flat_map members es)) where
      pub all_short : (short : List ℕ) → IsNonDecreasing short → IsPermutation (flat_map short_in es) short → short ≡ shorter_than T n
      all_short short rising moved =
          sym (ordered-one (shorter_than T n) short
          (IsNonDecreasingBy-filter (λ x. x) (is_shorter T n) (below T.mutants) (below_in_order T.mutants)) rising
          (IsPermutation-trans (shorter_than T n) (flat_map short_in es) short
          (subst (IsPermutation (shorter_than T n)) (parts_short es parts) (permutation_filtered (is_shorter T n) (below T.mutants) (flat_map members es) once))
          moved))

      pub all_lines : (line : List ℕ → List ℕ) → IsNonDecreasingBy least_of es → flat_map (line_of line) es ≡ flat_map line (classes_at T n)
      all_lines line rising =
          let leaders : filter (leads T n) (flat_map members es) ≡ filter (leads T n) (below T.mutants) =
          sym (ordered-one (filter (leads T n) (below T.mutants)) (filter (leads T n) (flat_map members es))
          (IsNonDecreasingBy-filter (λ x. x) (leads T n) (below T.mutants) (below_in_order T.mutants))
          (subst IsNonDecreasing (sym (part_leads es parts))
          (firsts_in_order least_of (filter (λ e. not (is_cut e)) es) (IsNonDecreasingBy-filter least_of (λ e. not (is_cut e)) es rising)))
          (permutation_filtered (leads T n) (below T.mutants) (flat_map members es) once)) in
          part_lines line es parts ∙ ap (flat_map (line_at line)) leaders
          ∙ sym (flat_map-map line (λ m. class_of T m n) (filter (leads T n) (below T.mutants)))
