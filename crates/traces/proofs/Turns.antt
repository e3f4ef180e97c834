-- Every turn keeps a configuration, so every run does.
use Rattle.std.proofs.Common.{◌≡◌, ℕ, zero, suc, ◌≤◌, ◌<◌, Bool, true, false, ◌&&◌, not, nat_lt, List, [], ◌∷◌, ◌++◌, length, take, drop, slice_get, refl, sym}
use Rattle.std.proofs.Common.{ap, ◌∙◌, arith, subst, add-one, append_assoc, append-nil, Option, Some, None}
use Rattle.std.specs.List.{filter, list_any, count_by, flat_map, remove, All, Contains}
use Rattle.std.specs.List.Sorted.{IsPermutation}
use Rattle.std.proofs.lemmas.Bool.{and_parts, and_from, not-true, ltb-true}
use Rattle.std.proofs.lemmas.List.Folds.{flat_map-map, list_any_at}
use Rattle.std.proofs.lemmas.List.Concat.{flat_map-append}
use Rattle.std.proofs.lemmas.List.Elements.{filter_agree, All-map, All-filter, All-weaker, All-contains_itself, All-append, All-cons, All-nil, All-head}
use Rattle.std.proofs.lemmas.List.Elements.{All-tail}
use Rattle.std.proofs.lemmas.Option.{get_or_from_slice_get, slice_get_within}
use Rattle.std.proofs.lemmas.List.Sorted.{IsPermutation-refl, IsPermutation-trans, IsPermutation-append_right, IsPermutation-append_comm}
use Rattle.traces.specs.Meanings.{IsSameTest}
use Rattle.traces.specs.Trace.{Trial, change_of, trace}
use Rattle.traces.specs.Together.{below, together, class_of}
use Rattle.traces.specs.Configuration.{Execution, opening, is_live, same_change, is_leader, part, parts, turn, turn_of, run, IsExecution, IsConfiguration}
use Rattle.traces.proofs.Bools.{on_bool, swap_and, pair_up}
use Rattle.traces.proofs.Lists.{from_filter, to_filter, filter-filter, count_by-filter, any-filter, all_cut, contains_here}
use Rattle.traces.proofs.Below.{length-below, count_below, any_below, below_below, any_up_to, one_least, has_below}
use Rattle.traces.proofs.Together.{together_from, together_more, state_after}
use Rattle.traces.proofs.Trace.{not_over}

pub some_first : {X : Type 0} (xs : List X) → 0 < length xs → (x : X) × Contains xs x
some_first [] h = absurd (omega arith)
some_first (x ∷ xs) h = (x, contains_here x xs)

pub some_from : {X : Type 0} (xs : List X) (x : X) → Contains xs x → 0 < length xs
some_from xs x h = let l = h.1 in omega arith

pub split_at : {X : Type 0} (xs : List X) (i : ℕ) (x : X) → slice_get xs i ≡ Some x → xs ≡ take i xs ++ x ∷ drop (suc i) xs
split_at [] i x h = absurd (let l = slice_get_within [] i x h in omega arith)
split_at (y ∷ ys) zero x h = cc
split_at (y ∷ ys) (suc i) x h = ap (λ zs. y ∷ zs) (split_at ys i x h)

All-without : {X : Type 0} (P : X → Type 0) (fore : List X) (x : X) (aft : List X) → All P (fore ++ x ∷ aft) → All P (fore ++ aft)
All-without P [] x aft a = All-tail P x aft a
All-without P (y ∷ ys) x aft a = All-cons P y (ys ++ aft) (All-head P y (ys ++ x ∷ aft) a) (All-without P ys x aft (All-tail P y (ys ++ x ∷ aft) a))

filter_whole : (xs : List ℕ) → filter (λ k. true) xs ≡ xs
filter_whole [] = refl
filter_whole (x ∷ xs) = ap (λ ys. x ∷ ys) (filter_whole xs)

pub any_from : {X : Type 0} (p : X → Bool) (xs : List X) (x : X) → Contains xs x → p x ≡ true → list_any p xs ≡ true
any_from p xs x c e = list_any_at p xs c.0 x c.1 (rw c.2 e)

module _ {S C : Type 0} (T : Trial S C) (same : IsSameTest T.meanings) where
  same_refl : (m n : ℕ) → n ≤ length (trace T m) → together T m m n ≡ true
  same_refl m n h = together_from T same m m n (record { reached = h; other_reached = h; equal = refl })

  pub at_index : (es : List (Execution S)) (i : ℕ) (e : Execution S) → slice_get es i ≡ Some e → IsConfiguration T es → IsExecution T e
  at_index es i e g c = subst (IsExecution T) (get_or_from_slice_get es i e e g) (c.each i e (slice_get_within es i e g))

  module _ (e : Execution S) (is : IsExecution T e) (live : is_live T e ≡ true) where
    pub goes_on_at : (m : ℕ) → Contains e.members m → e.step < length (trace T m)
    goes_on_at m c =
        let p = and_parts (not (T.meanings.ended e.state)) (nat_lt e.step T.budget) live in
        not_over T m e.step T.budget T.start (is.reached m c) (ltb-true _ _ p.1)
        (subst (λ s. T.meanings.ended s ≡ false) (is.state m c) (not-true _ p.0))

    agree_same : (m k : ℕ) → same_change T e m k ≡ true → change_of T m e.state ≡ change_of T k e.state
    agree_same m k h = same.sound _ _ h

    -- the members that make the same change as m are the class of each of them, one step on
    part_class : (m k : ℕ) → Contains e.members k → same_change T e m k ≡ true → filter (same_change T e m) e.members ≡ class_of T k (suc e.step)
    unfolding class_of
    part_class m k c a =
        ap (filter (same_change T e m)) (is.class k c)
        ∙ filter-filter (same_change T e m) (λ j. together T k j e.step) (below T.mutants)
        ∙ filter_agree (λ j. together T k j e.step && same_change T e m j) (λ j. together T k j (suc e.step))
        (λ j. ap (λ d. together T k j e.step && T.meanings.same d (change_of T j e.state)) (agree_same m k a)
        ∙ ap (λ s. together T k j e.step && T.meanings.same (change_of T k s) (change_of T j s)) (is.state k c)
        ∙ sym (together_more T same k j e.step (goes_on_at k c)))
        (below T.mutants)

    pub part_is : (m : ℕ) → Contains e.members m → IsExecution T (part T e m)
    part_is m c = record {
      some = some_from _ m (to_filter (same_change T e m) e.members m c (same.complete _));
      reached = λ k h. let f = from_filter (same_change T e m) e.members k h in let l = goes_on_at k f.0 in omega arith;
      class = λ k h. let f = from_filter (same_change T e m) e.members k h in rw add-one (part_class m k f.0 f.1);
      state = λ k h. let f = from_filter (same_change T e m) e.members k h in
          rw add-one (ap (T.meanings.after e.state) (agree_same m k f.1)
          ∙ ap (λ s. T.meanings.after s (change_of T k s)) (is.state k f.0)
          ∙ sym (state_after T same k e.step (goes_on_at k f.0)));
    }

    pub parts_are : All (IsExecution T) (parts T e)
    parts_are = All-map (IsExecution T) (part T e) (filter (is_leader T e) e.members)
        (All-filter (is_leader T e) (λ m. IsExecution T (part T e m)) e.members
        (All-weaker (Contains e.members) (λ m. IsExecution T (part T e m)) part_is e.members (All-contains_itself e.members)))

    -- each member makes the change of exactly one leader
    module _ (x : ℕ) (c : Contains e.members x) where
      abbrev pub with_x : ℕ → Bool
      with_x y = together T x y e.step && same_change T e y x

      pub members_are : e.members ≡ filter (λ k. together T x k e.step) (below T.mutants)
      unfolding class_of
      members_are = is.class x c

      pub leads_is : (y : ℕ) → y < T.mutants → same_change T e y x ≡ true → is_leader T e y ≡ not (list_any with_x (below y))
      leads_is y l a = ap not (
          ap (list_any (λ k. nat_lt k y && same_change T e k y)) members_are
          ∙ any-filter (λ k. nat_lt k y && same_change T e k y) (λ k. together T x k e.step) (below T.mutants)
          ∙ any_below (λ k. together T x k e.step && (nat_lt k y && same_change T e k y)) (λ k. nat_lt k y && with_x k) T.mutants
          (λ k m. swap_and (together T x k e.step) (nat_lt k y) (same_change T e k y)
          ∙ ap (λ d. nat_lt k y && (together T x k e.step && T.meanings.same (change_of T k e.state) d)) (agree_same y x a))
          ∙ any_up_to with_x y T.mutants (omega arith))

      x_is_with : with_x x ≡ true
      x_is_with = and_from _ _ (same_refl x e.step (is.reached x c)) (same.complete _)

      pub x_below : x < T.mutants
      x_below = below_below T.mutants x ((from_filter (λ k. together T x k e.step) (below T.mutants) x (subst (λ ms. Contains ms x) members_are c)).0)

      pub one_leader : count_by (λ y. same_change T e y x) (filter (is_leader T e) e.members) ≡ 1
      one_leader =
          count_by-filter (λ y. same_change T e y x) (is_leader T e) e.members
          ∙ ap (count_by (λ y. is_leader T e y && same_change T e y x)) members_are
          ∙ count_by-filter (λ y. is_leader T e y && same_change T e y x) (λ k. together T x k e.step) (below T.mutants)
          ∙ count_below (λ y. together T x y e.step && (is_leader T e y && same_change T e y x)) (λ y. with_x y && not (list_any with_x (below y))) T.mutants
          (λ y l. pair_up (together T x y e.step) (is_leader T e y) (same_change T e y x) (not (list_any with_x (below y))) (leads_is y l))
          ∙ one_least with_x T.mutants (any_from with_x (below T.mutants) x (has_below T.mutants x x_below) x_is_with)

    pub cut_members : IsPermutation e.members (flat_map (λ a. a.members) (parts T e))
    cut_members = rw (flat_map-map (λ a. a.members) (part T e) (filter (is_leader T e) e.members))
        (all_cut (same_change T e) e.members (filter (is_leader T e) e.members) one_leader)

    pub turned_between : (fore aft : List (Execution S)) → IsConfiguration T (fore ++ e ∷ aft) → IsConfiguration T ((fore ++ aft) ++ parts T e)
    turned_between fore aft c =
        let m : Execution S → List ℕ = λ a. a.members in
        let f = flat_map m fore in let g = flat_map m aft in
        record {
          once = IsPermutation-trans (below T.mutants) (f ++ (e.members ++ g)) (flat_map m ((fore ++ aft) ++ parts T e))
              (subst (IsPermutation (below T.mutants)) (flat_map-append m fore (e ∷ aft)) c.once)
              (subst (IsPermutation (f ++ (e.members ++ g)))
              (ap (λ xs. xs ++ flat_map m (parts T e)) (sym (flat_map-append m fore aft)) ∙ sym (flat_map-append m (fore ++ aft) (parts T e)))
              (IsPermutation-trans (f ++ (e.members ++ g)) (f ++ (g ++ e.members)) ((f ++ g) ++ flat_map m (parts T e))
              (IsPermutation-append_right f (e.members ++ g) (g ++ e.members) (IsPermutation-append_comm e.members g))
              (subst (λ xs. IsPermutation xs ((f ++ g) ++ flat_map m (parts T e))) (append_assoc f g e.members)
              (IsPermutation-append_right (f ++ g) e.members (flat_map m (parts T e)) cut_members))));
          each = All-append (IsExecution T) (fore ++ aft) (parts T e) (All-without (IsExecution T) fore e aft c.each) parts_are;
        }

    pub turned : (es : List (Execution S)) (i : ℕ) → slice_get es i ≡ Some e → IsConfiguration T es → IsConfiguration T (remove es i ++ parts T e)
    turned es i g c = turned_between (take i es) (drop (suc i) es) (subst (IsConfiguration T) (split_at es i e g) c)

  at_turn : (es : List (Execution S)) (i : ℕ) (o : Option (Execution S)) → slice_get es i ≡ o → IsConfiguration T es → IsConfiguration T (turn_of T es i o)
  at_turn es i None g c = c
  at_turn es i (Some e) g c = on_bool (is_live T e)
      (λ t. rw t (turned e (at_index es i e g c) t es i g c))
      (λ f. rw f c)

  pub turn_keeps : (es : List (Execution S)) (i : ℕ) → IsConfiguration T es → IsConfiguration T (turn T es i)
  turn_keeps es i c = at_turn es i (slice_get es i) refl c

  pub run_keeps : (is : List ℕ) (es : List (Execution S)) → IsConfiguration T es → IsConfiguration T (run T es is)
  run_keeps [] es c = c
  run_keeps (i ∷ is) es c = run_keeps is (turn T es i) (turn_keeps es i c)

  all_at_zero : (m : ℕ) → below T.mutants ≡ class_of T m 0
  unfolding class_of
  all_at_zero m = sym (filter_agree (λ k. together T m k 0) (λ k. true)
      (λ k. together_from T same m k 0 (record { reached = omega arith; other_reached = omega arith; equal = refl })) (below T.mutants)
      ∙ filter_whole (below T.mutants))

  pub opening_is : 0 < T.mutants → IsConfiguration T (opening T)
  opening_is h = record {
    once = subst (IsPermutation (below T.mutants)) (sym (append-nil (below T.mutants))) (IsPermutation-refl (below T.mutants));
    each = All-cons (IsExecution T) _ [] (record {
      some = rw (length-below T.mutants) h;
      reached = λ m c. omega arith;
      class = λ m c. all_at_zero m;
      state = λ m c. refl;
    }) (All-nil (IsExecution T));
  }
