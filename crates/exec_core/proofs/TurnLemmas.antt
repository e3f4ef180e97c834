-- The executions through a turn.
use Rattle.std.proofs.Common.{◌≡◌, ◌≢◌, ℕ, ◌<◌, true, false, not, ◌&&◌, nat_lt, List, [], ◌∷◌, ◌++◌, length, map, get_or, slice_get, Some, nat_eq, refl, sym}
use Rattle.std.proofs.Common.{ap, ◌∙◌, subst, arith, append_assoc}
use Rattle.std.specs.Prelude.{Result, Ok, Err, OnErr, OnOk}
use Rattle.std.specs.List.{All, Contains, swap_remove}
use Rattle.std.specs.List.Sorted.{IsPermutation}
use Rattle.std.proofs.lemmas.Bool.{true≢false, eq-eqb, not-true, and_parts, ltb-true}
use Rattle.std.proofs.lemmas.List.{map-append}
use Rattle.std.proofs.lemmas.List.Elements.{All-append, All-cons, All-nil, All-head, All-tail, All-contains, All-from_recursion, Contains-append_left}
use Rattle.std.proofs.lemmas.List.Elements.{Contains-append_right}
use Rattle.std.proofs.lemmas.List.Sorted.{IsPermutation-refl, IsPermutation-sym, IsPermutation-trans, IsPermutation-map, IsPermutation-append_left}
use Rattle.std.proofs.lemmas.List.Sorted.{IsPermutation-append_right, IsPermutation-append_comm, IsPermutation-middle, IsPermutation-to_front, All-permutation}
use Rattle.std.proofs.lemmas.List.Sorted.{Contains-permutation, IsPermutation-swap_remove, length_permutation}
use Rattle.std.proofs.lemmas.Option.{slice_get_read, slice_get_within, get_or_from_slice_get}
use Rattle.std.proofs.lemmas.Map.Keys.{IsDistinct-head, IsDistinct-IsPermutation}
use Rattle.traces.specs.View.{View, IsLawful, Keeps}
use Rattle.traces.proofs.Permutations.{cancel_front}
use Rattle.traces.proofs.Lists.{contains_here}
use Rattle.traces.proofs.Steps.{length_map}
use Rattle.exec_core.specs.Executions.{execution_of, state_numbers, goes_on, IsExecutionBack, IsPutBack, AreSettledAfter}
use Rattle.exec_core.specs.Divided.{child_of, Divided}
use Rattle.exec_core.specs.Turned.{executions_of, IsHeld, Advanced}
use Rattle.exec_core.specs.declared.execution.Execution.{Execution as Concrete}
use Rattle.exec_machine.proofs.Numbers.{flips}
use Rattle.exec_core.proofs.Holding.{single, nowhere, keeps_none, keeps_more, All-from_contains}
use Rattle.exec_core.proofs.ChildLemmas.{map_where, contains_map}

module _ {M S W C : Type 0} {V : View M S W C} where
  pub as_many_made : {a c : M} {e : Concrete S} {plans : List (List ℕ × C)} {before after : List (Concrete S)} → before ≡ []
      → Divided V a e c plans before after → length after ≡ length plans
  as_many_made {a} {c} {e} {plans} none d =
      let n = length_permutation (map (child_of V a e) plans) (map (execution_of V c) d.made) d.seen in
      let i = length_map (child_of V a e) plans in let j = length_map (execution_of V c) d.made in
      let k = ap length d.added in let l = ap (λ xs. length (xs ++ d.made)) none in omega arith

  pub advanced : {a c : M} {budget : ℕ} {e : Concrete S} {plans : List (List ℕ × C)} {before made lives_before lives ended_before ended : List (Concrete S)}
      → before ≡ []
      → Divided V a e c plans before made → AreSettledAfter V c budget made lives_before lives ended_before ended
      → Advanced V a c budget e plans lives_before lives ended_before ended
  advanced {a} {c} {budget} {e} {plans} {before} {made} {lives_before} none d s =
      let same : made ≡ d.made = d.added ∙ ap (λ xs. xs ++ d.made) none in
      let moved : IsPermutation d.made (s.live ++ s.over) = subst (λ xs. IsPermutation xs (s.live ++ s.over)) same s.settled.moved in
      record {
        live = s.live;
        over = s.over;
        lives_are = subst (IsPermutation (lives_before ++ s.live)) (sym s.lives_are) (IsPermutation-refl _);
        ended_are = s.ended_are;
        all_live = s.settled.live;
        all_over = s.settled.over;
        out = All-permutation (λ l. V.is_out c l.state) _ _ moved d.out;
        seen = IsPermutation-trans _ _ _ d.seen (IsPermutation-map (execution_of V c) _ _ moved);
        numbers = IsPermutation-trans _ _ _ (IsPermutation-append_left (V.out_numbers a) _ _ (IsPermutation-sym _ _
            (IsPermutation-map (λ l. V.number l.state) _ _ moved)))
            d.numbers;
        keeps = d.keeps;
      }

  pub made_out : {a c : M} {e : Concrete S} {plans : List (List ℕ × C)} {before after : List (Concrete S)} → before ≡ []
      → Divided V a e c plans before after → All (λ l. V.is_out c l.state) after
  made_out {c = c} none d = subst (All (λ l. V.is_out c l.state)) (sym (d.added ∙ ap (λ xs. xs ++ d.made) none)) d.out

  -- what was advanced from a moment on at which the state stood for the same
  pub advanced_before : (lawful : IsLawful V) {a b c : M} {budget : ℕ} {e : Concrete S} {plans : List (List ℕ × C)}
      {lives_before lives ended_before ended : List (Concrete S)} → Keeps V a b [] → V.out_numbers b ≡ V.out_numbers a
      → Advanced V b c budget e plans lives_before lives ended_before ended → V.is_out a e.state
      → Advanced V a c budget e plans lives_before lives ended_before ended
  advanced_before lawful {a} {b} {c} {e = e} {plans = plans} k n d o =
      let s = k.stands e.state o (nowhere _) in let m = k.meanings in record {
        live = d.live;
        over = d.over;
        lives_are = d.lives_are;
        ended_are = d.ended_are;
        all_live = d.all_live;
        all_over = d.all_over;
        out = d.out;
        seen = subst (λ xs. IsPermutation xs (map (execution_of V c) (d.live ++ d.over)))
            (map_where (child_of V b e) (child_of V a e) plans (λ x i. cc)) d.seen;
        numbers = subst (λ xs. IsPermutation (state_numbers V (d.live ++ d.over) ++ xs) (V.number e.state ∷ V.out_numbers c)) n d.numbers;
        keeps = keeps_more V lawful a b c [] (V.number e.state ∷ []) (V.number e.state ∷ []) (λ j h. absurd (nowhere j h)) (λ j h. h) k d.keeps;
      }

-- two lists that grow at their ends
grown : {X : Type 0} (xs ys us vs : List X) → IsPermutation ((xs ++ ys) ++ (us ++ vs)) ((xs ++ us) ++ (ys ++ vs))
grown xs ys us vs =
    subst (λ zs. IsPermutation zs ((xs ++ us) ++ (ys ++ vs))) (sym (append_assoc xs ys (us ++ vs)))
    (subst (IsPermutation (xs ++ (ys ++ (us ++ vs)))) (sym (append_assoc xs us (ys ++ vs))) (IsPermutation-append_right xs _ _
    (subst (λ zs. IsPermutation zs (us ++ (ys ++ vs))) (append_assoc ys us vs) (subst (IsPermutation ((ys ++ us) ++ vs)) (append_assoc us ys vs)
    (IsPermutation-append_left vs _ _ (IsPermutation-append_comm ys us))))))

module _ {M S W C : Type 0} {V : View M S W C} (lawful : IsLawful V) {a : M} {budget : ℕ} {numbers : List ℕ} {lives ended : List (Concrete S)}
    (h : IsHeld V a budget numbers lives ended) {e : Concrete S} {others : List (Concrete S)} (p : IsPermutation lives (e ∷ others)) where
  all_moved : IsPermutation (lives ++ ended) (e ∷ (others ++ ended))
  all_moved = IsPermutation-append_left ended _ _ p

  numbers_moved : IsPermutation (V.out_numbers a) (V.number e.state ∷ (state_numbers V (others ++ ended) ++ numbers))
  numbers_moved = IsPermutation-trans _ _ _ h.numbers (IsPermutation-append_left numbers _ _ (IsPermutation-map (λ l. V.number l.state) _ _ all_moved))

  apart : (l : Concrete S) → Contains (others ++ ended) l → V.number e.state ≢ V.number l.state
  apart l c s =
      let d = IsDistinct-IsPermutation nat_eq flips (V.out_numbers a) _ numbers_moved (lawful.distinct a) in
      let ns = state_numbers V (others ++ ended) ++ numbers in
      true≢false (sym (eq-eqb _ _ s) ∙ All-contains (λ y. nat_eq (V.number e.state) y ≡ false) ns (V.number l.state)
      (All-from_recursion (λ y. nat_eq (V.number e.state) y ≡ false) ns (IsDistinct-head nat_eq (V.number e.state) ns d))
      (Contains-append_left (state_numbers V (others ++ ended)) numbers (V.number l.state) (contains_map (λ y. V.number y.state) (others ++ ended) l c)))

  moved_out : All (λ l. V.is_out a l.state) (e ∷ (others ++ ended))
  moved_out = All-permutation (λ l. V.is_out a l.state) _ _ all_moved h.out

  pub e_out : V.is_out a e.state
  e_out = All-head (λ l. V.is_out a l.state) e (others ++ ended) moved_out

  pub e_goes_on : goes_on V a budget e ≡ true
  e_goes_on = All-head (λ l. goes_on V a budget l ≡ true) e others (All-permutation (λ l. goes_on V a budget l ≡ true) _ _ p h.live)

  pub e_live : (V.meanings a).ended (V.stands a e.state) ≡ false
  e_live = not-true _ (and_parts (not ((V.meanings a).ended (V.stands a e.state))) (nat_lt e.step budget) e_goes_on).0

  pub e_below : e.step < budget
  e_below = ltb-true _ _ (and_parts (not ((V.meanings a).ended (V.stands a e.state))) (nat_lt e.step budget) e_goes_on).1

  others_out : (l : Concrete S) → Contains (others ++ ended) l → V.is_out a l.state
  others_out l c = All-contains (λ x. V.is_out a x.state) (others ++ ended) l (All-tail (λ x. V.is_out a x.state) e (others ++ ended) moved_out) c

  pub was_moved : IsPermutation (executions_of V a lives ended) (execution_of V a e ∷ executions_of V a others ended)
  was_moved = IsPermutation-map (execution_of V a) _ _ all_moved

  -- the others are as they were
  module _ {c : M} (k : Keeps V a c (V.number e.state ∷ [])) where
    untouched : (l : Concrete S) → Contains (others ++ ended) l → Contains (V.number e.state ∷ []) (V.number l.state) → ⊥
    untouched l i t = apart l i (single t)

    stands_kept : (l : Concrete S) → Contains (others ++ ended) l → V.stands c l.state ≡ V.stands a l.state
    stands_kept l i = k.stands l.state (others_out l i) (untouched l i)

    kept_out : All (λ l. V.is_out c l.state) (others ++ ended)
    kept_out = All-from_contains (λ l. V.is_out c l.state) (others ++ ended) (λ l i. k.out l.state (others_out l i) (untouched l i))

    kept_seen : executions_of V c others ended ≡ executions_of V a others ended
    kept_seen = map_where (execution_of V c) (execution_of V a) (others ++ ended) (λ l i. let s = stands_kept l i in cc)

    goes_on_kept : (l : Concrete S) → Contains (others ++ ended) l → goes_on V c budget l ≡ goes_on V a budget l
    goes_on_kept l i = ap (λ A. not (A.ended (V.stands c l.state)) && nat_lt l.step budget) k.meanings
        ∙ ap (λ w. not ((V.meanings a).ended w) && nat_lt l.step budget) (stands_kept l i)

    kept_live : All (λ l. goes_on V c budget l ≡ true) others
    kept_live = All-from_contains (λ l. goes_on V c budget l ≡ true) others (λ l i. goes_on_kept l (Contains-append_left others ended l i)
        ∙ All-contains (λ x. goes_on V a budget x ≡ true) others l (All-tail (λ x. goes_on V a budget x ≡ true) e others
        (All-permutation (λ x. goes_on V a budget x ≡ true) _ _ p h.live)) i)

    kept_over : All (λ l. goes_on V c budget l ≡ false) ended
    kept_over = All-from_contains (λ l. goes_on V c budget l ≡ false) ended (λ l i. goes_on_kept l (Contains-append_right others ended l i)
        ∙ All-contains (λ x. goes_on V a budget x ≡ false) ended l h.over i)

    -- the execution came back
    module _ {back : Concrete S} (b : IsExecutionBack V a c e back) {lives_back : List (Concrete S)} (q : IsPermutation (others ++ back ∷ []) lives_back) where
      back_first : IsPermutation (back ∷ others) lives_back
      back_first = IsPermutation-trans _ _ _ (IsPermutation-sym _ _ (IsPermutation-to_front others back)) q

      back_moved : {X : Type 0} (f : Concrete S → X) → IsPermutation (f back ∷ map f (others ++ ended)) (map f (lives_back ++ ended))
      back_moved f = IsPermutation-map f _ _ (IsPermutation-append_left ended _ _ back_first)

      back_seen : execution_of V c back ≡ execution_of V a e
      back_seen = let s = b.step in let m = b.members in let w = b.state.stands in cc

      pub same_executions : IsPermutation (executions_of V a lives ended) (executions_of V c lives_back ended)
      same_executions = IsPermutation-trans _ _
          _ was_moved (subst (λ x. IsPermutation (x ∷ executions_of V a others ended) (executions_of V c lives_back ended)) back_seen
          (subst (λ xs. IsPermutation (execution_of V c back ∷ xs) (executions_of V c lives_back ended)) kept_seen (back_moved (execution_of V c))))

      back_goes_on : goes_on V c budget back ≡ true
      back_goes_on = ap (λ A. not (A.ended (V.stands c back.state)) && nat_lt back.step budget) k.meanings
          ∙ ap (λ w. not ((V.meanings a).ended w) && nat_lt back.step budget) b.state.stands
          ∙ ap (λ n. not ((V.meanings a).ended (V.stands a e.state)) && nat_lt n budget) b.step ∙ e_goes_on

      pub held_back : IsHeld V c budget numbers lives_back ended
      held_back = record {
        out = All-permutation (λ l. V.is_out c l.state) _ _ (IsPermutation-append_left ended _ _ back_first)
            (All-cons (λ l. V.is_out c l.state) back (others ++ ended) b.state.out kept_out);
        numbers = IsPermutation-trans _ _ _ (IsPermutation-sym _ _ b.state.numbers) (IsPermutation-trans _ _
            _ numbers_moved (IsPermutation-append_left numbers _ _
            (subst (λ n. IsPermutation (n ∷ state_numbers V (others ++ ended)) (state_numbers V (lives_back ++ ended))) b.state.number
            (back_moved (λ l. V.number l.state)))));
        live = All-permutation (λ l. goes_on V c budget l ≡ true) _ _ back_first (All-cons (λ l. goes_on V c budget l ≡ true) back others back_goes_on kept_live);
        over = kept_over;
      }

  -- the execution was divided
  module _ {c : M} {plans : List (List ℕ × C)} {lives_after ended_after : List (Concrete S)}
      (d : Advanced V a c budget e plans others lives_after ended ended_after) where
    both : IsPermutation ((others ++ ended) ++ (d.live ++ d.over)) (lives_after ++ ended_after)
    both = IsPermutation-trans _ _ _ (grown others ended d.live d.over) (subst (λ xs. IsPermutation ((others ++ d.live) ++ (ended ++ d.over)) (lives_after ++ xs))
        (sym d.ended_are) (IsPermutation-append_left (ended ++ d.over) _ _ d.lives_are))

    pub turned_executions : IsPermutation (executions_of V a others ended ++ map (child_of V a e) plans) (executions_of V c lives_after ended_after)
    turned_executions = IsPermutation-trans _ _ _ (IsPermutation-append_right (executions_of V a others ended) _ _ d.seen)
        (subst (λ xs. IsPermutation (xs ++ map (execution_of V c) (d.live ++ d.over)) (executions_of V c lives_after ended_after))
        (kept_seen d.keeps) (subst (λ xs. IsPermutation xs (executions_of V c lives_after ended_after))
        (map-append (execution_of V c) (others ++ ended) (d.live ++ d.over)) (IsPermutation-map (execution_of V c) _ _ both)))

    new_numbers : IsPermutation (V.out_numbers c) (state_numbers V (d.live ++ d.over) ++ (state_numbers V (others ++ ended) ++ numbers))
    new_numbers =
        let made = state_numbers V (d.live ++ d.over) in let n = V.number e.state in let rest = state_numbers V (others ++ ended) ++ numbers in
        cancel_front (n ∷ []) (V.out_numbers c) (made ++ rest) (IsPermutation-trans _ _ _ (IsPermutation-sym _ _ d.numbers) (IsPermutation-trans _ _ _
        (IsPermutation-append_right made _ _ numbers_moved) (IsPermutation-middle made n rest)))

    pub held_on : IsHeld V c budget numbers lives_after ended_after
    held_on = record {
      out = All-permutation (λ l. V.is_out c l.state) _ _ both
          (All-append (λ l. V.is_out c l.state) (others ++ ended) (d.live ++ d.over) (kept_out d.keeps) d.out);
      numbers = IsPermutation-trans _ _ _ new_numbers (subst (λ xs. IsPermutation xs (state_numbers V (lives_after ++ ended_after) ++ numbers))
          (append_assoc (state_numbers V (d.live ++ d.over)) (state_numbers V (others ++ ended)) numbers) (IsPermutation-append_left numbers _
          _ (IsPermutation-trans _ _ _ (IsPermutation-append_comm (state_numbers V (d.live ++ d.over)) (state_numbers V (others ++ ended)))
          (subst (λ xs. IsPermutation xs (state_numbers V (lives_after ++ ended_after)))
          (map-append (λ l. V.number l.state) (others ++ ended) (d.live ++ d.over)) (IsPermutation-map (λ l. V.number l.state) _ _ both)))));
      live = All-permutation (λ l. goes_on V c budget l ≡ true) _ _ d.lives_are
          (All-append (λ l. goes_on V c budget l ≡ true) others d.live (kept_live d.keeps) d.all_live);
      over = subst (All (λ l. goes_on V c budget l ≡ false)) (sym d.ended_are)
          (All-append (λ l. goes_on V c budget l ≡ false) ended d.over (kept_over d.keeps) d.all_over);
    }

-- an execution that stayed out has come back
pub stayed : {M S W C : Type 0} {V : View M S W C} (lawful : IsLawful V) {a b : M} (e : Concrete S) → Keeps V a b [] → V.out_numbers b ≡ V.out_numbers a
    → V.is_out a e.state → IsExecutionBack V a b e e
stayed {V = V} lawful {a} {b} e k n o = record {
  step = refl;
  members = refl;
  state = record {
    number = refl;
    out = k.out e.state o (nowhere _);
    stands = k.stands e.state o (nowhere _);
    numbers = subst (IsPermutation (V.out_numbers a)) (sym n) (IsPermutation-refl (V.out_numbers a));
    keeps = keeps_more V lawful a b b [] [] (V.number e.state ∷ []) (λ j h. absurd (nowhere j h)) (λ j h. absurd (nowhere j h)) k (keeps_none V lawful b []);
  };
}

pub stays_back : {M S W C : Type 0} {V : View M S W C} (lawful : IsLawful V) {a : M} (lives : List (Concrete S)) (at : ℕ) (e : Concrete S)
    → slice_get lives at ≡ Some e → V.is_out a e.state → IsPutBack V a a e (swap_remove lives at e) lives
stays_back {V = V} lawful {a} lives at e h o = record {
  back = e;
  is = stayed lawful e (keeps_none V lawful a []) refl o;
  lives_are = IsPermutation-trans _ _ _ (IsPermutation-to_front (swap_remove lives at e) e) (IsPermutation-sym _ _
      (IsPermutation-swap_remove lives at e (slice_get_within lives at e h) (sym (get_or_from_slice_get lives at e e h))));
}

pub back_before : {M S W C : Type 0} {V : View M S W C} (lawful : IsLawful V) {a b c : M} {e back : Concrete S} → Keeps V a b []
    → V.out_numbers b ≡ V.out_numbers a → IsExecutionBack V b c e back → V.is_out a e.state → IsExecutionBack V a c e back
back_before {V = V} lawful {a} {b} {c} {e} k n i o = record {
  step = i.step;
  members = i.members;
  state = record {
    number = i.state.number;
    out = i.state.out;
    stands = i.state.stands ∙ k.stands e.state o (nowhere _);
    numbers = subst (λ xs. IsPermutation xs (V.out_numbers c)) n i.state.numbers;
    keeps = keeps_more V lawful a b c [] (V.number e.state ∷ []) (V.number e.state ∷ []) (λ j h. absurd (nowhere j h)) (λ j h. h) k i.state.keeps;
  };
}

-- what touches the state of one execution touches those of all
pub keeps_all : {M S W C : Type 0} {V : View M S W C} {a c : M} {e : Concrete S} {all others : List (Concrete S)} → IsPermutation all (e ∷ others)
    → Keeps V a c (V.number e.state ∷ []) → Keeps V a c (state_numbers V all)
keeps_all {V = V} {e = e} {all} {others} p k =
    let there : Contains (state_numbers V all) (V.number e.state) = contains_map (λ l. V.number l.state) all e
    (Contains-permutation (e ∷ others) all e (IsPermutation-sym _ _ p) (contains_here e others)) in
    record {
      meanings = k.meanings;
      stays = k.stays;
      out = λ t i ne. k.out t i (λ h. ne (subst (Contains (state_numbers V all)) (single h) there));
      stands = λ t i ne. k.stands t i (λ h. ne (subst (Contains (state_numbers V all)) (single h) there));
    }

-- the element that was taken out
pub taken_out : {X : Type 0} {xs rest : List X} {at : ℕ} {x : X} → x ≡ get_or xs at x → rest ≡ swap_remove xs at x → at < length xs
    → IsPermutation xs (x ∷ rest)
taken_out {xs = xs} {at = at} {x} e r l = subst (λ ys. IsPermutation xs (x ∷ ys)) (sym r) (IsPermutation-swap_remove xs at x l e)

pub at_index : {X : Type 0} (xs : List X) (at : ℕ) (x : X) → at < length xs → x ≡ get_or xs at x → slice_get xs at ≡ Some x
at_index xs at x l e = slice_get_read xs (length xs) at x refl l e

-- what holds whatever a call answers
pub on_err : {A E P : Type 0} (r : Result A E) → P → OnErr r P
on_err (Ok x) p = tt
on_err (Err e) p = p

pub ok_two : {A E P Q R : Type 0} (r : Result A E) → OnOk r P → OnOk r Q → (P → Q → R) → OnOk r R
ok_two (Ok x) p q f = f p q
ok_two (Err e) p q f = tt

pub err_three : {A E P Q R T : Type 0} (r : Result A E) → OnErr r P → OnErr r Q → OnErr r R → (P → Q → R → T) → OnErr r T
err_three (Ok x) p q s f = tt
err_three (Err e) p q s f = f p q s

pub by_answer : {A E P Q R T : Type 0} (r : Result A E) → OnOk r P → OnErr r Q → OnErr r R → (P → T) → (Q → R → T) → T
by_answer (Ok x) p q s f g = f p
by_answer (Err e) p q s f g = g q s

pub first_there : {X : Type 0} (xs : List X) → 0 < length xs → (x : X) × (slice_get xs 0 ≡ Some x)
first_there [] l = absurd (omega arith)
first_there (x ∷ xs) l = (x, refl)

pub no_items : {X : Type 0} (xs : List X) → length xs ≡ 0 → xs ≡ []
no_items [] h = refl
no_items (x ∷ xs) h = absurd (omega arith)
