-- The pass that chooses tests: its steps, and what the chosen tests kill.
use Rattle.std.proofs.Common.{◌≡◌, ℕ, zero, suc, ◌+◌, ◌-◌, ◌<◌, ◌≤◌, Bool, true, false, ◌&&◌, ◌||◌, ◌==◌, not, cond, List, [], ◌∷◌, ◌++◌, length, map, reverse, get_or, replicate}
use Rattle.std.proofs.Common.{refl, sym, ap, ◌∙◌, subst, arith, ⊎_elim}
use Rattle.std.specs.List.{list_any, range_with_len, position_or_len, Contains}
use Rattle.std.proofs.lemmas.Bool.{or_cases, or_left, or_right, and_parts, and_from, not-true, not_from_false, cases_order, both_ways}
use Rattle.std.proofs.lemmas.List.{reverse-append}
use Rattle.std.proofs.lemmas.List.FromFn.{length-map-range_with_len, get_or-map-range_with_len}
use Rattle.std.proofs.lemmas.List.Folds.{list_any_at}
use Rattle.traces.proofs.Bools.{on_bool, same_bools}
use Rattle.traces.proofs.Lists.{contains_cases}
use Rattle.kill_matrix.specs.Score.{Letters}
use Rattle.suite_reduce.specs.Kills.{is_killed_by, is_killed_by_some, first_tests}
use Rattle.suite_reduce.specs.Choice.{needs, is_needed, with_needed, chosen_among, chosen_tests, KillsLikeAll, IsKilledByOneAlone}
use Rattle.suite_reduce.specs.Pass.{AreFirstKillers, IsPass}
use Rattle.suite_reduce.proofs.Ranges.{any_in_range, any_from_range, any_same, map_same, first_in_range, is_first_of_all}

module _ (grid : Letters) where
  chosen_from : ℕ → ℕ → List ℕ
  chosen_from a n = chosen_among grid (range_with_len a n)

  pub as_many : (firsts : List ℕ) → AreFirstKillers grid firsts → length firsts ≡ grid.mutants
  as_many firsts are = ap length are ∙ length-map-range_with_len (λ m. position_or_len (is_killed_by grid m) (first_tests (length grid.tests))) 0 grid.mutants

  regroup : (a b c : Bool) → ((a && b) && c) ≡ (a && (b && c))
  regroup true b c = refl
  regroup false b c = refl

  -- the test of the code is that of the definition
  pub needed_is : (firsts : List ℕ) (covered : List Bool) (t : ℕ) (chosen : List ℕ) → AreFirstKillers grid firsts → t < length grid.tests
      → covered ≡ map (λ m. is_killed_by_some grid m chosen) (range_with_len 0 grid.mutants)
      → list_any (λ m. (get_or firsts m 0 == t) && not (get_or covered m false)) (range_with_len 0 grid.mutants) ≡ is_needed grid t chosen
  unfolding is_needed
  needed_is firsts covered t chosen are within covers =
      let first : ℕ → ℕ = λ m. position_or_len (is_killed_by grid m) (first_tests (length grid.tests)) in
      any_same (λ m. (get_or firsts m 0 == t) && not (get_or covered m false)) (needs grid t chosen) 0 grid.mutants (λ m l u.
      ap (λ k. (k == t) && not (get_or covered m false)) (ap (λ xs. get_or xs m 0) are ∙ get_or-map-range_with_len first 0 grid.mutants m m 0 (omega arith) (omega arith))
      ∙ ap (λ b. b && not (get_or covered m false)) (is_first_of_all (is_killed_by grid m) (length grid.tests) t within)
      ∙ ap (λ b. (is_killed_by grid m t && not (is_killed_by_some grid m (first_tests t))) && not b)
      (ap (λ xs. get_or xs m false) covers ∙ get_or-map-range_with_len (λ k. is_killed_by_some grid k chosen) 0 grid.mutants m m false (omega arith) (omega arith))
      ∙ regroup (is_killed_by grid m t) (not (is_killed_by_some grid m (first_tests t))) (not (is_killed_by_some grid m chosen)))

  next_is : (t n : ℕ) → t < n → range_with_len t (n - t) ≡ t ∷ range_with_len (t + 1) (n - (t + 1))
  next_is t n h = let e : n - t ≡ suc (n - (t + 1)) = omega arith in ap (range_with_len t) e

  step : (t : ℕ) → t < length grid.tests → chosen_among grid (range_with_len t (length grid.tests - t))
      ≡ with_needed grid t (chosen_among grid (range_with_len (t + 1) (length grid.tests - (t + 1))))
  step t h = ap (chosen_among grid) (next_is t (length grid.tests) h)

  -- a test that isn't needed
  pub pass_by : (t : ℕ) (chosen : List ℕ) (covered : List Bool) → t < length grid.tests → IsPass grid (t + 1) chosen covered
      → is_needed grid t (reverse chosen) ≡ false → IsPass grid t chosen covered
  pass_by t chosen covered h pass idle = record {
    chosen_are = pass.chosen_are ∙ sym (step t h ∙ ap (λ xs. with_needed grid t xs) (sym pass.chosen_are) ∙ ap (λ b. cond b (t ∷ reverse chosen) (reverse chosen)) idle
        ∙ pass.chosen_are);
    covered_are = pass.covered_are;
  }

  -- a test that is needed
  pub pass_on : (t : ℕ) (chosen : List ℕ) (covered more : List Bool) → t < length grid.tests → IsPass grid (t + 1) chosen covered
      → is_needed grid t (reverse chosen) ≡ true
      → more ≡ map (λ m. is_killed_by grid m t || get_or covered m false) (range_with_len 0 grid.mutants)
      → IsPass grid t (chosen ++ t ∷ []) more
  pass_on t chosen covered more h pass need are =
      let turned : reverse (chosen ++ t ∷ []) ≡ t ∷ reverse chosen = reverse-append chosen (t ∷ []) in record {
        chosen_are = turned ∙ sym (step t h ∙ ap (λ xs. with_needed grid t xs) (sym pass.chosen_are) ∙ ap (λ b. cond b (t ∷ reverse chosen) (reverse chosen)) need);
        covered_are = are ∙ map_same (λ m. is_killed_by grid m t || get_or covered m false) (λ m. is_killed_by_some grid m (t ∷ reverse chosen)) 0 grid.mutants (λ m l u.
            ap (λ b. is_killed_by grid m t || b) (ap (λ xs. get_or xs m false) pass.covered_are
            ∙ get_or-map-range_with_len (λ k. is_killed_by_some grid k (reverse chosen)) 0 grid.mutants m m false (omega arith) (omega arith)))
            ∙ ap (λ xs. map (λ m. is_killed_by_some grid m xs) (range_with_len 0 grid.mutants)) (sym turned);
      }

  pub pass_at : (s t : ℕ) (chosen : List ℕ) (covered : List Bool) → s ≡ t → IsPass grid s chosen covered → IsPass grid t chosen covered
  pass_at s t chosen covered e pass = subst (λ k. IsPass grid k chosen covered) e pass

  -- before the first test of the pass
  pub pass_begins : (t : ℕ) (covered : List Bool) → t ≡ length grid.tests → covered ≡ map (λ m. false) (range_with_len 0 grid.mutants) → IsPass grid t [] covered
  pass_begins t covered e are =
      let none : length grid.tests - t ≡ 0 = omega arith in
      record { chosen_are = sym (ap (λ n. chosen_among grid (range_with_len t n)) none); covered_are = are }

  -- a set of none
  pub no_cover : (a n : ℕ) → replicate n false ≡ map (λ m. false) (range_with_len a n)
  no_cover a zero = refl
  no_cover a (suc n) = ap (λ xs. false ∷ xs) (no_cover (a + 1) n)

  -- at its end
  pub pass_ends : (t : ℕ) (chosen : List ℕ) (covered : List Bool) → t ≡ 0 → IsPass grid t chosen covered → reverse chosen ≡ chosen_tests grid
  unfolding chosen_tests
  pass_ends t chosen covered e pass =
      let all : length grid.tests - 0 ≡ length grid.tests = omega arith in
      (pass_at t 0 chosen covered e pass).chosen_are ∙ ap (λ n. chosen_among grid (range_with_len 0 n)) all

  -- ---- what the chosen tests kill

  -- the pass from a on chooses what the pass behind it chose, and a if it is needed
  more_killed : (a n m : ℕ) → is_killed_by_some grid m (chosen_from (a + 1) n) ≡ true → is_killed_by_some grid m (chosen_from a (suc n)) ≡ true
  unfolding chosen_from
  more_killed a n m h = on_bool (is_needed grid a (chosen_from (a + 1) n))
      (λ t. rw t (or_right (is_killed_by grid m a) (is_killed_by_some grid m (chosen_from (a + 1) n)) h))
      (λ f. rw f h)

  -- a mutant whose first killer is among the tests of the pass is killed by a chosen one
  first_killed : (a n d m : ℕ) → d < n → m < grid.mutants → is_killed_by grid m (a + d) ≡ true → is_killed_by_some grid m (first_tests (a + d)) ≡ false
      → is_killed_by_some grid m (chosen_from a n) ≡ true
  unfolding chosen_from is_needed
  first_killed a zero d m l u k f = absurd (omega arith)
  first_killed a (suc n) zero m l u k f =
      let same : a + 0 ≡ a = omega arith in
      let kills : is_killed_by grid m a ≡ true = sym (ap (is_killed_by grid m) same) ∙ k in
      let fresh : is_killed_by_some grid m (first_tests a) ≡ false = sym (ap (λ j. is_killed_by_some grid m (first_tests j)) same) ∙ f in
      on_bool (is_killed_by_some grid m (chosen_from (a + 1) n))
      (λ t. more_killed a n m t)
      (λ open_. let need : is_needed grid a (chosen_from (a + 1) n) ≡ true = any_from_range (needs grid a (chosen_from (a + 1) n)) 0 grid.mutants m (omega arith) (omega arith)
      (and_from (is_killed_by grid m a) (not (is_killed_by_some grid m (first_tests a)) && not (is_killed_by_some grid m (chosen_from (a + 1) n))) kills
      (and_from (not (is_killed_by_some grid m (first_tests a))) (not (is_killed_by_some grid m (chosen_from (a + 1) n))) (not_from_false (is_killed_by_some grid m (first_tests a)) fresh)
      (not_from_false (is_killed_by_some grid m (chosen_from (a + 1) n)) open_))) in
      rw need (or_left (is_killed_by grid m a) (is_killed_by_some grid m (chosen_from (a + 1) n)) kills))
  first_killed a (suc n) (suc d) m l u k f =
      let same : a + suc d ≡ a + 1 + d = omega arith in
      more_killed a n m (first_killed (a + 1) n d m (omega arith) u (sym (ap (is_killed_by grid m) same) ∙ k) (sym (ap (λ j. is_killed_by_some grid m (first_tests j)) same) ∙ f))

  -- the chosen tests are among the tests of the pass
  chosen_within : (a n t : ℕ) → Contains (chosen_from a n) t → (a ≤ t) × (t < a + n)
  unfolding chosen_from
  chosen_within a zero t c = absurd (let l = c.1 in omega arith)
  chosen_within a (suc n) t c = on_bool (is_needed grid a (chosen_from (a + 1) n))
      (λ y. ⊎_elim
      (λ (s : a ≡ t). (omega arith, omega arith))
      (λ r. let w = chosen_within (a + 1) n t r in let l = w.0 in let u = w.1 in (omega arith, omega arith))
      (contains_cases a t (chosen_from (a + 1) n) (subst (λ b. Contains (cond b (a ∷ chosen_from (a + 1) n) (chosen_from (a + 1) n)) t) y c)))
      (λ f. let w = chosen_within (a + 1) n t (subst (λ b. Contains (cond b (a ∷ chosen_from (a + 1) n) (chosen_from (a + 1) n)) t) f c) in
      let l = w.0 in let u = w.1 in (omega arith, omega arith))

  killed_within : (a n m : ℕ) → is_killed_by_some grid m (chosen_from a n) ≡ true → is_killed_by_some grid m (range_with_len a n) ≡ true
  unfolding chosen_from
  killed_within a zero m h = h
  killed_within a (suc n) m h = on_bool (is_needed grid a (chosen_from (a + 1) n))
      (λ y. ⊎_elim
      (λ t. or_left (is_killed_by grid m a) (is_killed_by_some grid m (range_with_len (a + 1) n)) t)
      (λ r. or_right (is_killed_by grid m a) (is_killed_by_some grid m (range_with_len (a + 1) n)) (killed_within (a + 1) n m r))
      (or_cases (is_killed_by grid m a) (is_killed_by_some grid m (chosen_from (a + 1) n))
      (sym (ap (λ b. is_killed_by_some grid m (cond b (a ∷ chosen_from (a + 1) n) (chosen_from (a + 1) n))) y) ∙ h)))
      (λ f. or_right (is_killed_by grid m a) (is_killed_by_some grid m (range_with_len (a + 1) n)) (killed_within (a + 1) n m
      (sym (ap (λ b. is_killed_by_some grid m (cond b (a ∷ chosen_from (a + 1) n) (chosen_from (a + 1) n))) f) ∙ h)))

  pub kill_like_all : KillsLikeAll grid (chosen_tests grid)
  unfolding chosen_tests chosen_from
  kill_like_all m h =
      let n = length grid.tests in
      same_bools (is_killed_by_some grid m (chosen_from 0 n)) (is_killed_by_some grid m (first_tests n))
      (λ t. killed_within 0 n m t)
      (λ t. let w = first_in_range (is_killed_by grid m) 0 n t in
      let same : 0 + w.0 ≡ w.0 = omega arith in
      first_killed 0 n w.0 m w.1 h w.2 (ap (λ j. is_killed_by_some grid m (first_tests j)) same ∙ w.3))

  -- a mutant that needs a chosen test is killed by no other
  record Alone (chosen : List ℕ) (t : ℕ) : Type 0 where
    pub mutant : ℕ
    pub is_mutant : mutant < grid.mutants
    pub killed : is_killed_by grid mutant t ≡ true
    pub before : (k : ℕ) → k < t → is_killed_by grid mutant k ≡ false
    pub after : (k : ℕ) → Contains chosen k → t < k → is_killed_by grid mutant k ≡ false

  not_in : (m k : ℕ) (tests : List ℕ) → is_killed_by_some grid m tests ≡ false → Contains tests k → is_killed_by grid m k ≡ false
  not_in m k tests none c = on_bool (is_killed_by grid m k)
      (λ t. absurd (both_ways (is_killed_by_some grid m tests) none (list_any_at (is_killed_by grid m) tests c.0 k c.1 (ap (is_killed_by grid m) c.2 ∙ t))))
      (λ f. f)

  needed_alone : (t : ℕ) (later : List ℕ) → is_needed grid t later ≡ true → Alone (t ∷ later) t
  unfolding is_needed
  needed_alone t later h =
      let w = any_in_range (needs grid t later) 0 grid.mutants h in let m = w.0 in
      let p = and_parts (is_killed_by grid m t) (not (is_killed_by_some grid m (first_tests t)) && not (is_killed_by_some grid m later)) w.3 in
      let q = and_parts (not (is_killed_by_some grid m (first_tests t))) (not (is_killed_by_some grid m later)) p.1 in
      let fresh = not-true (is_killed_by_some grid m (first_tests t)) q.0 in
      let open_ = not-true (is_killed_by_some grid m later) q.1 in let u = w.2 in record {
        mutant = m;
        is_mutant = omega arith;
        killed = p.0;
        before = λ k l. on_bool (is_killed_by grid m k)
            (λ y. absurd (both_ways (is_killed_by_some grid m (first_tests t)) fresh (any_from_range (is_killed_by grid m) 0 t k (omega arith) (omega arith) y)))
            (λ f. f);
        after = λ k c l. ⊎_elim (λ (s : t ≡ k). absurd (omega arith)) (λ r. not_in m k later open_ r) (contains_cases t k later c);
      }

  alone_in : (a n t : ℕ) → Contains (chosen_from a n) t → Alone (chosen_from a n) t
  unfolding chosen_from
  alone_in a zero t c = absurd (let l = c.1 in omega arith)
  alone_in a (suc n) t c = on_bool (is_needed grid a (chosen_from (a + 1) n))
      (λ y. subst (λ b. Alone (cond b (a ∷ chosen_from (a + 1) n) (chosen_from (a + 1) n)) t) (sym y) (⊎_elim
      (λ (s : a ≡ t). subst (λ k. Alone (a ∷ chosen_from (a + 1) n) k) s (needed_alone a (chosen_from (a + 1) n) y))
      (λ r. let w = alone_in (a + 1) n t r in let past = (chosen_within (a + 1) n t r).0 in record {
        mutant = w.mutant;
        is_mutant = w.is_mutant;
        killed = w.killed;
        before = w.before;
        after = λ k d l. ⊎_elim (λ (s : a ≡ k). absurd (omega arith)) (λ e. w.after k e l) (contains_cases a k (chosen_from (a + 1) n) d);
      })
      (contains_cases a t (chosen_from (a + 1) n) (subst (λ b. Contains (cond b (a ∷ chosen_from (a + 1) n) (chosen_from (a + 1) n)) t) y c))))
      (λ f. subst (λ b. Alone (cond b (a ∷ chosen_from (a + 1) n) (chosen_from (a + 1) n)) t) (sym f)
      (alone_in (a + 1) n t (subst (λ b. Contains (cond b (a ∷ chosen_from (a + 1) n) (chosen_from (a + 1) n)) t) f c)))

  pub kill_alone : (t : ℕ) → Contains (chosen_tests grid) t → IsKilledByOneAlone grid (chosen_tests grid) t
  unfolding chosen_tests chosen_from
  kill_alone t c =
      let w = alone_in 0 (length grid.tests) t c in record {
        mutant = w.mutant;
        is_mutant = w.is_mutant;
        killed = w.killed;
        alone = λ k d y. ⊎_elim (λ (s : k ≡ t). s) (λ r. ⊎_elim
            (λ l. absurd (both_ways (is_killed_by grid w.mutant k) (w.before k l) y))
            (λ l. absurd (both_ways (is_killed_by grid w.mutant k) (w.after k d l) y)) r) (cases_order k t);
      }
