-- The scan for least subsumers.
use Rattle.std.proofs.Common.{◌≡◌, ℕ, ◌+◌, ◌-◌, ◌<◌, Bool, true, false, ◌&&◌, List, [], ◌∷◌, ◌++◌, sym, subst, arith, ⊎_elim, Option, Some, None}
use Rattle.std.specs.List.{find, range_with_len, All, Contains}
use Rattle.std.proofs.lemmas.Bool.{both_ways, and_parts, and_from, cases_lt, cases_order}
use Rattle.std.proofs.lemmas.List.Elements.{All-contains, All-push, All-weaker, Contains-push, Contains-append_left}
use Rattle.std.proofs.lemmas.List.Quantifiers.{all_pairs_push}
use Rattle.kill_matrix.specs.Score.{Letters}
use Rattle.suite_reduce.specs.Kills.{is_killed_by}
use Rattle.suite_reduce.specs.Subsumers.{IsWithin, IsKilled, Subsumes, IsLeastSubsumer}
use Rattle.suite_reduce.specs.Planes.{AreWords, words_within, words_kill}
use Rattle.suite_reduce.specs.Scan.{StandsFor, AreMinimal}
use Rattle.suite_reduce.proofs.Words.{within_from_words, words_from_within, killed_from_words, words_from_killed}
use Rattle.suite_reduce.proofs.Finding.{first_is, none_passes, none_smaller, first_of_range, none_of_range}

module _ (grid : Letters) (planes : List (List ℕ)) (are : AreWords grid planes) where
  through : (a b c : ℕ) → IsWithin grid a b → IsWithin grid b c → IsWithin grid a c
  through a b c h k t e = k t (h t e)

  -- who is within a killed mutant's tests is killed only where that one is
  also_killed : (a b : ℕ) → IsKilled grid a → IsWithin grid a b → IsKilled grid b
  also_killed a b k h = record { test = k.test; kills = h k.test k.kills }

  is_mutant : (a : ℕ) → IsKilled grid a → a < grid.mutants
  is_mutant a k = ⊎_elim (λ l. l) (λ g. absurd (both_ways (is_killed_by grid a k.test) (are.no_more a k.test g) k.kills)) (cases_lt a grid.mutants)

  pub not_killed : (b : ℕ) → b < grid.mutants → words_kill planes b ≡ false → IsKilled grid b → ⊥
  not_killed b h f k = both_ways (words_kill planes b) f (words_from_killed grid planes are b h k)

  -- ---- a mutant that no test kills

  pub unkilled_alone : (b : ℕ) → b < grid.mutants → words_kill planes b ≡ false → IsLeastSubsumer grid b None
  unkilled_alone b h f a s = not_killed b h f (also_killed a b s.killed s.within)

  one_further : (minimal : List ℕ) (b : ℕ) → All (λ a. a < b) minimal → All (λ a. a < b + 1) minimal
  one_further minimal b h = All-weaker (λ a. a < b) (λ a. a < b + 1) (λ x l. omega arith) minimal h

  pub unkilled_further : (minimal : List ℕ) (b : ℕ) → b < grid.mutants → words_kill planes b ≡ false → AreMinimal grid minimal b → AreMinimal grid minimal (b + 1)
  unkilled_further minimal b h f m = record {
    rising = m.rising;
    before = one_further minimal b m.before;
    killed = m.killed;
    complete = λ a l k. ⊎_elim
        (λ u. m.complete a u k)
        (λ g. let same : a ≡ b = omega arith in absurd (not_killed b h f (subst (IsKilled grid) same k)))
        (cases_lt a b);
  }

  -- ---- a mutant that one before it subsumes

  -- where one before it is within it, one of the minimal ones is, and is no greater
  stands : (minimal : List ℕ) (b k : ℕ) → AreMinimal grid minimal b → k < b → Subsumes grid k b → StandsFor grid minimal b
  stands minimal b k m l s =
      let w = m.complete k l s.killed in let less = w.least in
      record { mutant = w.mutant; listed = w.listed; least = omega arith; within = through w.mutant k b w.within s.within }

  passes_of : (a b : ℕ) → a < grid.mutants → b < grid.mutants → IsWithin grid a b → words_within planes a b ≡ true
  passes_of a b ha hb h = words_from_within grid planes are a b ha hb h

  pub found_least : (minimal : List ℕ) (b a : ℕ) → b < grid.mutants → AreMinimal grid minimal b → find (λ x. words_within planes x b) minimal ≡ Some a
      → IsLeastSubsumer grid b (Some a)
  found_least minimal b a h m e =
      let w = first_is (λ x. words_within planes x b) minimal a e in
      let listed : Contains minimal a = (w.place, w.within, w.is) in
      let low = All-contains (λ x. x < b) minimal a m.before listed in
      let killed = All-contains (IsKilled grid) minimal a m.killed listed in (
        record { other = λ s. omega arith; killed = killed; within = within_from_words grid planes are a b (omega arith) h w.passes },
        λ k l s. let c = m.complete k (omega arith) s.killed in let less = c.least in
            let kept = All-contains (IsKilled grid) minimal c.mutant m.killed c.listed in
            both_ways (words_within planes c.mutant b)
            (none_smaller (λ x. words_within planes x b) minimal a m.rising e c.mutant c.listed (omega arith))
            (passes_of c.mutant b (is_mutant c.mutant kept) h (through c.mutant k b c.within s.within)),
      )

  pub found_further : (minimal : List ℕ) (b a : ℕ) → b < grid.mutants → AreMinimal grid minimal b → find (λ x. words_within planes x b) minimal ≡ Some a
      → AreMinimal grid minimal (b + 1)
  found_further minimal b a h m e =
      let w = first_is (λ x. words_within planes x b) minimal a e in
      let listed : Contains minimal a = (w.place, w.within, w.is) in
      let low = All-contains (λ x. x < b) minimal a m.before listed in record {
        rising = m.rising;
        before = one_further minimal b m.before;
        killed = m.killed;
        complete = λ k l kk. ⊎_elim
            (λ u. m.complete k u kk)
            (λ g. let same : b ≡ k = omega arith in subst (StandsFor grid minimal) same (record {
              mutant = a;
              listed = listed;
              least = omega arith;
              within = within_from_words grid planes are a b (omega arith) h w.passes;
            }))
            (cases_lt k b);
      }

  -- ---- a mutant that none before it subsumes

  none_before : (minimal : List ℕ) (b : ℕ) → b < grid.mutants → AreMinimal grid minimal b → find (λ x. words_within planes x b) minimal ≡ None
      → (k : ℕ) → k < b → Subsumes grid k b → ⊥
  none_before minimal b h m e k l s =
      let c = m.complete k l s.killed in let kept = All-contains (IsKilled grid) minimal c.mutant m.killed c.listed in
      both_ways (words_within planes c.mutant b) (none_passes (λ x. words_within planes x b) minimal e c.mutant c.listed)
      (passes_of c.mutant b (is_mutant c.mutant kept) h (through c.mutant k b c.within s.within))

  pub new_further : (minimal : List ℕ) (b : ℕ) → b < grid.mutants → words_kill planes b ≡ true → AreMinimal grid minimal b → AreMinimal grid (minimal ++ b ∷ []) (b + 1)
  new_further minimal b h t m = record {
    rising = all_pairs_push (λ x y. x < y) minimal b m.rising (λ k d l. m.before k d l);
    before = All-push (λ a. a < b + 1) minimal b (one_further minimal b m.before) (omega arith);
    killed = All-push (IsKilled grid) minimal b m.killed (killed_from_words grid planes are b h t);
    complete = λ a l k. ⊎_elim
        (λ u. let w = m.complete a u k in record { mutant = w.mutant; listed = Contains-append_left minimal (b ∷ []) w.mutant w.listed; least = w.least; within = w.within })
        (λ g. let same : b ≡ a = omega arith in subst (StandsFor grid (minimal ++ b ∷ [])) same (record {
          mutant = b;
          listed = Contains-push minimal b;
          least = omega arith;
          within = λ t e. e;
        }))
        (cases_lt a b);
  }

  -- the test of the second scan
  behind : ℕ → ℕ → Bool
  behind b x = words_within planes x b && words_kill planes x

  behind_passes : (b a : ℕ) → b < grid.mutants → Subsumes grid a b → behind b a ≡ true
  unfolding behind
  behind_passes b a h s = let l = is_mutant a s.killed in
      and_from (words_within planes a b) (words_kill planes a) (passes_of a b l h s.within) (words_from_killed grid planes are a l s.killed)

  pub new_least : (minimal : List ℕ) (b : ℕ) (r : Option ℕ) → b < grid.mutants → AreMinimal grid minimal b → find (λ x. words_within planes x b) minimal ≡ None
      → r ≡ find (λ x. words_within planes x b && words_kill planes x) (range_with_len (b + 1) (grid.mutants - (b + 1))) → IsLeastSubsumer grid b r
  unfolding behind
  new_least minimal b None h m e is = λ a s. ⊎_elim
      (λ (same : a ≡ b). s.other same)
      (λ r. ⊎_elim
      (λ l. none_before minimal b h m e a l s)
      (λ (l : b < a). let u = is_mutant a s.killed in
      both_ways (behind b a) (none_of_range (behind b) (b + 1) (grid.mutants - (b + 1)) (sym is) a (omega arith) (omega arith)) (behind_passes b a h s))
      r)
      (cases_order a b)
  new_least minimal b (Some a) h m e is =
      let w = first_of_range (behind b) (b + 1) (grid.mutants - (b + 1)) a (sym is) in
      let low = w.0 in let high = w.1 in let p = and_parts (words_within planes a b) (words_kill planes a) w.2 in
      let l : a < grid.mutants = omega arith in (
        record { other = λ s. omega arith; killed = killed_from_words grid planes are a l p.1; within = within_from_words grid planes are a b l h p.0 },
        λ k u s. ⊎_elim
            (λ (same : k ≡ b). s.other same)
            (λ r. ⊎_elim
            (λ v. none_before minimal b h m e k v s)
            (λ (v : b < k). both_ways (behind b k) (w.3 k (omega arith) u) (behind_passes b k h s))
            r)
            (cases_order k b),
      )

  pub nothing_before : AreMinimal grid [] 0
  nothing_before = record {
    rising = λ i j d l u. absurd (omega arith);
    before = λ k d l. absurd (omega arith);
    killed = λ k d l. absurd (omega arith);
    complete = λ a l k. absurd (omega arith);
  }
