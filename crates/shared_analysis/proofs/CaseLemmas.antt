-- The classes of an analysis as they are given out, and the states that it leaves out.
use Rattle.std.proofs.Common.{◌≡◌, refl, ℕ, ◌+◌, ◌<◌, List, [], ◌∷◌, ◌++◌, ◌∙◌, ap, arith, length, map, nat_eq, subst, sym, slice_index}
use Rattle.std.specs.List.{IsDistinct}
use Rattle.std.specs.List.Sorted.{IsPermutation, IsNonDecreasingBy}
use Rattle.std.proofs.Math.Seq.{take-length}
use Rattle.std.proofs.lemmas.List.{length-append, length-map, get_or-map}
use Rattle.std.proofs.lemmas.List.Elements.{All-map}
use Rattle.std.proofs.lemmas.List.Folds.{flat_map-map}
use Rattle.std.proofs.lemmas.List.Sorted.{IsPermutation-sym, IsPermutation-trans, IsPermutation-append_right, IsPermutation-to_front, IsNonDecreasingBy-from_default, IsNonDecreasingBy-short, length_permutation}
use Rattle.std.proofs.lemmas.Map.Keys.{IsDistinct-IsPermutation}
use Rattle.std.specs.Prelude.{max}
use Rattle.code_form.specs.declared.code.Code.{Code}
use Rattle.code_form.specs.Trial.{trial_of}
use Rattle.code_form.specs.Variant.{Table}
use Rattle.traces.specs.Meanings.{Meanings}
use Rattle.traces.specs.View.{View}
use Rattle.traces.specs.Counts.{Counts, SameCounts, RoseBy, RoseWithin, IsBetween, AreAtMost}
use Rattle.traces.specs.Trace.{Trial, trace, state_after}
use Rattle.traces.specs.Ends.{IsEnd}
use Rattle.traces.proofs.Permutations.{cancel_front}
use Rattle.machine_form.specs.declared.change.Change.{Change}
use Rattle.machine_form.specs.State.{State}
use Rattle.machine_form.specs.Machine.{outcome_at}
use Rattle.machine_form.specs.Start.{opening_bytes}
use Rattle.traces.specs.Work.{load}
use Rattle.exec_machine.proofs.Numbers.{flips}
use Rattle.exec_core.specs.Analysed.{AreClasses, end_of}
use Rattle.exec_core.specs.Counted.{totals}
use Rattle.exec_core.specs.declared.result.Class.{Class}
use Rattle.shared_machine.specs.Shown.{Seen}
use Rattle.shared_machine.specs.SharedView.{KeepsPeak}
use Rattle.shared_pages.specs.Opening.{full_count}
use Rattle.shared_pages.specs.Store.{Store, used_pages}
use Rattle.shared_analysis.specs.Peak.{IsPeak}
use Rattle.shared_analysis.specs.Ended.{IsEnded, AreEnded}
use Rattle.shared_analysis.specs.declared.ended.Ended.{Ended}

pub at_start : (A B : Meanings State Change) (table : Table) (s t : State) (budget : ℕ) (P : Trial State Change → Type 0)
    → A ≡ B → s ≡ t → P (trial_of A table s budget) → P (trial_of B table t budget)
at_start A B table s t budget P p q h = subst (λ (X : Meanings State Change). P (trial_of X table t budget)) p (subst (λ (x : State). P (trial_of A table x budget)) q h)

rising_map : {X Y : Type 0} (n : Y → ℕ) (f : X → Y) (xs : List X) → IsNonDecreasingBy (λ x. n (f x)) xs → IsNonDecreasingBy n (map f xs)
rising_map n f [] h = IsNonDecreasingBy-short n (map f []) (omega arith)
rising_map n f (x ∷ xs) h = IsNonDecreasingBy-from_default n (map f (x ∷ xs)) (f x) (λ i j le lt.
    let lt' = subst (λ k. j < k) (length-map (x ∷ xs) f) lt in
    rw (get_or-map f (x ∷ xs) i x (f x) (omega (arith, le, lt')), get_or-map f (x ∷ xs) j x (f x) lt') (h i j x le lt'))

module _ {M S : Type 0} (V : View M S State Change) (T : Trial State Change) (m : M) where
  abbrev pub shown : Class S → Ended
  shown c = record { outcome = outcome_at (V.stands m c.state); members = c.members; length = c.length }

  is_ended : (c : Class S) → IsEnd T (end_of V m c) → IsEnded T (shown c)
  is_ended c e = record {
    some = e.some;
    rising = e.rising;
    members = e.members;
    steps = e.step;
    outcome = λ k h. ap outcome_at (e.state k h ∙ ap (state_after T T.start) (take-length (trace T k)));
  }

  pub are_ended : (classes : List (Class S)) → AreClasses V T m classes → AreEnded T (map shown classes)
  are_ended classes a = record {
    once = subst (IsPermutation _) (sym (flat_map-map (λ (e : Ended). e.members) shown classes)) a.once;
    each = All-map (IsEnded T) shown classes (λ k d l. is_ended _ (a.each k d l));
    rising = rising_map (λ e. slice_index e.members 0) shown classes a.rising;
  }

-- no state was out before `n` went out as `one`; `two` are out with the classes `cs`, and `three` without them
pub classes_are_out : (n : ℕ) (one two cs : List ℕ) → IsPermutation (n ∷ []) one → IsPermutation (n ∷ two) (cs ++ one) → IsPermutation two cs
classes_are_out n one two cs s p = cancel_front (n ∷ []) two cs (IsPermutation-trans (n ∷ two) (cs ++ one) (n ∷ cs) p
    (IsPermutation-trans (cs ++ one) (cs ++ n ∷ []) (n ∷ cs) (IsPermutation-append_right cs one (n ∷ []) (IsPermutation-sym (n ∷ []) one s))
    (IsPermutation-to_front cs n)))

pub classes_differ : (n : ℕ) (one two cs : List ℕ) → IsPermutation (n ∷ []) one → IsPermutation (n ∷ two) (cs ++ one) → IsDistinct nat_eq two → IsDistinct nat_eq cs
classes_differ n one two cs s p = IsDistinct-IsPermutation nat_eq flips two cs (classes_are_out n one two cs s p)

none : (xs : List ℕ) → length xs ≡ 0 → xs ≡ []
none [] e = refl
none (x ∷ xs) e = absurd (omega (arith, e))

pub none_after : (n : ℕ) (one two cs three : List ℕ) → IsPermutation (n ∷ []) one → IsPermutation (n ∷ two) (cs ++ one) → IsPermutation two (cs ++ three) → three ≡ []
none_after n one two cs three s p q = none three (omega (arith, length_permutation _ _ (classes_are_out n one two cs s p), length_permutation _ _ q, length-append cs three))

pub none_after_refusal : (n : ℕ) (one two : List ℕ) → IsPermutation (n ∷ []) one → IsPermutation one (n ∷ two) → two ≡ []
none_after_refusal n one two s p = none two (omega (arith, length_permutation _ _ s, length_permutation _ _ p))

pub rose_between : (a b c d by : Counts) → SameCounts a b → RoseBy b c by → SameCounts c d → RoseBy a d by
rose_between a b c d by p r q = record {
  tried = omega (arith, p.tried, r.tried, q.tried);
  applied = omega (arith, p.applied, r.applied, q.applied);
  weighed = omega (arith, p.weighed, r.weighed, q.weighed);
  readied = omega (arith, p.readied, r.readied, q.readied);
  asks = λ k. omega (arith, p.asks k, r.asks k, q.asks k);
}

between : (a b c d by : ℕ) → b ≡ a → IsBetween b c (b + by) → d ≡ c → IsBetween a d (a + by)
between a b c d by p r q = record { least = omega (arith, p, r.least, q); most = omega (arith, p, r.most, q) }

pub within_between : (a b c d by : Counts) → SameCounts a b → RoseWithin b c by → SameCounts c d → RoseWithin a d by
within_between a b c d by p r q = record {
  tried = between _ _ _ _ _ p.tried r.tried q.tried;
  applied = between _ _ _ _ _ p.applied r.applied q.applied;
  weighed = between _ _ _ _ _ p.weighed r.weighed q.weighed;
  readied = between _ _ _ _ _ p.readied r.readied q.readied;
  asks = λ k. between _ _ _ _ _ (p.asks k) (r.asks k) (q.asks k);
}

pub risen_by_nothing : (a by : ℕ) → IsBetween a a (a + by)
risen_by_nothing a by = record { least = omega arith; most = omega arith }

pub within_same : (a b by : Counts) → SameCounts a b → RoseWithin a b by
within_same a b by p = record {
  tried = between _ _ _ _ _ refl (risen_by_nothing _ _) p.tried;
  applied = between _ _ _ _ _ refl (risen_by_nothing _ _) p.applied;
  weighed = between _ _ _ _ _ refl (risen_by_nothing _ _) p.weighed;
  readied = between _ _ _ _ _ refl (risen_by_nothing _ _) p.readied;
  asks = λ k. between _ _ _ _ _ refl (risen_by_nothing _ _) (p.asks k);
}

pub at_most_same : (most : ℕ) (a b : Counts) → SameCounts a b → AreAtMost most a → AreAtMost most b
at_most_same most a b p r = record {
  tried = omega (arith, p.tried, r.tried);
  applied = omega (arith, p.applied, r.applied);
  weighed = omega (arith, p.weighed, r.weighed);
  readied = omega (arith, p.readied, r.readied);
  asks = λ k. omega (arith, p.asks k, r.asks k);
}

-- the pages used when the test begins, and then no more than those readied
pub peak_of : (code : Code) (T : Trial State Change) (s : Store) (a b c : Seen) (peak : ℕ) → used_pages s ≡ 1 → s.peak ≡ 1
    → a.store.peak ≡ max s.peak (used_pages s + full_count (opening_bytes code)) → KeepsPeak a b → KeepsPeak b c
    → (old : ℕ) → a.readied ≡ old → c.readied ≡ old + load T → peak ≡ c.store.peak → IsPeak code T peak
peak_of code T s a b c peak used one begun p q old same rose is = record {
  least = omega (arith, used, one, begun, p.least, q.least, is);
  most = omega (arith, used, one, begun, p.most, q.most, same, rose, is);
}

pub rose_at_start : (A B : Meanings State Change) (table : Table) (s t : State) (budget : ℕ) (a b c d : Counts) → A ≡ B → s ≡ t
    → SameCounts a b → RoseBy b c (totals (trial_of A table s budget)) → SameCounts c d → RoseBy a d (totals (trial_of B table t budget))
rose_at_start A B table s t budget a b c d p q x r y = rose_between a b c d _ x (at_start A B table s t budget (λ T. RoseBy b c (totals T)) p q r) y

pub within_at_start : (A B : Meanings State Change) (table : Table) (s t : State) (budget : ℕ) (a b c d : Counts) → A ≡ B → s ≡ t
    → SameCounts a b → RoseWithin b c (totals (trial_of A table s budget)) → SameCounts c d → RoseWithin a d (totals (trial_of B table t budget))
within_at_start A B table s t budget a b c d p q x r y = within_between a b c d _ x (at_start A B table s t budget (λ T. RoseWithin b c (totals T)) p q r) y
