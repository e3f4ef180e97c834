-- Before any change all mutants are one class, and nothing is run.
use Rattle.std.proofs.Common.{◌≡◌, ℕ, zero, suc, ◌+◌, ◌<◌, ◌≤◌, if◌then◌else◌, List, [], ◌∷◌, ◌++◌, length, Option, None, unwrap_or, refl, sym, ap, ◌∙◌, subst, arith, append-nil}
use Rattle.std.specs.Prelude.{slice_index}
use Rattle.std.specs.List.{All, sum_by}
use Rattle.std.specs.List.Sorted.{IsPermutation}
use Rattle.std.proofs.lemmas.List.Sums.{sum_by-cons}
use Rattle.std.proofs.lemmas.List.Sorted.{IsPermutation-refl, IsNonDecreasingBy-short}
use Rattle.am_base.specs.declared.outcome.Ending.{Ending}
use Rattle.am_base.specs.declared.outcome.Ending.TheVariants.{Budget}
use Rattle.am_base.specs.declared.outcome.Outcome.{Outcome}
use Rattle.traces.specs.Trace.{Trial, trace, within, state_after, state_at}
use Rattle.traces.specs.Together.{below}
use Rattle.traces.specs.Work.{total_cost, is_least, is_first_try, variant_at, steps, asks}
use Rattle.traces.proofs.Below.{below_below, has_below, length-below, IsStrictlyIncreasing-below, sum_below}
use Rattle.traces.proofs.Trace.{none_left}
use Rattle.machine_form.specs.declared.change.Change.{Change}
use Rattle.machine_form.specs.Machine.{outcome_at, outcome_of}
use Rattle.machine_form.specs.State.{State}
use Rattle.flat_analysis.specs.Ended.{IsEnded, AreEnded}
use Rattle.flat_analysis.specs.declared.ended.Ended.{Ended}
use Rattle.commands.specs.Groups.{unmoved_class}

abbrev shown : Ending → List ℕ → Outcome
shown ending output = record { ending = ending; output = output }

module _ (T : Trial State Change) where
  no_change : (m : ℕ) → trace (within T 0) m ≡ []
  no_change m = none_left (within T 0) m T.start

  opening : (m : ℕ) → T.start.ending ≡ None → T.start.output ≡ [] → outcome_of (within T 0) m ≡ shown Budget []
  opening m none nothing =
      let ending : unwrap_or T.start.ending Budget ≡ Budget = ap (λ (e : Option Ending). unwrap_or e Budget) none in
      let started : outcome_of (within T 0) m ≡ shown (unwrap_or T.start.ending Budget) T.start.output =
      ap (λ (cs : List Change). outcome_at (state_after (within T 0) T.start cs)) (no_change m) in
      started ∙ ap (λ e. shown e T.start.output) ending ∙ ap (λ o. shown Budget o) nothing

  one_ended : 1 ≤ T.mutants → T.start.ending ≡ None → T.start.output ≡ [] → IsEnded (within T 0) (unmoved_class T.mutants)
  one_ended some none nothing = record {
    some = let l = length-below T.mutants in omega (arith, l, some);
    rising = IsStrictlyIncreasing-below T.mutants;
    members = λ m k c. (
      (λ d. record { is_mutant = below_below T.mutants k d; equal = no_change k ∙ sym (no_change m) }),
      (λ h. has_below T.mutants k h.is_mutant),
    );
    steps = λ m c. sym (ap length (no_change m));
    outcome = λ m c. sym (opening m none nothing);
  }

  one_each : (e : Ended) → IsEnded (within T 0) e → All (IsEnded (within T 0)) (e ∷ [])
  one_each e h zero d l = h
  one_each e h (suc k) d l = absurd (omega arith)

  pub unmoved_ended : 1 ≤ T.mutants → T.start.ending ≡ None → T.start.output ≡ [] → AreEnded (within T 0) (unmoved_class T.mutants ∷ [])
  unmoved_ended some none nothing = record {
    once = subst (IsPermutation (below T.mutants)) (sym (append-nil (below T.mutants))) (IsPermutation-refl (below T.mutants));
    each = one_each (unmoved_class T.mutants) (one_ended some none nothing);
    rising = IsNonDecreasingBy-short (λ (e : Ended). slice_index e.members 0) (unmoved_class T.mutants ∷ []) (omega arith);
  }

  none_summed : (xs : List ℕ) → sum_by (λ k. 0) xs ≡ 0
  none_summed [] = refl
  none_summed (x ∷ xs) = let i = none_summed xs in let e = sum_by-cons (λ (k : ℕ). 0) x xs in omega (arith, i, e)

  no_cost : (f : ℕ → ℕ → ℕ) → total_cost (within T 0) f ≡ 0
  no_cost f =
      let each : (m : ℕ) → sum_by (f m) (below (length (trace (within T 0) m))) ≡ 0 =
      (λ m. ap (λ cs. sum_by (f m) (below (length cs))) (no_change m)) in
      sum_below (λ m. sum_by (f m) (below (length (trace (within T 0) m)))) (λ m. 0) T.mutants (λ m l. each m) ∙ none_summed (below T.mutants)

  pub no_steps : steps (within T 0) ≡ 0
  no_steps = no_cost (λ m n. if is_least (within T 0) m (n + 1) then 1 else 0)

  pub no_asks : (p : ℕ) → asks (within T 0) p ≡ 0
  no_asks p =
      no_cost (λ m n. if is_first_try (within T 0) m n then T.meanings.toll p (variant_at (within T 0) m n) (state_at (within T 0) m n) else 0)
