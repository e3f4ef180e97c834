-- An execution of a run that isn't live has the mutants of one whole trace.
use Rattle.std.proofs.Common.{◌≡◌, ℕ, true, false, arith, refl, sym, subst}
use Rattle.std.specs.Prelude.{◌↔◌}
use Rattle.std.specs.List.{filter, Contains}
use Rattle.std.specs.List.Sorted.{IsStrictlyIncreasing}
use Rattle.std.specs.Cmp.Lexicographic.{pointwise}
use Rattle.std.proofs.lemmas.List.Kept.{IsStrictlyIncreasing-filter}
use Rattle.traces.specs.Meanings.{IsSameTest}
use Rattle.traces.specs.Trace.{Trial, trace}
use Rattle.traces.specs.Together.{below, together}
use Rattle.traces.specs.Configuration.{Execution, is_live, IsExecution}
use Rattle.traces.proofs.Below.{below_below, has_below, IsStrictlyIncreasing-below}
use Rattle.traces.proofs.Lists.{from_filter, to_filter}
use Rattle.traces.proofs.Together.{lists_sound, lists_same, together_from}
use Rattle.traces.proofs.Turns.{some_first}
use Rattle.traces.proofs.Cost.{step_is}
use Rattle.traces.proofs.Ends.{same_trace, ended_members, ended_state}
use Rattle.traces.specs.Ends.{IsEnd}

module _ {S C : Type 0} (T : Trial S C) (same : IsSameTest T.meanings) where
  -- no change was made at the start
  pub together_at_start : (m k : ℕ) → together T m k 0 ≡ true
  together_at_start m k = together_from T same m k 0 (record { reached = omega arith; other_reached = omega arith; equal = refl })

  -- the test of whole traces is equality
  pub same_trace_is : (m k : ℕ) → (pointwise T.meanings.same (trace T m) (trace T k) ≡ true) ↔ (trace T m ≡ trace T k)
  same_trace_is m k = (
    lists_sound T.meanings.same same.sound (trace T m) (trace T k),
    λ e. subst (λ cs. pointwise T.meanings.same (trace T m) cs ≡ true) e (lists_same T.meanings.same same.complete (trace T m)),
  )

  pub ended_is : (e : Execution S) → IsExecution T e → is_live T e ≡ false → IsEnd T e
  ended_is e is over =
      let f = some_first e.members is.some in
      let are : (m : ℕ) → Contains e.members m → e.members ≡ filter (same_trace T same m) (below T.mutants) = ended_members T same e is over in
      record {
        some = is.some;
        rising = subst IsStrictlyIncreasing (sym (are f.0 f.1)) (IsStrictlyIncreasing-filter (same_trace T same f.0) (below T.mutants)
            (IsStrictlyIncreasing-below T.mutants));
        members = λ m k c. (
          λ d. let p = from_filter (same_trace T same m) (below T.mutants) k (subst (λ ms. Contains ms k) (are m c) d) in
              record { is_mutant = below_below T.mutants k p.0; equal = sym ((same_trace_is m k).0 p.1) },
          λ h. subst (λ ms. Contains ms k) (sym (are m c)) (to_filter (same_trace T same m) (below T.mutants) k (has_below T.mutants k h.is_mutant)
              ((same_trace_is m k).1 (sym h.equal))),
        );
        step = step_is T same (λ a b. 0) e is over;
        state = ended_state T same e is over;
      }
