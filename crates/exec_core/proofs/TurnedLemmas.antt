-- A turn, from the plans of it and what they made of the execution.
use Rattle.std.proofs.Common.{◌≡◌, ℕ, ◌+◌, ◌≤◌, ◌<◌, List, [], ◌∷◌, ◌++◌, length, map, slice_index, slice_get, Some, nat_lt, if◌then◌else◌, refl, sym}
use Rattle.std.proofs.Common.{ap, ◌∙◌, subst, arith}
use Rattle.std.specs.List.{All, filter, swap_remove}
use Rattle.std.specs.List.Sorted.{IsPermutation}
use Rattle.std.proofs.lemmas.List.Sorted.{IsPermutation-swap_remove, IsPermutation-append_left}
use Rattle.std.proofs.lemmas.Option.{slice_get_within, get_or_from_slice_get}
use Rattle.std.proofs.lemmas.Simd.{map-map}
use Rattle.am_base.specs.declared.limits.TheConstants.{MAX_BUDGET}
use Rattle.code_form.specs.Trial.{trial_of}
use Rattle.code_form.specs.Variant.{Table}
use Rattle.member_sets.specs.Members.{IsMemberList}
use Rattle.traces.specs.Meanings.{Meanings, total_toll}
use Rattle.traces.specs.Trace.{Trial, change_of}
use Rattle.traces.specs.Configuration.{parts, same_change, is_leader, variants_of}
use Rattle.traces.specs.Counts.{RoseBy, RoseWithin}
use Rattle.traces.specs.View.{View, IsLawful, IsKnown, Keeps}
use Rattle.exec_core.specs.Counted.{tries_of_turn, weight_of_turn}
use Rattle.exec_core.specs.Divided.{child_of}
use Rattle.exec_core.specs.Engines.{split_seen}
use Rattle.exec_core.specs.Executions.{execution_of, state_numbers, IsPutBack, IsExecutionBack}
use Rattle.exec_core.specs.Plans.{plans_at, plan_weights, KnowsTable}
use Rattle.exec_core.specs.Turned.{executions_of, IsHeld, AreHeld, CanAdvance, Advanced, Counted, NotCounted, Turned, Refused}
use Rattle.exec_core.specs.declared.engine.Engine.{Engine}
use Rattle.exec_core.specs.declared.execution.Execution.{Execution as Concrete}
use Rattle.exec_core.proofs.CountLemmas.{turn_by, turn_within, none_applied}
use Rattle.exec_core.proofs.Holding.{nowhere, keeps_more}
use Rattle.exec_core.proofs.PlannedLemmas.{few_plans, as_many_parts, split_is, known_plans, light_plans, weight_is}
use Rattle.exec_core.proofs.TurnLemmas.{e_out, e_live, e_below, keeps_all, back_before, advanced_before, was_moved, same_executions, held_back}
use Rattle.exec_core.proofs.TurnLemmas.{turned_executions, held_on}

pub not_counted : {M S W C : Type 0} {V : View M S W C} {a : M} {plans : List (List ℕ × C)} {k : ℕ} → NotCounted V a a plans k k
not_counted = record {
  meter = refl;
  applied = refl;
  weighed = refl;
  readied = record { least = omega arith; most = omega arith };
  tried = refl;
  asks = λ port. refl;
}

module _ {M S W C : Type 0} {V : View M S W C} (lawful : IsLawful V) (table : Table) {a b : M} {budget : ℕ} (at : ℕ) (E : Engine S C)
    (held : AreHeld V a budget E.lives.items E.ended.items) {e : Concrete S} (there : slice_get E.lives.items at ≡ Some e)
    (k : Keeps V a b []) (n : V.out_numbers b ≡ V.out_numbers a) where
  moved : IsPermutation E.lives.items (e ∷ swap_remove E.lives.items at e)
  moved = IsPermutation-swap_remove E.lives.items at e (slice_get_within E.lives.items at e there) (sym (get_or_from_slice_get E.lives.items at e e there))

  pub out : V.is_out a e.state
  out = e_out lawful held.held moved

  module _ {plans : List (List ℕ × C)} (start : W)
      (planned : plans ≡ plans_at (trial_of (V.meanings a) table start budget) (execution_of V a e)) where
    pub can_advance : IsMemberList e.members → KnowsTable (V.meanings a) table → budget ≤ MAX_BUDGET → CanAdvance V b e plans
    can_advance is knows few =
        let T = trial_of (V.meanings a) table start budget in let x = execution_of V a e in let same = lawful.same a in
        let place = (V.meanings a).place (V.stands a e.state) in let live = e_live lawful held.held moved in
        let light = light_plans T same x is planned (λ m. knows m place) (lawful.light a) live in
        let weights = ap (λ (A : Meanings W C). plan_weights A.weight plans) k.meanings in
        record {
          out = k.out e.state out (nowhere _);
          live = ap (λ w. (V.meanings b).ended w) (k.stands e.state out (nowhere _))
              ∙ ap (λ (A : Meanings W C). A.ended (V.stands a e.state)) k.meanings ∙ live;
          step = omega (arith, e_below lawful held.held moved, few);
          few = few_plans T same x is planned;
          known = subst (λ w. All (λ p. IsKnown (V.meanings b) w p.1) plans) (sym (k.stands e.state out (nowhere _)))
              (subst (λ A. All (λ p. IsKnown A (V.stands a e.state) p.1) plans) (sym k.meanings) (known_plans T same x is planned (λ m. knows m place)));
          light = omega (arith, light, weights);
        }

    weight : plan_weights (V.meanings b).weight plans ≡ weight_of_turn (trial_of (V.meanings a) table start budget) (execution_of V a e)
    weight = ap (λ (A : Meanings W C). plan_weights A.weight plans) k.meanings
        ∙ weight_is (trial_of (V.meanings a) table start budget) (execution_of V a e) planned

    pub has_turned : {c : M} {E1 F : Engine S C} {k0 k1 : ℕ} → IsMemberList e.members
        → E1.variants.items ≡ variants_of (trial_of (V.meanings a) table start budget) (execution_of V a e)
        → E1.tries ≡ E.tries → E1.alone ≡ E.alone → E1.splits.items ≡ E.splits.items
        → RoseBy (V.counts a) (V.counts b) (tries_of_turn (trial_of (V.meanings a) table start budget) (execution_of V a e))
        → Advanced V b c budget e plans (swap_remove E.lives.items at e) F.lives.items E.ended.items F.ended.items → Counted V b c e plans E1 F k0 k1
        → Turned V (trial_of (V.meanings a) table start budget) a c at E F k0 k1
    has_turned {c} {E1} {F} {k0} is tried t s p rose d q =
        let T = trial_of (V.meanings a) table start budget in let x = execution_of V a e in let same = lawful.same a in
        let many : length plans ≡ length (parts T x) = as_many_parts T same x is planned in
        record {
          turned = e;
          there = there;
          rest = executions_of V a (swap_remove E.lives.items at e) E.ended.items;
          was = was_moved lawful held.held moved;
          is = subst (λ xs. IsPermutation (executions_of V a (swap_remove E.lives.items at e) E.ended.items ++ xs) (executions_of V c F.lives.items F.ended.items))
              (ap (map (child_of V a e)) planned ∙ map-map (child_of V a e) (λ m. (filter (same_change T x m) x.members, change_of T m x.state))
              (filter (is_leader T x) x.members)) (turned_executions lawful held.held moved (advanced_before lawful k n d out));
          counts = turn_by (V.counts a) (V.counts b) (V.counts c) (length (variants_of T x)) (length (parts T x)) (weight_of_turn T x)
              (λ port. total_toll T.meanings port x.state (variants_of T x)) rose q.tried q.asks (q.applied ∙ ap (λ i. (V.counts b).applied + i) many)
              (q.weighed ∙ ap (λ i. (V.counts b).weighed + i) weight) (q.readied ∙ ap (λ i. (V.counts b).readied + i) weight);
          meter = q.meter ∙ ap (λ i. k0 + i) many;
          tries = omega (arith, q.tries, t, ap length tried);
          alone = omega (arith, q.alone, s);
          splits = q.splits ∙ ap (λ xs. map split_seen xs
              ++ (if nat_lt 1 (length plans) then (e.step, map (λ (y : List ℕ × C). slice_index y.0 0) plans) ∷ [] else [])) p
              ∙ ap (λ ys. map split_seen E.splits.items ++ ys) (split_is T same x is planned);
        }

    pub has_refused : {c : M} {F : Engine S C} {k0 k1 : ℕ}
        → RoseWithin (V.counts a) (V.counts b) (tries_of_turn (trial_of (V.meanings a) table start budget) (execution_of V a e))
        → IsPutBack V b c e (swap_remove E.lives.items at e) F.lives.items → F.ended.items ≡ E.ended.items → NotCounted V b c plans k0 k1
        → Refused V (trial_of (V.meanings a) table start budget) a c at E F k0 k1
    has_refused {c} {F} rose p f q =
        let T = trial_of (V.meanings a) table start budget in let x = execution_of V a e in
        let back = back_before lawful k n p.is out in let tolls : ℕ → ℕ = λ port. total_toll T.meanings port x.state (variants_of T x) in
        let none = none_applied (V.counts a) (V.counts b) (V.counts b) (length (variants_of T x)) 0 0 tolls rose in
        record {
          refused = e;
          there = there;
          same = subst (λ xs. IsPermutation (executions_of V a E.lives.items E.ended.items) (executions_of V c F.lives.items xs)) (sym f)
              (same_executions lawful held.held moved back.state.keeps back p.lives_are);
          counts = turn_within (V.counts a) (V.counts b) (V.counts c) (length (variants_of T x)) (length (parts T x)) (weight_of_turn T x) tolls
              rose q.tried q.asks q.applied q.weighed q.readied.least (omega (arith, q.readied.most, weight));
          applied = q.applied ∙ none.0;
          weighed = q.weighed ∙ none.1;
          meter = q.meter;
        }

  pub still_held : {c : M} {plans : List (List ℕ × C)} {lives ended : List (Concrete S)} {numbers : List ℕ}
      → Advanced V b c budget e plans (swap_remove E.lives.items at e) lives E.ended.items ended
      → IsHeld V a budget numbers E.lives.items E.ended.items → IsHeld V c budget numbers lives ended
  still_held d h = held_on lawful h moved (advanced_before lawful k n d out)

  pub held_again : {c : M} {lives ended : List (Concrete S)} {numbers : List ℕ} → IsPutBack V b c e (swap_remove E.lives.items at e) lives
      → ended ≡ E.ended.items → IsHeld V a budget numbers E.lives.items E.ended.items → IsHeld V c budget numbers lives ended
  held_again {c} {lives} {numbers = numbers} p f h =
      let back = back_before lawful k n p.is out in
      subst (IsHeld V c budget numbers lives) (sym f) (held_back lawful h moved back.state.keeps back p.lives_are)

  pub keeps_others : {c : M} → Keeps V b c (V.number e.state ∷ []) → Keeps V a c (state_numbers V (E.lives.items ++ E.ended.items))
  keeps_others {c} f = keeps_all (IsPermutation-append_left E.ended.items _ _ moved) (keeps_more V lawful a b c [] (V.number e.state ∷ []) (V.number e.state ∷ [])
      (λ j h. absurd (nowhere j h)) (λ j h. h) k f)
