-- What one turn costs: as many changes are applied as the members begin new prefixes.
use Rattle.std.proofs.Common.{◌≡◌, ℕ, suc, ◌+◌, true, ◌&&◌, not, cond, if◌then◌else◌, List, [], ◌∷◌, length, map, refl, sym, ap, ◌∙◌, subst, add-one}
use Rattle.std.specs.List.{filter, Contains}
use Rattle.std.proofs.lemmas.List.Sums.{length-filter}
use Rattle.traces.specs.Meanings.{IsSameTest}
use Rattle.traces.specs.Trace.{Trial, change_of}
use Rattle.traces.specs.Together.{together, AreTogether}
use Rattle.traces.specs.Work.{is_least}
use Rattle.traces.specs.Configuration.{Execution, is_live, is_leader, part, parts, IsExecution}
use Rattle.traces.specs.Cost.{cost_of_turn}
use Rattle.traces.proofs.Bools.{same_bools}
use Rattle.traces.proofs.Below.{any_below}
use Rattle.traces.proofs.Together.{AreTogether-from, together_from, together_more}
use Rattle.traces.proofs.Turns.{goes_on_at, with_x, leads_is, x_below}
use Rattle.traces.proofs.Cost.{sum_by_where}

pub length_map : {X Y : Type 0} (f : X → Y) (xs : List X) → length (map f xs) ≡ length xs
length_map f [] = refl
length_map f (x ∷ xs) = ap suc (length_map f xs)

module _ {S C : Type 0} (T : Trial S C) (same : IsSameTest T.meanings) where
  pub same_sym : (c d : C) → T.meanings.same c d ≡ T.meanings.same d c
  same_sym c d = same_bools _ _
      (λ h. subst (λ x. T.meanings.same x c ≡ true) (same.sound c d h) (same.complete c))
      (λ h. subst (λ x. T.meanings.same x d ≡ true) (same.sound d c h) (same.complete d))

  turned_round : (m k n : ℕ) → AreTogether T m k n → AreTogether T k m n
  turned_round m k n t = record { reached = t.other_reached; other_reached = t.reached; equal = sym t.equal }

  pub together_sym : (m k n : ℕ) → together T m k n ≡ together T k m n
  together_sym m k n = same_bools _ _
      (λ h. together_from T same k m n (turned_round m k n (AreTogether-from T same m k n h)))
      (λ h. together_from T same m k n (turned_round k m n (AreTogether-from T same k m n h)))

  module _ (e : Execution S) (is : IsExecution T e) (live : is_live T e ≡ true) where
    -- a member leads its part where it begins a new prefix
    pub leads_new : (m : ℕ) → Contains e.members m → is_leader T e m ≡ is_least T m (e.step + 1)
    leads_new m c =
        leads_is T same e is live m c m (x_below T same e is live m c) (same.complete _)
        ∙ ap not (any_below (with_x T same e is live m c) (λ k. together T k m (e.step + 1)) m
        (λ k l. ap (λ b. together T m k e.step && b) (same_sym _ _)
        ∙ ap (λ s. together T m k e.step && T.meanings.same (change_of T m s) (change_of T k s)) (is.state m c)
        ∙ sym (together_more T same m k e.step (goes_on_at T same e is live m c))
        ∙ ap (together T m k) (sym (add-one e.step))
        ∙ together_sym m k (e.step + 1)))

    pub parts_cost : length (parts T e) ≡ cost_of_turn (λ m n. if is_least T m (n + 1) then 1 else 0) e
    parts_cost =
        length_map (part T e) (filter (is_leader T e) e.members)
        ∙ length-filter (is_leader T e) e.members
        ∙ sum_by_where (λ m. cond (is_leader T e m) 1 0) (λ m. cond (is_least T m (e.step + 1)) 1 0) e.members (λ m c. ap (λ b. cond b 1 0) (leads_new m c))
