-- An execution divided: prepared children, then applied.
use Rattle.std.proofs.Common.{◌≡◌, ℕ, ◌+◌, List, ◌∷◌, ◌++◌, length, map, sym, ◌∙◌, subst}
use Rattle.std.specs.List.Sorted.{IsPermutation}
use Rattle.std.proofs.lemmas.Simd.{map-map}
use Rattle.std.proofs.lemmas.List.Elements.{All-contains}
use Rattle.std.proofs.lemmas.List.Sorted.{IsPermutation-sym, IsPermutation-trans, IsPermutation-append_left, IsPermutation-reverse, IsPermutation-map}
use Rattle.std.proofs.lemmas.List.Sorted.{length_permutation}
use Rattle.traces.specs.View.{View, IsLawful}
use Rattle.traces.proofs.Steps.{length_map}
use Rattle.exec_core.specs.Plans.{planned_of, plans_of, ArePrepared}
use Rattle.exec_core.specs.declared.plan.Plan.{Plan}
use Rattle.exec_core.specs.Executions.{execution_of, state_numbers, applied_of, AreApplied}
use Rattle.exec_core.specs.Divided.{child_of, Divided}
use Rattle.exec_core.specs.declared.divide.Child.{Child}
use Rattle.exec_core.specs.declared.execution.Execution.{Execution as Concrete}
use Rattle.exec_core.proofs.ChildLemmas.{map_where}

pub as_many : {S C : Type 0} (plans : List (Plan C)) (rs : List (Child S C)) → IsPermutation (plans_of plans) (map planned_of rs) → length rs ≡ length plans
as_many plans rs p = sym (length_map planned_of rs) ∙ length_permutation (plans_of plans) (map planned_of rs) p ∙ length_map (λ x. (x.members, x.change)) plans

module _ {M S W C : Type 0} (V : View M S W C) (lawful : IsLawful V) (a b c : M) (e : Concrete S) (plans : List (List ℕ × C)) (rs : List (Child S C))
    (before after : List (Concrete S))
    (p : ArePrepared V a e.state b plans rs) (d : AreApplied V b c (e.step + 1) rs before after) where
  children : map (applied_of V b (e.step + 1)) rs ≡ map (child_of V a e) (map planned_of rs)
  children = map_where (applied_of V b (e.step + 1)) (λ q. child_of V a e (planned_of q)) rs
      (λ q i. let s = All-contains (λ x. V.stands b x.state ≡ V.stands a e.state) rs q p.stand i in let m = p.keeps.meanings in cc)
      ∙ sym (map-map (child_of V a e) planned_of rs)

  pub divided : Divided V a e c plans before after
  divided = record {
    made = d.made;
    added = d.added;
    out = d.applied.out;
    seen = IsPermutation-trans _ _ _ (IsPermutation-map (child_of V a e) _ _ p.planned)
        (IsPermutation-sym _ _ (subst (IsPermutation (map (execution_of V c) d.made)) (d.applied.seen ∙ children)
        (IsPermutation-reverse (map (execution_of V c) d.made))));
    numbers = subst (λ xs. IsPermutation (state_numbers V d.made ++ V.out_numbers a) (V.number e.state ∷ xs)) (sym d.applied.out_numbers)
        (IsPermutation-trans _ _ _ (IsPermutation-append_left (V.out_numbers a) _ _
        (subst (IsPermutation (state_numbers V d.made)) d.applied.numbers (IsPermutation-reverse (state_numbers V d.made))))
        p.numbers);
    keeps = record {
      meanings = d.applied.keeps.meanings ∙ p.keeps.meanings;
      stays = lawful.stays_trans a b c p.keeps.stays d.applied.keeps.stays;
      out = λ t i ne. d.applied.keeps.out t (p.keeps.out t i ne) (p.fresh _ (lawful.among a t i) ne);
      stands = λ t i ne. d.applied.keeps.stands t (p.keeps.out t i ne) (p.fresh _ (lawful.among a t i) ne) ∙ p.keeps.stands t i ne;
    };
  }
