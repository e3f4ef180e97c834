-- Plans of a turn: members and the change that they make.
use Rattle.std.specs.Prelude.{◌≡◌, ℕ, ◌+◌, ◌==◌, true, if◌then◌else◌, List, map, [], ◌∷◌, ◌++◌, nat_eq, slice_index}
use Rattle.std.specs.List.{sum_by, filter, All, Contains, IsDistinct}
use Rattle.std.specs.List.Sorted.{IsPermutation}
use Rattle.code_form.specs.Variant.{Table, variant_of}
use Rattle.traces.specs.Meanings.{Meanings}
use Rattle.traces.specs.Trace.{Trial, change_of}
use Rattle.traces.specs.Configuration.{Execution, same_change, is_leader}
use Rattle.traces.specs.View.{View, Keeps}
use Rattle.exec_core.specs.Children.{IsReadied, numbers_of}
use Rattle.exec_core.specs.declared.divide.Child.{Child}
use Rattle.exec_core.specs.declared.plan.Plan.{Plan}

module _ {S C : Type 0} where
  abbrev pub planned_of : Child S C → List ℕ × C
  planned_of p = (p.members, p.change)

  abbrev pub states_of : List (Child S C) → List S
  states_of ps = map (λ p. p.state) ps

abbrev pub plans_of : {C : Type 0} → List (Plan C) → List (List ℕ × C)
plans_of ps = map (λ p. (p.members, p.change)) ps

abbrev pub plan_weights : {C : Type 0} → (C → ℕ) → List (List ℕ × C) → ℕ
plan_weights weight ps = sum_by (λ p. weight p.1) ps

-- the state became readied children, one for each plan
pub record ArePrepared {M S W C : Type 0} (V : View M S W C) (old : M) (own : S) (new : M) (plans : List (List ℕ × C))
    (children : List (Child S C)) : Type 0 where
  pub readied : All (IsReadied V new) children
  pub distinct : IsDistinct nat_eq (numbers_of V children)
  pub planned : IsPermutation plans (map planned_of children)
  pub stand : All (λ p. V.stands new p.state ≡ V.stands old own) children
  pub numbers : IsPermutation (numbers_of V children ++ V.out_numbers old) (V.number own ∷ V.out_numbers new)
  pub fresh : (k : ℕ) → Contains (V.out_numbers old) k → (Contains (V.number own ∷ []) k → ⊥) → Contains (numbers_of V children) k → ⊥
  pub keeps : Keeps V old new (V.number own ∷ [])

-- those of the changes whose number is their own index, where the first of them has the index i
abbrev pub own_firsts : {C : Type 0} → List ℕ → ℕ → List C → List C
own_firsts numbers i [] = []
own_firsts numbers i (c ∷ cs) = if slice_index numbers i == i then c ∷ own_firsts numbers (i + 1) cs else own_firsts numbers (i + 1) cs

-- for each part of an execution, in order of least member, its members and their change
abbrev pub plans_at : {S C : Type 0} → Trial S C → Execution S → List (List ℕ × C)
plans_at T e = map (λ m. (filter (same_change T e m) e.members, change_of T m e.state)) (filter (is_leader T e) e.members)

-- each variant that the table has for a mutant at a place is known there
abbrev pub KnowsTable : {S C : Type 0} → Meanings S C → Table → Type 0
KnowsTable A table = (m p : ℕ) → A.knows p (variant_of table m p) ≡ true
