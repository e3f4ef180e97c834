-- Pieces of an execution: a state, members and the change that the state is to make.
--     seen V m p        the child's number, what its state stands for, its members and its change
--     IsPlanned V m     its state is out and live, and the change is one that a known variant makes there
--     IsReadied V m     and it is ready for the change
--     AreReadying       of the children all these are left and those are readied
--     IsGivenBack       of the children all the state of the last was handed out, and the states of the others were released
use Rattle.std.specs.Prelude.{◌≡◌, ℕ, List, [], ◌∷◌, map, reverse, ◌++◌, nat_eq}
use Rattle.std.specs.List.{sum_by, All, Contains, IsDistinct}
use Rattle.std.specs.List.Sorted.{IsPermutation}
use Rattle.traces.specs.Meanings.{Meanings}
use Rattle.traces.specs.View.{View, IsLive, IsKnown, Keeps}
use Rattle.exec_core.specs.declared.divide.Child.{Child}

pub record Seen (W C : Type 0) : Type 0 where
  pub number : ℕ
  pub stands : W
  pub members : List ℕ
  pub change : C

module _ {W C : Type 0} (A : Meanings W C) where
  abbrev pub weights_of : {S : Type 0} → List (Child S C) → ℕ
  weights_of ps = sum_by (λ p. A.weight p.change) ps

module _ {M S W C : Type 0} (V : View M S W C) where
  abbrev pub seen : M → Child S C → Seen W C
  seen m p = record { number = V.number p.state; stands = V.stands m p.state; members = p.members; change = p.change }

  abbrev pub numbers_of : List (Child S C) → List ℕ
  numbers_of ps = map (λ p. V.number p.state) ps

  pub record IsPlanned (m : M) (p : Child S C) : Type 0 where
    pub out : V.is_out m p.state
    pub live : IsLive V m p.state
    pub known : IsKnown (V.meanings m) (V.stands m p.state) p.change

  pub record IsReadied (m : M) (p : Child S C) : Type 0 where
    pub planned : IsPlanned m p
    pub ready : V.is_ready m p.state p.change

  -- from the moment old on the children all are readied: these are left, and those are done
  pub record AreReadying (old new : M) (all rest done : List (Child S C)) : Type 0 where
    pub planned : All (IsPlanned new) rest
    pub readied : All (IsReadied new) done
    pub seen : map (seen new) rest ++ reverse (map (seen new) done) ≡ map (seen old) all
    pub distinct : IsDistinct nat_eq (numbers_of rest ++ numbers_of done)
    pub inside : (k : ℕ) → Contains (numbers_of rest) k → Contains (numbers_of all) k
    pub out : V.out_numbers new ≡ V.out_numbers old
    pub keeps : Keeps V old new (numbers_of all)

  pub record IsGivenBack (old new : M) (all : List (Child S C)) (state : S) : Type 0 where
    pub others : List (Child S C)
    pub last : Child S C
    pub all_are : all ≡ others ++ last ∷ []
    pub is : last.state ≡ state
    pub numbers : IsPermutation (V.out_numbers old) (numbers_of others ++ V.out_numbers new)
    pub keeps : Keeps V old new (numbers_of others)
