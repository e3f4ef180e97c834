-- States that are out at a machine.
--     AreForksOf old s new states     the machine went from old to new by forks of s: each of these states is out, they stand for what s stood for,
--                                     and their numbers went out
--     AreLeftOf old all new rest      of the states with the numbers all, these are left, and the others were released
--     IsReleased old new n            of the states that were out, that with the number n is out no longer, and the others stand for what they did
--     IsBack old new s t              the state s came back as t: it has the same number and stands for the same, and the same states are out
use Rattle.std.specs.Prelude.{◌≡◌, ℕ, List, map, [], ◌∷◌, ◌++◌, nat_eq}
use Rattle.std.specs.List.{All, IsDistinct}
use Rattle.std.specs.List.Sorted.{IsPermutation}
use Rattle.traces.specs.View.{View, Keeps}

module _ {M S W C : Type 0} (V : View M S W C) where
  pub record AreForksOf (old : M) (s : S) (new : M) (states : List S) : Type 0 where
    pub out : All (V.is_out new) states
    pub stand : All (λ t. V.stands new t ≡ V.stands old s) states
    pub numbers : IsPermutation (map V.number states ++ V.out_numbers old) (V.out_numbers new)

  pub record AreLeftOf (old : M) (all : List ℕ) (new : M) (rest : List S) : Type 0 where
    pub out : All (V.is_out new) rest
    pub distinct : IsDistinct nat_eq (map V.number rest)
    pub gone : List ℕ
    pub all_are : all ≡ map V.number rest ++ gone
    pub numbers : IsPermutation (V.out_numbers old) (gone ++ V.out_numbers new)
    pub keeps : Keeps V old new all

  pub record IsReleased (old new : M) (n : ℕ) : Type 0 where
    pub numbers : IsPermutation (V.out_numbers old) (n ∷ V.out_numbers new)
    pub keeps : Keeps V old new (n ∷ [])

  pub record IsBack (old new : M) (s t : S) : Type 0 where
    pub number : V.number t ≡ V.number s
    pub out : V.is_out new t
    pub stands : V.stands new t ≡ V.stands old s
    pub numbers : IsPermutation (V.out_numbers old) (V.out_numbers new)
    pub keeps : Keeps V old new (V.number s ∷ [])
