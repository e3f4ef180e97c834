-- What contracts see of a machine of type M with the states S, which stand for values of W, and the changes C.
--     View         meanings      what the machine does
--                  stands        what a state stands for
--                  number        the number of a state
--                  out_numbers   the numbers of the states out
--                  is_out        the state is out, and fits the machine
--                  is_ready      the state is ready for the change
--                  counts        what the machine has counted
--                  stays         from one moment to another the machine is the same in what never changes
--     IsLawful     the number of a state out is among those out, and these differ; the test of changes is equality;
--                  changes are light; `stays` is reflexive and transitive
--     Keeps        from one moment to another the meanings are the same, the machine stays, and each state out whose number isn't
--                  among those touched is out still and stands for the same
--     KeepsReady   and each such state that is ready for a change is ready for it still
--     IsLive       the state hasn't ended
--     AreKnown     the variants are known at the place of the state
--     IsKnown      the change is the one that a known variant makes in the state
use Rattle.std.specs.Prelude.{◌≡◌, ℕ, true, false, List, nat_eq}
use Rattle.std.specs.List.{All, Contains, IsDistinct}
use Rattle.traces.specs.Meanings.{Meanings, IsSameTest, IsLight}
use Rattle.traces.specs.Counts.{Counts}

pub record View (M S W C : Type 0) : Type 1 where
  pub meanings : M → Meanings W C
  pub stands : M → S → W
  pub number : S → ℕ
  pub out_numbers : M → List ℕ
  pub is_out : M → S → Type 0
  pub is_ready : M → S → C → Type 0
  pub counts : M → Counts
  pub stays : M → M → Type 0

abbrev pub AreKnown : {W C : Type 0} → Meanings W C → W → List ℕ → Type 0
AreKnown A w variants = All (λ v. A.knows (A.place w) v ≡ true) variants

pub record IsKnown {W C : Type 0} (A : Meanings W C) (w : W) (c : C) : Type 0 where
  pub variant : ℕ
  pub knows : A.knows (A.place w) variant ≡ true
  pub is : c ≡ A.next variant w

module _ {M S W C : Type 0} (V : View M S W C) where
  pub record IsLawful : Type 0 where
    pub among : (m : M) (s : S) → V.is_out m s → Contains (V.out_numbers m) (V.number s)
    pub distinct : (m : M) → IsDistinct nat_eq (V.out_numbers m)
    pub same : (m : M) → IsSameTest (V.meanings m)
    pub light : (m : M) → IsLight (V.meanings m)
    pub stays_refl : (m : M) → V.stays m m
    pub stays_trans : (m n o : M) → V.stays m n → V.stays n o → V.stays m o

  pub record Keeps (old new : M) (touched : List ℕ) : Type 0 where
    pub meanings : V.meanings new ≡ V.meanings old
    pub stays : V.stays old new
    pub out : (t : S) → V.is_out old t → (Contains touched (V.number t) → ⊥) → V.is_out new t
    pub stands : (t : S) → V.is_out old t → (Contains touched (V.number t) → ⊥) → V.stands new t ≡ V.stands old t

  pub record KeepsReady (old new : M) (touched : List ℕ) : Type 0 where
    pub ready : (t : S) (d : C) → V.is_out old t → (Contains touched (V.number t) → ⊥) → V.is_ready old t d → V.is_ready new t d

  abbrev pub IsLive : M → S → Type 0
  IsLive m s = (V.meanings m).ended (V.stands m s) ≡ false
