-- What a machine does, over what its states stand for (S) and its changes (C). Any two types will do: contracts alone read them.
--     Meanings     place       the place of a state, by its number
--                  ended       whether a state has ended
--                  knows       whether a variant number is known at a place
--                  next        the change that a variant makes in a state
--                  after       the state after a change
--                  weight      the weight of a change
--                  toll        how often a variant asks a port, by its number, in a state
--                  same        whether two changes are equal
--     IsSameTest   the test of changes is equality
--     IsLight      no change that a known variant makes weighs more than 65,536, and it asks each port at most once
--     total_toll   how often these variants together ask a port in a state
use Rattle.std.specs.Prelude.{◌≡◌, ℕ, ◌≤◌, Bool, true, false, List}
use Rattle.std.specs.List.{sum_by}

pub record Meanings (S C : Type 0) : Type 0 where
  pub place : S → ℕ
  pub ended : S → Bool
  pub knows : ℕ → ℕ → Bool
  pub next : ℕ → S → C
  pub after : S → C → S
  pub weight : C → ℕ
  pub toll : ℕ → ℕ → S → ℕ
  pub same : C → C → Bool

module _ {S C : Type 0} (M : Meanings S C) where
  pub record IsSameTest : Type 0 where
    pub sound : (c d : C) → M.same c d ≡ true → c ≡ d
    pub complete : (c : C) → M.same c c ≡ true

  pub record IsLight : Type 0 where
    pub weight : (v : ℕ) (s : S) → M.ended s ≡ false → M.knows (M.place s) v ≡ true → M.weight (M.next v s) ≤ 65536
    pub toll : (p v : ℕ) (s : S) → M.ended s ≡ false → M.knows (M.place s) v ≡ true → M.toll p v s ≤ 1

  abbrev pub total_toll : ℕ → S → List ℕ → ℕ
  total_toll port s variants = sum_by (λ v. M.toll port v s) variants
