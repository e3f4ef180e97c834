-- The traces of the mutants of one test.
--     Trial            a machine's meanings, the variant of each mutant at each place, the start, the budget and the number of mutants
--     within T n       the same trial with the budget n
--     change_of m s    the change that mutant m makes in the state s
--     changes_from     the changes of mutant m from the state s on, until the state has ended, but at most so many
--     trace m          the changes of mutant m from the start on, within the budget
--     state_after      the state that these changes lead to from s
--     state_at m n     the state after the first n changes of mutant m
--     AreChangesFrom   what changes_from means: at most b changes, each made by m in the state that those before it lead to, which
--                      hasn't ended; and fewer than b only where the state that they all lead to has ended
use Rattle.std.specs.Prelude.{◌≡◌, ℕ, zero, suc, ◌≤◌, ◌<◌, true, false, List, [], ◌∷◌, length, take, slice_get, Some}
use Rattle.std.specs.List.{fold}
use Rattle.traces.specs.Meanings.{Meanings}

pub record Trial (S C : Type 0) : Type 0 where
  pub meanings : Meanings S C
  pub variant : ℕ → ℕ → ℕ
  pub start : S
  pub budget : ℕ
  pub mutants : ℕ

module _ {S C : Type 0} (T : Trial S C) where
  abbrev pub within : ℕ → Trial S C
  within n = record { meanings = T.meanings; variant = T.variant; start = T.start; budget = n; mutants = T.mutants }

  abbrev pub change_of : ℕ → S → C
  change_of m s = T.meanings.next (T.variant m (T.meanings.place s)) s

  unfoldable pub changes_from : ℕ → ℕ → S → List C
  changes_from m zero s = []
  changes_from m (suc b) s =
      elim (T.meanings.ended s) [ true ↦ [] | false ↦ change_of m s ∷ changes_from m b (T.meanings.after s (change_of m s)) ]

  abbrev pub trace : ℕ → List C
  trace m = changes_from m T.budget T.start

  abbrev pub state_after : S → List C → S
  state_after s cs = fold T.meanings.after s cs

  abbrev pub state_at : ℕ → ℕ → S
  state_at m n = state_after T.start (take n (trace m))

  pub record AreChangesFrom (m b : ℕ) (s : S) (cs : List C) : Type 0 where
    pub within : length cs ≤ b
    pub live : (n : ℕ) → n < length cs → T.meanings.ended (state_after s (take n cs)) ≡ false
    pub made : (n : ℕ) → n < length cs → slice_get cs n ≡ Some (change_of m (state_after s (take n cs)))
    pub stops : length cs < b → T.meanings.ended (state_after s cs) ≡ true
