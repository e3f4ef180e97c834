-- The classes of the mutants at a step, and the text that shows them.
--     leads m        the trace of m has n changes, and no lower mutant is together with m there
--     classes_at     for each such m, rising, the mutants that are together with it there
--     shorter_than   the mutants whose traces have fewer changes, rising
--     shown_at       a line `group,MEMBERS` for each class, and the line `short,MEMBERS` of the others
--     InOne          two mutants are in one of these lists
use Rattle.std.specs.Prelude.{ℕ, nat_le, nat_lt, Bool, ◌&&◌, List, [], ◌∷◌, ◌++◌, codes, flat_map, length, map}
use Rattle.std.specs.List.{filter, Contains}
use Rattle.traces.specs.Trace.{Trial, trace}
use Rattle.traces.specs.Together.{below, class_of}
use Rattle.traces.specs.Work.{is_least}
use Rattle.line_parts.specs.Parts.{spaced}

abbrev pub group_line : List ℕ → List ℕ
group_line members = codes "group," ++ spaced members ++ 10 ∷ []

module _ {S C : Type 0} (T : Trial S C) (n : ℕ) where
  abbrev pub leads : ℕ → Bool
  leads m = nat_le n (length (trace T m)) && is_least T m n

  abbrev pub classes_at : List (List ℕ)
  classes_at = map (λ m. class_of T m n) (filter leads (below T.mutants))

  abbrev pub is_shorter : ℕ → Bool
  is_shorter m = nat_lt (length (trace T m)) n

  abbrev pub shorter_than : List ℕ
  shorter_than = filter is_shorter (below T.mutants)

  abbrev pub shown_at : List ℕ
  shown_at = flat_map group_line classes_at ++ codes "short," ++ spaced shorter_than ++ 10 ∷ []

pub record InOne (lists : List (List ℕ)) (m k : ℕ) : Type 0 where
  pub members : List ℕ
  pub there : Contains lists members
  pub member : Contains members m
  pub other : Contains members k
