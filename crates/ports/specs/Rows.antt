-- A port that answers by a table.
use Rattle.std.specs.Prelude.{ℕ, List, [], ◌∷◌, nat_eq, Option, if◌then◌else◌, Some, None}
use Rattle.std.specs.Cmp.Lexicographic.{pointwise}
use Rattle.code_form.specs.declared.sign.PortSign.{PortSign}

-- what contracts see of such a port: the name with the parameters and the result, the rows, and how often it was asked
pub record TableValue : Type 0 where
  pub sign : PortSign
  -- arguments, with the answer to them
  pub rows : List (List ℕ × ℕ)
  pub asked : ℕ

-- the answer of the first row with these arguments
abbrev pub answer_of : List (List ℕ × ℕ) → List ℕ → Option ℕ
answer_of [] args = None
answer_of (row ∷ rows) args = if pointwise nat_eq row.0 args then Some row.1 else answer_of rows args
