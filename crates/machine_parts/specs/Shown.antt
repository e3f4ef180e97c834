-- What contracts see of a machine's parts.
use Rattle.std.specs.Prelude.{ℕ, List, Option}
use Rattle.code_form.specs.declared.sign.PortSign.{PortSign}
use Rattle.code_form.specs.declared.code.Code.{Code}
use Rattle.code_form.specs.Variant.{Table}

-- what is run
pub record Run : Type 0 where
  pub code : Code
  pub table : Table

-- the ports: the sign of each, what it answers, and how often it was asked
pub record Outside : Type 0 where
  pub signs : List PortSign
  pub answers : List (List ℕ → Option ℕ)
  pub asked : List ℕ
