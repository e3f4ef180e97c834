-- What contracts see of a machine and its parts.
use Rattle.std.specs.Prelude.{ℕ, List, Option}
use Rattle.code_form.specs.declared.sign.PortSign.{PortSign}
use Rattle.code_form.specs.declared.code.Code.{Code}
use Rattle.code_form.specs.Variant.{Table}

-- what is run
pub record Run : Type 0 where
  pub code : Code
  pub table : Table

-- the ports: the sign of each, what it answers, and how often it was asked
pub record Outside : Type 0 where
  pub signs : List PortSign
  pub answers : List (List ℕ → Option ℕ)
  pub asked : List ℕ

-- a whole machine
pub record Seen : Type 0 where
  pub run : Run
  pub outside : Outside
  -- the numbers of the states out
  pub out : List ℕ
  -- the variants tried, the changes applied, and the pages of those applied and of those readied
  pub tried : ℕ
  pub applied : ℕ
  pub weighed : ℕ
  pub readied : ℕ

abbrev pub seen_of : Run → Outside → List ℕ → ℕ → ℕ → ℕ → ℕ → Seen
seen_of run outside out tried applied weighed readied = record {
  run = run;
  outside = outside;
  out = out;
  tried = tried;
  applied = applied;
  weighed = weighed;
  readied = readied;
}
