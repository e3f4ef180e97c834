-- What contracts see of a port that answers by a pure function.
use Rattle.std.specs.Prelude.{ℕ}
use Rattle.clang_ports.specs.declared.function.PureFunction.{PureFunction}

-- the function, and how often it was asked
pub record Shown : Type 0 where
  pub function : PureFunction
  pub asks : ℕ
