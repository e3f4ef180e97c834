-- Settings with no more than what a rule asks for.
use Rattle.std.specs.Prelude.{[], None}
use Rattle.ir_rules.specs.Types.{TypeDefs, Kinds, kind_of}
use Rattle.ir_rules.specs.Scopes.{empty_scope}
use Rattle.ir_rules.specs.Settings.{Setting}

-- with the integers and pointers that types stand for alone
abbrev pub kinds_alone : Kinds → Setting
kinds_alone kind = record {
  types = [];
  kind = kind;
  entities = [];
  signs = [];
  function = empty_scope;
  edges = [];
  result = None;
  above = [];
  before = empty_scope;
}

-- with the type definitions alone
abbrev pub types_alone : TypeDefs → Setting
types_alone defs = record (kinds_alone (kind_of defs)) { types = defs }
