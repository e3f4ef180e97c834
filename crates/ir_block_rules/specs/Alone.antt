-- Settings with no more than what a rule asks for.
use Rattle.std.specs.Prelude.{List, [], Option, None}
use Rattle.code_form.specs.declared.code.TyScalar.{TyScalar}
use Rattle.ir_tree.specs.declared.name.Name.{Name}
use Rattle.ir_rules.specs.declared.local.Local.{Local}
use Rattle.ir_rules.specs.declared.scope.Scope.{Scope}
use Rattle.ir_rules.specs.Types.{Kinds}
use Rattle.ir_rules.specs.Scopes.{empty_scope}
use Rattle.ir_rules.specs.Settings.{Setting}

-- without definitions
abbrev pub nothing : Setting
nothing = record {
  types = [];
  kind = λ t. None;
  entities = [];
  signs = [];
  function = empty_scope;
  edges = [];
  result = None;
  above = [];
  before = empty_scope;
}

-- with the names of the function alone
abbrev pub locals_alone : List (Name × Local) → Setting
locals_alone table = record nothing { function = record empty_scope { table = table } }

-- with what the items before in the function define alone
abbrev pub scope_alone : Scope → Setting
scope_alone before = record nothing { before = before }

-- with the integers and pointers that types stand for alone
abbrev pub kinds_alone : Kinds → Setting
kinds_alone kind = record nothing { kind = kind }

-- with those and the type of the function's result alone
abbrev pub result_alone : Kinds → Option (Option TyScalar) → Setting
result_alone kind result = record nothing { kind = kind; result = result }
