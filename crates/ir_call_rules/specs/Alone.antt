-- Settings with no more than what a rule asks for.
use Rattle.std.specs.Prelude.{List, [], None}
use Rattle.code_form.specs.declared.sign.PortSign.{PortSign}
use Rattle.ir_tree.specs.declared.name.Name.{Name}
use Rattle.ir_rules.specs.declared.entity.Entity.{Entity}
use Rattle.ir_rules.specs.declared.local.Local.{Local}
use Rattle.ir_rules.specs.Types.{Kinds}
use Rattle.ir_rules.specs.Scopes.{empty_scope}
use Rattle.ir_rules.specs.Settings.{Setting, Edge}

-- with the integers and pointers that types stand for, the global names and the ports alone
abbrev pub calls_alone : Kinds → List (Name × Entity) → List PortSign → Setting
calls_alone kind entities signs = record {
  types = [];
  kind = kind;
  entities = entities;
  signs = signs;
  function = empty_scope;
  edges = [];
  result = None;
  above = [];
  before = empty_scope;
}

-- with the names of the function and its branches alone
abbrev pub branches_alone : List (Name × Local) → List Edge → Setting
branches_alone locals edges = record (calls_alone (λ t. None) [] []) { function = record empty_scope { table = locals }; edges = edges }
