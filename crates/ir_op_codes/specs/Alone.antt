-- Settings with no more than what the code of an instruction asks for.
use Rattle.std.specs.Prelude.{◌≡◌, ℕ, List, [], Option, Some, None}
use Rattle.code_form.specs.declared.sign.PortSign.{PortSign}
use Rattle.code_form.specs.declared.instr.Callee.{Callee}
use Rattle.ir_tree.specs.declared.name.Name.{Name}
use Rattle.ir_names.specs.Names.{defined}
use Rattle.ir_rules.specs.declared.entity.Entity.{Entity}
use Rattle.ir_rules.specs.declared.entity.Entity.TheVariants.{Defined}
use Rattle.ir_rules.specs.declared.local.Local.{Local}
use Rattle.ir_rules.specs.Types.{TypeDefs, Kinds, kind_of}
use Rattle.ir_rules.specs.Scopes.{empty_scope}
use Rattle.ir_rules.specs.Settings.{Setting, local_of, entity_of}
use Rattle.ir_rules.specs.Memory.{Addresses, address_in}
use Rattle.ir_rules.specs.Codes.{callee_code}

-- with the type definitions, the names of the function, the global names and the ports alone
abbrev pub code_alone : TypeDefs → List (Name × Local) → List (Name × Entity) → List PortSign → Setting
code_alone defs locals entities signs = record {
  types = defs;
  kind = kind_of defs;
  entities = entities;
  signs = signs;
  function = record empty_scope { table = locals };
  edges = [];
  result = None;
  above = [];
  before = empty_scope;
}

abbrev pub function_number : Option Entity → ℕ
function_number (Some (Defined k sign)) = k
function_number _ = 0

-- what a call goes to
abbrev pub callee_in : List PortSign → List (Name × Entity) → Name → Callee
callee_in signs entities f = callee_code (code_alone [] [] entities signs) f (defined entities f)

-- the two settings say the same of all that the code of an instruction asks for
pub record AreAlike (s u : Setting) : Type 0 where
  pub types : s.types ≡ u.types
  pub kinds : ◌≡◌ {A = Kinds} s.kind u.kind
  pub locals : (n : Name) → local_of s n ≡ local_of u n
  pub entities : (n : Name) → entity_of s n ≡ entity_of u n
  pub signs : s.signs ≡ u.signs

-- each name has one address in both
abbrev pub AreSame : Addresses → Addresses → Type 0
AreSame a b = (n : Name) → address_in a n ≡ address_in b n
