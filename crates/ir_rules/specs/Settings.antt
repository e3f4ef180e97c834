-- What an item is judged by: the definitions of its module and of its function, and what stands before it.
use Rattle.std.specs.Prelude.{ℕ, suc, ◌-◌, List, [], ◌∷◌, ◌++◌, length, take, drop, map, Option, Some, None}
use Rattle.code_form.specs.declared.code.TyScalar.{TyScalar}
use Rattle.code_form.specs.declared.sign.PortSign.{PortSign}
use Rattle.ir_tree.specs.declared.name.Name.{Name}
use Rattle.ir_tree.specs.declared.item.Item.{Item}
use Rattle.ir_tree.specs.declared.item.Item.TheVariants as item
use Rattle.ir_names.specs.Names.{defined}
use Rattle.ir_rules.specs.declared.entity.Entity.{Entity}
use Rattle.ir_rules.specs.declared.local.Local.{Local}
use Rattle.ir_rules.specs.declared.scope.Scope.{Scope}
use Rattle.ir_rules.specs.Types.{TypeDefs, type_defs, kind_of, Kinds, result_kind}
use Rattle.ir_rules.specs.Scopes.{empty_scope, with_item, scope_of}
use Rattle.ir_rules.specs.Parts.{branch_labels}
use Rattle.ir_rules.specs.Entities.{entities_of}

-- a branch: the block in which it stands, and a label that it may go to
abbrev pub Edge : Type 0
Edge = ℕ × Name

pub record Setting : Type 0 where
  -- the type definitions of the module, the integers and pointers that its types stand for, its global names, and the ports that are handed in
  pub types : TypeDefs
  pub kind : Kinds
  pub entities : List (Name × Entity)
  pub signs : List PortSign
  -- what the whole function defines, its branches and its result; an item outside of all functions has none
  pub function : Scope
  pub edges : List Edge
  pub result : Option (Option TyScalar)
  -- the items of the module before this one, and what those of its function define
  pub above : List Item
  pub before : Scope

abbrev pub local_of : Setting → Name → Option Local
local_of s n = defined s.function.table n

abbrev pub entity_of : Setting → Name → Option Entity
entity_of s n = defined s.entities n

-- ---- the function of an item

-- the items of a function, from its head to its end
abbrev pub upto_end : List Item → List Item
upto_end [] = []
upto_end (item.End ∷ more) = item.End ∷ []
upto_end (x ∷ more) = x ∷ upto_end more

-- where the function begins that is open behind some items, which are numbered from `at`
abbrev pub open_from : ℕ → Option ℕ → List Item → Option ℕ
open_from at last [] = last
open_from at last (item.Head n t ps ∷ more) = open_from (suc at) (Some at) more
open_from at last (item.End ∷ more) = open_from (suc at) None more
open_from at last (x ∷ more) = open_from (suc at) last more

-- where the function begins in which an item stands; a head stands in the function that it begins
abbrev pub head_of : List Item → ℕ → Item → Option ℕ
head_of items i (item.Head n t ps) = Some i
head_of items i x = open_from 0 None (take i items)

-- the items of the function that begins there, and those of them before an item; none outside of all functions
abbrev pub function_items : List Item → Option ℕ → List Item
function_items items None = []
function_items items (Some h) = upto_end (drop h items)

abbrev pub items_before : List Item → ℕ → Option ℕ → List Item
items_before items i None = []
items_before items i (Some h) = take (i - h) (drop h items)

-- the type of a function's result
abbrev pub result_of : Kinds → List Item → Option (Option TyScalar)
result_of kind (item.Head n t ps ∷ more) = result_kind kind t
result_of kind _ = None

-- ---- branches

-- the block in which the last instruction stands
abbrev pub last_block : Scope → ℕ
last_block s = length s.starts - 1

abbrev pub edges_at : Scope → Item → List Edge
edges_at after (item.Instr r o) = map (λ n. (last_block after, n)) (branch_labels o)
edges_at after _ = []

-- the branches of items that stand behind what a scope has
abbrev pub edges_from : Kinds → Scope → List Item → List Edge
edges_from kind before [] = []
edges_from kind before (x ∷ xs) = let after = with_item kind before x in edges_at after x ++ edges_from kind after xs

abbrev pub edges_of : Kinds → List Item → List Edge
edges_of kind items = edges_from kind empty_scope items

-- ---- the setting of item i

abbrev pub setting_in : List Item → List PortSign → ℕ → Option ℕ → Setting
setting_in items signs i head =
    let defs = type_defs items in
    let kind = kind_of defs in
    let function = function_items items head in
    record {
      types = defs;
      kind = kind;
      entities = entities_of kind items;
      signs = signs;
      function = scope_of kind function;
      edges = edges_of kind function;
      result = result_of kind function;
      above = take i items;
      before = scope_of kind (items_before items i head);
    }

abbrev pub setting_of : List Item → List PortSign → ℕ → Item → Setting
setting_of items signs i x = setting_in items signs i (head_of items i x)
