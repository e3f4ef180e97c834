-- The code of a module.
use Rattle.std.specs.Prelude.{ℕ, suc, ◌+◌, ◌-◌, List, [], ◌∷◌, map, length, Option}
use Rattle.std.specs.Option.{option_map}
use Rattle.code_form.specs.declared.code.Block.{Block}
use Rattle.code_form.specs.declared.code.Func.{Func}
use Rattle.code_form.specs.declared.code.Code.{Code}
use Rattle.code_form.specs.declared.instr.Instr.{Instr}
use Rattle.code_form.specs.declared.sign.PortSign.{PortSign}
use Rattle.ir_tree.specs.declared.name.Name.{Name}
use Rattle.ir_tree.specs.declared.type_text.TyText.{TyText}
use Rattle.ir_tree.specs.declared.item.Item.{Item}
use Rattle.ir_tree.specs.declared.item.Item.TheVariants as item
use Rattle.ir_rules.specs.declared.scope.Scope.{Scope}
use Rattle.ir_rules.specs.Types.{TypeDefs, type_defs, kind_of, result_kind}
use Rattle.ir_rules.specs.Scopes.{scope_of, value_register}
use Rattle.ir_rules.specs.Entities.{name_bytes}
use Rattle.ir_rules.specs.Settings.{setting_of, upto_end}
use Rattle.ir_rules.specs.Memory.{Addresses, addresses_of, constants_end, stack_base_of, opening_bytes}
use Rattle.ir_rules.specs.Codes.{scalar_in, op_code}

-- ---- functions

-- the blocks of a function whose instructions begin at a place, by how many instructions stand before each and by how many there are
abbrev pub blocks_from : ℕ → List ℕ → ℕ → List Block
blocks_from at [] count = []
blocks_from at (start ∷ []) count = record { first = at + start; len = count - start } ∷ []
blocks_from at (start ∷ next ∷ more) count = record { first = at + start; len = next - start } ∷ blocks_from at (next ∷ more) count

abbrev pub function_code : TypeDefs → ℕ → Name → TyText → List (TyText × Option Name) → Scope → Func
function_code defs at n t ps scope = record {
  name = name_bytes n;
  params = map (λ (p : TyText × Option Name). scalar_in (kind_of defs p.0)) ps;
  result = option_map scalar_in (result_kind (kind_of defs) t);
  registers = length scope.types;
  types = map scalar_in scope.types;
  blocks = blocks_from at scope.starts (length scope.results);
}

-- the functions of some items before which there are so many instructions
abbrev pub functions_from : TypeDefs → ℕ → List Item → List Func
functions_from defs at [] = []
functions_from defs at (item.Head n t ps ∷ more) = function_code defs at n t ps (scope_of (kind_of defs) (upto_end (item.Head n t ps ∷ more)))
    ∷ functions_from defs at more
functions_from defs at (item.Instr r o ∷ more) = functions_from defs (suc at) more
functions_from defs at (_ ∷ more) = functions_from defs at more

-- ---- instructions

-- the instructions of some items of a module, which are numbered from i
abbrev pub instrs_from : List Item → List PortSign → Addresses → ℕ → List Item → List Instr
instrs_from items signs addresses i [] = []
instrs_from items signs addresses i (item.Instr r o ∷ more) = op_code (setting_of items signs i (item.Instr r o)) addresses o
    ∷ instrs_from items signs addresses (suc i) more
instrs_from items signs addresses i (x ∷ more) = instrs_from items signs addresses (suc i) more

-- the registers that they write
abbrev pub results_from : List Item → List PortSign → ℕ → List Item → List (Option ℕ)
results_from items signs i [] = []
results_from items signs i (item.Instr r o ∷ more) = value_register (setting_of items signs i (item.Instr r o)).before o ∷ results_from items signs (suc i) more
results_from items signs i (x ∷ more) = results_from items signs (suc i) more

-- ---- the code of a module: what it is where no item breaks a rule

abbrev pub code_of : List Item → List PortSign → Code
code_of items signs =
    let defs = type_defs items in
    let addresses = addresses_of defs items in
    record {
      funcs = functions_from defs 0 items;
      instrs = instrs_from items signs addresses 0 items;
      results = results_from items signs 0 items;
      memory = opening_bytes defs items;
      const_end = constants_end defs items;
      stack_base = stack_base_of defs items;
      signs = signs;
    }
