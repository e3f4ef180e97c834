-- The functions and the instructions of a code, one item after another.
use Rattle.std.specs.Prelude.{◌≡◌, ℕ, ◌+◌, ◌<◌, ◌≤◌, ◌^◌, true, List, [], ◌∷◌, ◌++◌, length, Option, All}
use Rattle.type_layout.specs.Layout.{round_up}
use Rattle.code_form.specs.declared.code.Code.{Code}
use Rattle.code_form.specs.declared.instr.Instr.{Instr}
use Rattle.code_form.specs.declared.sign.PortSign.{PortSign}
use Rattle.ir_tree.specs.declared.name.Name.{Name}
use Rattle.ir_tree.specs.declared.type_text.TyText.{TyText}
use Rattle.ir_tree.specs.declared.op.Op.{Op}
use Rattle.ir_tree.specs.declared.item.Item.{Item}
use Rattle.ir_tree.specs.declared.item.Item.TheVariants as item
use Rattle.ir_rules.specs.declared.scope.Scope.{Scope}
use Rattle.ir_names.specs.Names.{defined}
use Rattle.ir_rules.specs.Types.{TypeDefs}
use Rattle.ir_rules.specs.Scopes.{has_value, value_register}
use Rattle.ir_rules.specs.Codes.{op_code, register_of}
use Rattle.ir_rules.specs.Blocks.{block_number}
use Rattle.ir_rules.specs.Modules.{function_code}
use Rattle.ir_op_codes.specs.Alone.{code_alone}
use Rattle.ir_op_codes.specs.Settings.{OpFits}
use Rattle.ir_pass.specs.declared.frame.Frame.{Frame}
use Rattle.ir_memory.specs.declared.places.Places.{Places}
use Rattle.ir_module.specs.declared.parts.Parts.{Parts}
use Rattle.ir_module.specs.declared.tables.Tables.{Tables}

abbrev pub no_parts : Parts
no_parts = record { funcs = []; instrs = []; results = [] }

-- ---- one item more

abbrev pub with_function : TypeDefs → Parts → Scope → Name → TyText → List (TyText × Option Name) → Parts
with_function defs p scope n t ps = record p { funcs = p.funcs ++ function_code defs (length p.instrs) n t ps scope ∷ [] }

abbrev pub with_instruction : Parts → Instr → Option ℕ → Parts
with_instruction p i register = record p { instrs = p.instrs ++ i ∷ []; results = p.results ++ register ∷ [] }

-- an instruction of a function, by what the names of the module stand for
abbrev pub code_in : TypeDefs → Tables → Frame → Op → Instr
code_in defs t f o = op_code (code_alone defs f.function.table t.entities.now t.ports.now) t.addresses.now o

abbrev pub with_code : TypeDefs → Tables → Parts → Frame → Item → Parts
with_code defs t p f (item.Head n ty ps) = with_function defs p f.function n ty ps
with_code defs t p f (item.Instr r o) = with_instruction p (code_in defs t f o) (value_register f.before o)
with_code defs t p f _ = p

-- the code that has these parts, this memory, and globals in these places
abbrev pub with_memory : Parts → List ℕ → Places → List PortSign → Code
with_memory p memory places signs = record {
  funcs = p.funcs;
  instrs = p.instrs;
  results = p.results;
  memory = memory;
  const_end = places.const_end;
  stack_base = round_up places.end 16;
  signs = signs;
}

-- ---- what has a code

-- the names of a function stand for registers and blocks that a code can number
pub record IsSmall (s : Scope) : Type 0 where
  pub registers : (n : Name) → register_of (defined s.table n) < 2 ^ 32
  pub blocks : (n : Name) → block_number (defined s.table n) < 2 ^ 32

-- a code can number the registers, the blocks and the instructions of a function that begins at a place
pub record HasRoom (at : ℕ) (s : Scope) : Type 0 where
  pub room : at + length s.results < 2 ^ 32
  pub registers : length s.types < 2 ^ 32
  pub within : All (λ start. start ≤ length s.results) s.starts

pub record IsCodable (defs : TypeDefs) (f : Frame) (o : Op) : Type 0 where
  pub fits : OpFits defs o
  pub register : has_value o ≡ true → length f.before.types < 2 ^ 32
  pub small : IsSmall f.function

abbrev pub CanCode : TypeDefs → Parts → Frame → Item → Type 0
CanCode defs p f (item.Head n t ps) = HasRoom (length p.instrs) f.function
CanCode defs p f (item.Instr r o) = IsCodable defs f o
CanCode defs p f _ = Unit {0}
