-- Where the instructions, blocks and functions of a code stand.
use Rattle.std.specs.Prelude.{ℕ, ◌+◌, suc, Bool, true, false, ◌&&◌, ◌||◌, nat_le, nat_lt, if◌then◌else◌, List, [], ◌∷◌, take, drop, map, Option, Some, None}
use Rattle.std.specs.Prelude.{slice_get, unwrap_or}
use Rattle.std.specs.Option.{option_map}
use Rattle.code_form.specs.declared.instr.Instr.{Instr}
use Rattle.code_form.specs.declared.instr.Instr.TheVariants.{Phi, Jump, Branch, Switch, Ret, Unreachable, Alloca}
use Rattle.code_form.specs.declared.code.Block.{Block}
use Rattle.code_form.specs.declared.code.Func.{Func}
use Rattle.code_form.specs.declared.code.Code.{Code}

abbrev pub no_function : Func
no_function = record { name = []; params = []; result = None; registers = 0; types = []; blocks = [] }

abbrev pub no_block : Block
no_block = record { first = 0; len = 0 }

-- the function with a number
abbrev pub function_at : Code → ℕ → Func
function_at code f = unwrap_or (slice_get code.funcs f) no_function

-- the instruction of a place, as the module has it
abbrev pub instr_at : Code → ℕ → Instr
instr_at code at = unwrap_or (slice_get code.instrs at) Unreachable

-- the register that the instruction of a place writes
abbrev pub result_at : Code → ℕ → Option ℕ
result_at code at = unwrap_or (slice_get code.results at) None

-- the place lies in the block
abbrev pub lies_in : ℕ → Block → Bool
lies_in at b = nat_le b.first at && nat_lt at (b.first + b.len)

-- the place lies in one of the blocks
abbrev pub lies_in_some : ℕ → List Block → Bool
lies_in_some at [] = false
lies_in_some at (b ∷ rest) = lies_in at b || lies_in_some at rest

-- the number of the block in which a place lies
abbrev pub block_in : List Block → ℕ → Option ℕ
block_in [] at = None
block_in (b ∷ rest) at = if lies_in at b then Some 0 else option_map suc (block_in rest at)

-- the function in which a place lies
abbrev pub function_in : List Func → ℕ → Func
function_in [] at = no_function
function_in (f ∷ rest) at = if lies_in_some at f.blocks then f else function_in rest at

-- the function of a place
abbrev pub function_of : Code → ℕ → Func
function_of code at = function_in code.funcs at

-- the block with a number in the function of a place
abbrev pub block_of : Code → ℕ → ℕ → Block
block_of code at b = unwrap_or (slice_get (function_of code at).blocks b) no_block

-- where a function begins
abbrev pub begins_at : Code → ℕ → ℕ
begins_at code f = (unwrap_or (slice_get (function_at code f).blocks 0) no_block).first

-- the instructions of a block, and the registers that they write
abbrev pub instrs_of : Code → Block → List Instr
instrs_of code b = take b.len (drop b.first code.instrs)

abbrev pub results_of : Code → Block → List (Option ℕ)
results_of code b = take b.len (drop b.first code.results)

abbrev pub is_phi : Instr → Bool
is_phi (Phi entries) = true
is_phi _ = false

abbrev pub is_alloca : Instr → Bool
is_alloca (Alloca size align count) = true
is_alloca _ = false

abbrev pub is_terminator : Instr → Bool
is_terminator (Jump b) = true
is_terminator (Branch c b d) = true
is_terminator (Switch w a other cases) = true
is_terminator (Ret a) = true
is_terminator Unreachable = true
is_terminator _ = false

-- the blocks that an instruction may go to
abbrev pub labels_of : Instr → List ℕ
labels_of (Jump b) = b ∷ []
labels_of (Branch c b d) = b ∷ d ∷ []
labels_of (Switch w a other cases) = other ∷ map (λ c. c.1) cases
labels_of _ = []
