-- How the code and the cases of the example are put together.
use Rattle.std.specs.Prelude.{ℕ, List, [], ◌∷◌, length, Option}
use Rattle.am_base.specs.declared.limits.TheConstants.{FIRST_ADDRESS}
use Rattle.code_form.specs.declared.instr.Instr.{Instr}
use Rattle.code_form.specs.declared.code.Block.{Block}
use Rattle.code_form.specs.declared.code.TyScalar.{TyScalar}
use Rattle.code_form.specs.declared.code.Func.{Func}
use Rattle.code_form.specs.declared.code.Code.{Code}
use Rattle.code_form.specs.declared.case.Case.{Case}

-- a function whose name has one letter
abbrev pub func_of : ℕ → List TyScalar → Option TyScalar → List TyScalar → List Block → Func
func_of name params result types blocks = record {
  name = name ∷ [];
  params = params;
  result = result;
  registers = length types;
  types = types;
  blocks = blocks;
}

abbrev pub block_of : ℕ → ℕ → Block
block_of first len = record { first = first; len = len }

-- a code without globals, whose opening bytes are these
abbrev pub code_of : List Func → List Instr → List (Option ℕ) → List ℕ → Code
code_of funcs instrs results memory = record {
  funcs = funcs;
  instrs = instrs;
  results = results;
  memory = memory;
  const_end = FIRST_ADDRESS;
  stack_base = FIRST_ADDRESS;
  signs = [];
}

-- a call of one of the functions
abbrev pub case_of : ℕ → List ℕ → List ℕ → ℕ → Case
case_of function args input budget = record { function = function; args = args; input = input; budget = budget }
