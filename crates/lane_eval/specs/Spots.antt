-- Where each place of a code stands, found once for a whole run.
use Rattle.std.specs.Prelude.{◌≡◌, ℕ, ◌+◌, List, [], ◌∷◌, ◌++◌, length, Some, slice_get, replicate}
use Rattle.code_form.specs.declared.code.Block.{Block}
use Rattle.code_form.specs.declared.code.Func.{Func}
use Rattle.code_form.specs.declared.code.Code.{Code}
use Rattle.code_form.specs.Places.{block_in, function_of}
use Rattle.lane_eval.specs.declared.spots.Spot.{Spot}

-- the function of a place has this number, and the place lies in the function's block with that number
pub record IsSpot (code : Code) (at : ℕ) (spot : Spot) : Type 0 where
  pub function : slice_get code.funcs spot.function ≡ Some (function_of code at)
  pub block : block_in (function_of code at).blocks at ≡ Some spot.block

-- the spot of each place of the code
pub record AreSpots (code : Code) (spots : List Spot) : Type 0 where
  pub long : length spots ≡ length code.instrs
  pub each : (at : ℕ) (spot : Spot) → slice_get spots at ≡ Some spot → IsSpot code at spot

-- the spots of blocks of the function with a number, from the block with number b on: one for each instruction
abbrev pub spots_of_blocks : ℕ → ℕ → List Block → List Spot
spots_of_blocks f b [] = []
spots_of_blocks f b (block ∷ rest) = replicate block.len (record { function = f; block = b }) ++ spots_of_blocks f (b + 1) rest

-- the same of functions, from the one with number f on
abbrev pub spots_of_functions : ℕ → List Func → List Spot
spots_of_functions f [] = []
spots_of_functions f (function ∷ rest) = spots_of_blocks f 0 function.blocks ++ spots_of_functions (f + 1) rest
