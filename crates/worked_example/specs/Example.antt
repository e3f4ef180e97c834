-- The module with a sum and a comparison, as the code of this text:
--     define i32 @f(i32 %a, i32 %b) {
--       %c = add i32 %a, %b
--       %d = icmp sgt i32 %c, 10
--       %e = select i1 %d, i32 1, i32 0
--       ret i32 %e
--     }
use Rattle.std.specs.Prelude.{ℕ, List, [], ◌∷◌, Some, None}
use Rattle.am_base.specs.declared.word.Width.TheVariants.{W1, W32}
use Rattle.am_base.specs.declared.word.BinOp.{BinOp}
use Rattle.am_base.specs.declared.word.BinOp.TheVariants.{Add}
use Rattle.am_base.specs.declared.word.Pred.TheVariants.{Sgt}
use Rattle.code_form.specs.declared.instr.Operand.TheVariants.{Reg, Word}
use Rattle.code_form.specs.declared.instr.Instr.{Instr}
use Rattle.code_form.specs.declared.instr.Instr.TheVariants.{Bin, Cmp, Select, Ret}
use Rattle.code_form.specs.declared.code.TyScalar.TheVariants.{Int}
use Rattle.code_form.specs.declared.code.Func.{Func}
use Rattle.code_form.specs.declared.code.Code.{Code}
use Rattle.worked_example.specs.Codes.{func_of, block_of, code_of}

-- the first instruction, with another operation in the place of `add`
abbrev pub first_instr : BinOp → Instr
first_instr op = Bin op W32 (Reg 0) (Reg 1)

abbrev pub example_func : Func
example_func = func_of 102 (Int W32 ∷ Int W32 ∷ []) (Some (Int W32)) (Int W32 ∷ Int W32 ∷ Int W32 ∷ Int W1 ∷ Int W32 ∷ []) (block_of 0 4 ∷ [])

-- the code, with an operation in the place of `add`
abbrev pub example_with : BinOp → List ℕ → Code
example_with op =
    code_of (example_func ∷ []) (first_instr op ∷ Cmp Sgt W32 (Reg 2) (Word 10) ∷ Select (Reg 3) (Word 1) (Word 0) ∷ Ret (Some (Reg 4)) ∷ []) (Some 2 ∷ Some 3
    ∷ Some 4 ∷ None ∷ [])

abbrev pub example : List ℕ → Code
example = example_with Add
