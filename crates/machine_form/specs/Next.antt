-- The change that an instruction makes in a state that has no ending (LLVM Language Reference, "Instruction Reference"; the traps
-- are this project's own).
use Rattle.std.specs.Prelude.{ℕ, ◌+◌, ◌==◌, if◌then◌else◌, List, map, Option, Some, None, pos, ◌+ℤ◌}
use Rattle.am_base.specs.declared.word.BinOp.{BinOp}
use Rattle.am_base.specs.declared.word.Pred.{Pred}
use Rattle.am_base.specs.declared.word.Cast.{Cast as Conversion}
use Rattle.am_base.specs.declared.word.Width.{Width}
use Rattle.am_base.specs.declared.word.Width.TheVariants.{W64}
use Rattle.am_base.specs.declared.outcome.Trap.TheVariants.{Unreachable as NotReached}
use Rattle.am_base.specs.Word.{word_of, binary_of, compare_of, convert_of}
use Rattle.code_form.specs.declared.instr.Operand.{Operand}
use Rattle.code_form.specs.declared.instr.Instr.{Instr}
use Rattle.code_form.specs.declared.instr.Instr.TheVariants.{Bin, Cmp, Select, Cast, Freeze, Alloca, Load, Store, Get, Phi, Call, Jump, Branch, Switch, Ret}
use Rattle.code_form.specs.declared.instr.Instr.TheVariants.{Unreachable}
use Rattle.code_form.specs.declared.code.Code.{Code}
use Rattle.machine_form.specs.declared.change.Change.{Change}
use Rattle.machine_form.specs.State.{State}
use Rattle.machine_form.specs.Straight.{trap_change, word_change, result_change, value_of, values_of, with_value, load_change, store_change, alloca_change}
use Rattle.machine_form.specs.Straight.{scaled_sum}
use Rattle.machine_form.specs.Edge.{jump_change, case_of}
use Rattle.machine_form.specs.Calls.{Answers, call_change, return_change}

-- ---- instructions without memory; `r` is the result register, if the instruction has one

abbrev pub bin_change : State → Option ℕ → BinOp → Width → Operand → Operand → Change
bin_change s r op w a b = with_value s (value_of s a) (λ x. with_value s (value_of s b) (λ y. result_change s r (binary_of op w x y)))

abbrev pub cmp_change : State → Option ℕ → Pred → Width → Operand → Operand → Change
cmp_change s r p w a b = with_value s (value_of s a) (λ x. with_value s (value_of s b) (λ y. word_change s r (if compare_of p w x y then 1 else 0)))

abbrev pub select_change : State → Option ℕ → Operand → Operand → Operand → Change
select_change s r c a b =
    with_value s (value_of s c) (λ k. with_value s (value_of s a) (λ x. with_value s (value_of s b) (λ y. word_change s r (if (k == 1) then x else y))))

abbrev pub cast_change : State → Option ℕ → Conversion → Width → Width → Operand → Change
cast_change s r c from to a = with_value s (value_of s a) (λ x. word_change s r (convert_of c from to x))

abbrev pub freeze_change : State → Option ℕ → Operand → Change
freeze_change s r a = with_value s (value_of s a) (λ x. word_change s r x)

-- `getelementptr`: the sum of the base, the constant offset and the scaled indices, modulo 2^64
abbrev pub get_change : State → Option ℕ → Operand → ℕ → List (ℕ × Width × Operand) → Change
get_change s r a literal indices =
    with_value s (value_of s a) (λ x. with_value s (values_of s (map (λ i. i.2) indices))
    (λ xs. word_change s r (word_of W64 (pos (x + literal) +ℤ scaled_sum indices xs))))

-- ---- returns

abbrev pub ret_change : State → Option Operand → Change
ret_change s None = return_change s s.callers None
ret_change s (Some a) = with_value s (value_of s a) (λ x. return_change s s.callers (Some x))

-- ---- all instructions; a `phi` is read on the edge to its block, and never runs by itself

abbrev pub next_of : Code → Answers → State → Option ℕ → Instr → Change
next_of code answers s r (Bin op w a b) = bin_change s r op w a b
next_of code answers s r (Cmp p w a b) = cmp_change s r p w a b
next_of code answers s r (Select c a b) = select_change s r c a b
next_of code answers s r (Cast c from to a) = cast_change s r c from to a
next_of code answers s r (Freeze a) = freeze_change s r a
next_of code answers s r (Alloca size align count) = with_value s (value_of s count) (λ n. alloca_change s r size align n)
next_of code answers s r (Load w a) = with_value s (value_of s a) (λ address. load_change s r w address)
next_of code answers s r (Store w a b) = with_value s (value_of s a) (λ x. with_value s (value_of s b) (λ address. store_change code s w x address))
next_of code answers s r (Get a literal indices) = get_change s r a literal indices
next_of code answers s r (Phi entries) = trap_change s NotReached
next_of code answers s r (Call callee args) = with_value s (values_of s args) (λ xs. call_change code answers s r callee xs)
next_of code answers s r (Jump b) = jump_change code s b
next_of code answers s r (Branch c b d) = with_value s (value_of s c) (λ k. jump_change code s (if (k == 1) then b else d))
next_of code answers s r (Switch w a other cases) = with_value s (value_of s a) (λ x. jump_change code s (case_of cases x other))
next_of code answers s r (Ret a) = ret_change s a
next_of code answers s r Unreachable = trap_change s NotReached
