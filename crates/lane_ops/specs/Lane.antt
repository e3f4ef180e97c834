-- What a lane of each kernel has.
use Rattle.std.specs.Prelude.{ℕ, ◌-◌, ◌^◌, if◌then◌else◌, Result, Ok, Err, bit_and}
use Rattle.am_base.specs.declared.word.Width.{Width}
use Rattle.am_base.specs.declared.word.BinOp.{BinOp}
use Rattle.am_base.specs.declared.word.Pred.{Pred}
use Rattle.am_base.specs.declared.outcome.Trap.{Trap}
use Rattle.am_base.specs.Outcome.{trap_number}
use Rattle.am_base.specs.Word.{binary_of, compare_of}

-- the word of a result, or 0 where it is a trap
abbrev pub word_or_zero : Result ℕ Trap → ℕ
word_or_zero (Ok word) = word
word_or_zero (Err trap) = 0

-- the number of the trap, or 0 where the result is a word
abbrev pub trap_or_zero : Result ℕ Trap → ℕ
trap_or_zero (Ok word) = 0
trap_or_zero (Err trap) = trap_number trap

-- what the lane of words and the lane of traps have of an operation
abbrev pub lane_word : BinOp → Width → ℕ → ℕ → ℕ
lane_word op w x y = word_or_zero (binary_of op w x y)

abbrev pub lane_trap : BinOp → Width → ℕ → ℕ → ℕ
lane_trap op w x y = trap_or_zero (binary_of op w x y)

-- 1 where the comparison holds, and else 0
abbrev pub lane_compare : Pred → Width → ℕ → ℕ → ℕ
lane_compare p w x y = if compare_of p w x y then 1 else 0

-- the bits that are set in the first word and not in the second
abbrev pub and_not : ℕ → ℕ → ℕ
and_not x y = bit_and x (2 ^ 64 - 1 - y)
