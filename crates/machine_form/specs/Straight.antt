-- The changes of the instructions that go on at the next place or end the run, and what they are made of: operands and memory.
use Rattle.std.specs.Prelude.{ℕ, ◌+◌, ◌*◌, ◌/◌, ◌%◌, ◌^◌, suc, zero, Bool, false, ◌==◌, ◌&&◌, nat_lt, nat_le, if◌then◌else◌, List, [], ◌∷◌, Option, Some, None}
use Rattle.std.specs.Prelude.{Result, Ok, Err, slice_index, slice_range, ℤ, pos, ◌+ℤ◌, ◌*ℤ◌}
use Rattle.am_base.specs.declared.limits.TheConstants.{FIRST_ADDRESS, MEMORY_BYTES}
use Rattle.am_base.specs.declared.word.Width.{Width}
use Rattle.am_base.specs.declared.outcome.Ending.{Ending}
use Rattle.am_base.specs.declared.outcome.Ending.TheVariants.{Trap as Trapped}
use Rattle.am_base.specs.declared.outcome.Trap.{Trap}
use Rattle.am_base.specs.declared.outcome.Trap.TheVariants.{AddressRange, ConstantWrite, UnsetRegister, MemoryFull}
use Rattle.am_base.specs.Word.{bits_of, signed}
use Rattle.code_form.specs.Layout.{bytes_of, round_up}
use Rattle.code_form.specs.declared.instr.Operand.{Operand}
use Rattle.code_form.specs.declared.instr.Operand.TheVariants.{Reg, Word}
use Rattle.code_form.specs.declared.code.Code.{Code}
use Rattle.machine_form.specs.declared.change.Change.{Change}
use Rattle.machine_form.specs.declared.change.Control.TheVariants.{Next, End}
use Rattle.machine_form.specs.State.{State, register}

-- ---- the parts

-- the run ends, and nothing else changes
abbrev pub end_change : State → Ending → Change
end_change s ending = record { writes = []; bytes = []; top = s.top; put = None; took = false; control = End ending }

abbrev pub trap_change : State → Trap → Change
trap_change s trap = end_change s (Trapped trap)

-- the write of the word, where the instruction has a result register
abbrev pub write_of : Option ℕ → ℕ → List (ℕ × ℕ)
write_of None word = []
write_of (Some r) word = (r, word) ∷ []

-- an instruction with this word as its result: the run goes on at the next place
abbrev pub word_change : State → Option ℕ → ℕ → Change
word_change s r word = record { writes = write_of r word; bytes = []; top = s.top; put = None; took = false; control = Next }

abbrev pub result_change : State → Option ℕ → Result ℕ Trap → Change
result_change s r (Ok word) = word_change s r word
result_change s r (Err trap) = trap_change s trap

-- ---- operands

-- the word of an operand: None where it is a register that isn't set
abbrev pub value_of : State → Operand → Option ℕ
value_of s (Reg r) = register s.running.registers r
value_of s (Word word) = Some word

abbrev pub joined : {X : Type 0} → Option X → Option (List X) → Option (List X)
joined None rest = None
joined (Some x) None = None
joined (Some x) (Some xs) = Some (x ∷ xs)

-- the words of several operands: None where one of them isn't set
abbrev pub values_of : State → List Operand → Option (List ℕ)
values_of s [] = Some []
values_of s (a ∷ rest) = joined (value_of s a) (values_of s rest)

-- the change made of what was read, or the trap of an unset register
abbrev pub with_value : {X : Type 0} → State → Option X → (X → Change) → Change
with_value s None go = trap_change s UnsetRegister
with_value s (Some x) go = go x

-- ---- memory

-- the number that some bytes encode, the lowest byte first
abbrev pub number_of : List ℕ → ℕ
number_of [] = 0
number_of (b ∷ bs) = b + 256 * number_of bs

-- the `k` lowest bytes of a number, the lowest byte first
abbrev pub bytes_from : ℕ → ℕ → List ℕ
bytes_from zero n = []
bytes_from (suc k) n = n % 256 ∷ bytes_from k (n / 256)

-- whether all bytes of an access lie at or above the first address and below the stack top
abbrev pub is_in_range : State → ℕ → ℕ → Bool
is_in_range s address len = nat_le FIRST_ADDRESS address && nat_le (address + len) s.top

-- the bytes of `new`, written from an address on, that differ from the memory's, each with its address
abbrev pub differing : List ℕ → ℕ → List ℕ → List (ℕ × ℕ)
differing bytes address [] = []
differing bytes address (b ∷ new) =
    let rest = differing bytes (address + 1) new in
    if (slice_index bytes address == b) then rest else ((address, b) ∷ rest)

abbrev pub load_change : State → Option ℕ → Width → ℕ → Change
load_change s r w address =
    if is_in_range s address (bytes_of w)
    then word_change s r (number_of (slice_range s.bytes address (address + bytes_of w)) % 2 ^ bits_of w)
    else trap_change s AddressRange

abbrev pub store_change : Code → State → Width → ℕ → ℕ → Change
store_change code s w word address =
    if is_in_range s address (bytes_of w)
    then (if nat_lt address code.const_end
    then trap_change s ConstantWrite
    else record { writes = []; bytes = differing s.bytes address (bytes_from (bytes_of w) word); top = s.top; put = None; took = false; control = Next })
    else trap_change s AddressRange

-- `alloca`: the stack grows by `count` values of a size, from the next multiple of the alignment on. It traps where the memory is too small
abbrev pub alloca_change : State → Option ℕ → ℕ → ℕ → ℕ → Change
alloca_change s r size align count =
    let address = round_up s.top align in
    if nat_le (address + size * count) MEMORY_BYTES
    then record { writes = write_of r address; bytes = []; top = address + size * count; put = None; took = false; control = Next }
    else trap_change s MemoryFull

-- the sum of the indices of a `getelementptr`, each signed in its width and scaled
abbrev pub scaled_sum : List (ℕ × Width × Operand) → List ℕ → ℤ
scaled_sum [] words = pos 0
scaled_sum (i ∷ rest) [] = pos 0
scaled_sum (i ∷ rest) (x ∷ xs) = (pos i.0 *ℤ signed i.1 x) +ℤ scaled_sum rest xs
