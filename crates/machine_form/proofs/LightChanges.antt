-- A change writes at most eight bytes, so it lies in few pages; and an instruction asks a port at most once.
use Rattle.std.proofs.Common.{◌≡◌, ℕ, suc, ◌+◌, ◌*◌, ◌≤◌, Bool, true, false, cond, ◌&&◌, List, [], ◌∷◌, length, map, Option, Some, None, nat_eq, nat_lt, nat_le}
use Rattle.std.proofs.Common.{is_some, arith}
use Rattle.std.specs.Prelude.{slice_get, slice_index, ◌==◌, Result, Ok, Err}
use Rattle.std.proofs.lemmas.List.{length-map}
use Rattle.std.specs.Set.{is_member, unique_keys, distinct_count}
use Rattle.am_base.specs.declared.limits.TheConstants.{MAX_FRAMES, MAX_LIVE_REGISTERS, MAX_OUTPUT_BYTES, MEMORY_BYTES}
use Rattle.am_base.specs.declared.outcome.Trap.{Trap}
use Rattle.am_base.specs.declared.word.Width.{Width}
use Rattle.am_base.specs.declared.word.Width.TheVariants.{W1, W8, W16, W32, W64}
use Rattle.am_base.specs.Word.{binary_of}
use Rattle.code_form.specs.Layout.{bytes_of, round_up}
use Rattle.code_form.specs.declared.instr.Callee.{Callee}
use Rattle.code_form.specs.declared.instr.Callee.TheVariants.{Func, Port, PutChar, GetChar, Exit, Abort}
use Rattle.code_form.specs.declared.instr.Instr.{Instr}
use Rattle.code_form.specs.declared.instr.Instr.TheVariants.{Bin, Cmp, Select, Cast, Freeze, Alloca, Load, Store, Get, Phi, Call, Jump, Branch, Switch, Ret}
use Rattle.code_form.specs.declared.instr.Instr.TheVariants.{Unreachable}
use Rattle.code_form.specs.declared.code.Code.{Code}
use Rattle.code_form.specs.Places.{result_at, function_at, block_of, instrs_of, results_of}
use Rattle.code_form.specs.Variant.{Table, instr_of}
use Rattle.traces.specs.Meanings.{IsLight}
use Rattle.machine_form.specs.declared.change.Change.{Change}
use Rattle.machine_form.specs.declared.change.Control.TheVariants.{Jump as Jumps}
use Rattle.machine_form.specs.declared.frame.Frame.{Frame}
use Rattle.machine_form.specs.State.{State, frames_of, registers_in_use}
use Rattle.machine_form.specs.Straight.{value_of, values_of, with_value, result_change, differing, bytes_from, load_change, store_change, alloca_change}
use Rattle.machine_form.specs.Straight.{is_in_range}
use Rattle.machine_form.specs.Calls.{Answers, answer_change, width_of_sign, take_change, enter_change, call_change, return_change}
use Rattle.machine_form.specs.Edge.{jump_change, phi_writes, block_now}
use Rattle.machine_form.specs.Next.{next_of}
use Rattle.machine_form.specs.Pages.{page_of, pages_of}
use Rattle.machine_form.specs.Machine.{machine_of, is_port, toll_of}
use Rattle.machine_form.proofs.StraightShapes.{cond_has, length-bytes_from}

abbrev IsShort : Change → Type 0
IsShort c = length c.bytes ≤ 8

-- a list has at most as many different items as items
count_short : (xs : List ℕ) → distinct_count nat_eq xs ≤ length xs
count_short [] = omega arith
count_short (x ∷ xs) = by (is_member nat_eq xs x) (count_short xs)
  where
    by : (t : Bool) → distinct_count nat_eq xs ≤ length xs → length (cond t (unique_keys nat_eq xs) (x ∷ unique_keys nat_eq xs)) ≤ suc (length xs)
    by true h = omega (arith, h)
    by false h = omega (arith, h)

module _ (s : State) where
  value_short : {X : Type 0} (o : Option X) (go : X → Change) → ((x : X) → IsShort (go x)) → IsShort (with_value s o go)
  value_short None go h = omega arith
  value_short (Some x) go h = h x

differing_short : (bytes new : List ℕ) (at : ℕ) → length (differing bytes at new) ≤ length new
differing_short bytes [] at = omega arith
differing_short bytes (b ∷ new) at = by (slice_index bytes at == b) (differing_short bytes new (at + 1))
  where
    by : (t : Bool) → length (differing bytes (at + 1) new) ≤ length new
        → length (cond t (differing bytes (at + 1) new) ((at, b) ∷ differing bytes (at + 1) new)) ≤ suc (length new)
    by true h = omega (arith, h)
    by false h = omega (arith, h)

bytes_few : (w : Width) → bytes_of w ≤ 8
bytes_few W1 = omega arith
bytes_few W8 = omega arith
bytes_few W16 = omega arith
bytes_few W32 = omega arith
bytes_few W64 = omega arith

module _ (code : Code) (answers : Answers) (s : State) (r : Option ℕ) where
  load_short : (w : Width) (at : ℕ) → IsShort (load_change s r w at)
  load_short w at = cond_has IsShort (is_in_range s at (bytes_of w)) _ _ (λ _. omega arith) (λ _. omega arith)

  store_short : (w : Width) (x at : ℕ) → IsShort (store_change code s w x at)
  store_short w x at =
      cond_has IsShort (is_in_range s at (bytes_of w)) _ _
      (λ _. cond_has IsShort (nat_lt at code.const_end) _ _ (λ _. omega arith) (λ _. written (bytes_of w) (bytes_few w)))
      (λ _. omega arith)
    where
      written : (k : ℕ) → k ≤ 8 → length (differing s.bytes at (bytes_from k x)) ≤ 8
      written k h = omega (arith, differing_short s.bytes (bytes_from k x) at, length-bytes_from k x, h)

  alloca_short : (size align n : ℕ) → IsShort (alloca_change s r size align n)
  alloca_short size align n = cond_has IsShort (nat_le (round_up s.top align + size * n) MEMORY_BYTES) _ _ (λ _. omega arith) (λ _. omega arith)

  result_short : (x : Result ℕ Trap) → IsShort (result_change s r x)
  result_short (Ok x) = omega arith
  result_short (Err t) = omega arith

  enter_short : (f : ℕ) (xs : List ℕ) → IsShort (enter_change code s f xs)
  enter_short f xs =
      cond_has IsShort (nat_lt MAX_FRAMES (frames_of s + 1)) _ _ (λ _. omega arith)
      (λ _. cond_has IsShort (nat_lt MAX_LIVE_REGISTERS (registers_in_use s + (function_at code f).registers)) _ _ (λ _. omega arith) (λ _. omega arith))

  answer_short : (w : Option Width) (x : Option ℕ) → IsShort (answer_change s r w x)
  answer_short w None = omega arith
  answer_short None (Some x) = omega arith
  answer_short (Some w) (Some x) = omega arith

  take_short : (b : Option ℕ) → IsShort (take_change s r b)
  take_short None = omega arith
  take_short (Some b) = omega arith

  call_short : (callee : Callee) (xs : List ℕ) → IsShort (call_change code answers s r callee xs)
  call_short (Func f) xs = enter_short f xs
  call_short (Port p) xs = answer_short (width_of_sign (slice_get code.signs p)) (answers p xs)
  call_short PutChar xs = cond_has IsShort (nat_le MAX_OUTPUT_BYTES (length s.output)) _ _ (λ _. omega arith) (λ _. omega arith)
  call_short GetChar xs = take_short (slice_get s.input s.position)
  call_short Exit xs = omega arith
  call_short Abort xs = omega arith

  return_short : (callers : List Frame) (word : Option ℕ) → IsShort (return_change s callers word)
  return_short [] word = omega arith
  return_short (caller ∷ more) word = omega arith

  jump_short : (b : ℕ) → IsShort (jump_change code s b)
  jump_short b =
      let target = block_of code s.running.place b in
      let gone : List (ℕ × ℕ) → Change = λ ws. record { writes = ws; bytes = []; top = s.top; put = None; took = false; control = Jumps b } in
      value_short s (phi_writes s (block_now code s) (instrs_of code target) (results_of code target)) gone (λ ws. omega arith)

  next_short : (i : Instr) → IsShort (next_of code answers s r i)
  next_short (Bin op w a b) = value_short s (value_of s a) _ (λ x. value_short s (value_of s b) _ (λ y. result_short (binary_of op w x y)))
  next_short (Cmp p w a b) = value_short s (value_of s a) _ (λ x. value_short s (value_of s b) _ (λ y. omega arith))
  next_short (Select c a b) = value_short s (value_of s c) _ (λ k. value_short s (value_of s a) _ (λ x. value_short s (value_of s b) _ (λ y. omega arith)))
  next_short (Cast c from to a) = value_short s (value_of s a) _ (λ x. omega arith)
  next_short (Freeze a) = value_short s (value_of s a) _ (λ x. omega arith)
  next_short (Alloca size align count) = value_short s (value_of s count) _ (λ n. alloca_short size align n)
  next_short (Load w a) = value_short s (value_of s a) _ (λ at. load_short w at)
  next_short (Store w a b) = value_short s (value_of s a) _ (λ x. value_short s (value_of s b) _ (λ at. store_short w x at))
  next_short (Get a literal indices) = value_short s (value_of s a) _ (λ x. value_short s (values_of s (map (λ i. i.2) indices)) _ (λ xs. omega arith))
  next_short (Phi entries) = omega arith
  next_short (Call callee args) = value_short s (values_of s args) _ (λ xs. call_short callee xs)
  next_short (Jump b) = jump_short b
  next_short (Branch c b d) = value_short s (value_of s c) _ (λ k. jump_short _)
  next_short (Switch w a other cases) = value_short s (value_of s a) _ (λ x. jump_short _)
  next_short (Ret None) = return_short s.callers None
  next_short (Ret (Some a)) = value_short s (value_of s a) _ (λ x. return_short s.callers (Some x))
  next_short Unreachable = omega arith

  -- a short change lies in few pages
  next_light : (i : Instr) → pages_of (next_of code answers s r i).bytes ≤ 65536
  next_light i =
      let bytes = (next_of code answers s r i).bytes in
      omega (arith, next_short i, count_short (map (λ b. page_of b.0) bytes), length_map)
    where
      length_map : length (map (λ (b : ℕ × ℕ). page_of b.0) (next_of code answers s r i).bytes) ≡ length (next_of code answers s r i).bytes
      length_map = length-map (next_of code answers s r i).bytes (λ b. page_of b.0)

-- no instruction asks a port twice
pub toll_small : (p : ℕ) (s : State) (i : Instr) → toll_of p s i ≤ 1
toll_small p s (Call callee args) = by (is_port p callee && is_some (values_of s args))
  where
    by : (t : Bool) → cond t 1 0 ≤ 1
    by true = omega arith
    by false = omega arith
toll_small p s _ = omega arith

pub machine_light : (code : Code) (table : Table) (answers : Answers) → IsLight (machine_of code table answers)
machine_light code table answers = record {
  weight = λ v s live knows. next_light code answers s (result_at code s.running.place) (instr_of code table s.running.place v);
  toll = λ p v s live knows. toll_small p s (instr_of code table s.running.place v);
}
