-- A step of a running state: what it asks of its operands and of where it goes, and what it keeps.
use Rattle.std.proofs.Common.{◌≡◌, ℕ, ◌+◌, ◌*◌, ◌^◌, ◌<◌, ◌≤◌, List, [], ◌∷◌, length, map, Option, Some, None, Result, Ok, Err, Bool, true, false, cond, slice_get, arith, sym, ap, refl, subst, inl, inr}
use Rattle.std.specs.Prelude.{◌==◌, nat_le, nat_lt, slice_index, All}
use Rattle.std.proofs.lemmas.Bool.Decides.{nat_tests}
use Rattle.std.proofs.lemmas.List.Elements.{All-weaker, All-nil, All-cons}
use Rattle.std.proofs.lemmas.Option.{slice_get_within}
use Rattle.am_base.specs.declared.word.Width.{Width}
use Rattle.am_base.specs.declared.word.Cast.{Cast as Conversion}
use Rattle.am_base.specs.declared.word.Cast.TheVariants.{Trunc, ZExt, SExt, PtrToInt, IntToPtr}
use Rattle.am_base.specs.declared.outcome.Ending.{Ending}
use Rattle.am_base.specs.declared.outcome.Trap.{Trap}
use Rattle.am_base.specs.declared.outcome.Trap.TheVariants.{MemoryFull, DepthFull, RegistersFull}
use Rattle.am_base.specs.Word.{IsWord, binary_of}
use Rattle.code_form.specs.declared.instr.Operand.{Operand}
use Rattle.code_form.specs.declared.instr.Callee.{Callee}
use Rattle.code_form.specs.declared.instr.Callee.TheVariants.{Func as CallFunc, Port, PutChar, GetChar, Exit, Abort}
use Rattle.code_form.specs.declared.instr.Instr.{Instr}
use Rattle.code_form.specs.declared.instr.Instr.TheVariants.{Bin, Cmp, Select, Cast, Freeze, Alloca, Load, Store, Get, Phi, Call, Jump, Branch, Switch, Ret, Unreachable}
use Rattle.code_form.specs.declared.code.TyScalar.{TyScalar}
use Rattle.code_form.specs.declared.code.TyScalar.TheVariants.{Int, Ptr}
use Rattle.code_form.specs.declared.code.Block.{Block}
use Rattle.code_form.specs.declared.code.Func.{Func}
use Rattle.code_form.specs.declared.code.Code.{Code}
use Rattle.code_form.specs.declared.case.Case.{Case}
use Rattle.code_form.specs.Layout.{bytes_of, round_up}
use Rattle.code_form.specs.Places.{result_at, function_at, function_of, block_of, instrs_of, results_of}
use Rattle.code_form.specs.Sound.{IsSound, IsSoundFunc, IsTarget, InstrFits, CastFits, CallFits, HaveTypes, HasType, HasWidth, IsAlignment}
use Rattle.code_form.specs.Variant.{Table, instr_of}
use Rattle.code_form.specs.Fit.{FitsTable, FitsCase}
use Rattle.machine_form.specs.declared.change.Change.{Change}
use Rattle.machine_form.specs.declared.change.Control.TheVariants.{Next, Enter}
use Rattle.machine_form.specs.declared.frame.Frame.{Frame}
use Rattle.machine_form.specs.State.{State, frames_of, registers_in_use}
use Rattle.machine_form.specs.Straight.{joined, value_of, values_of, with_value, write_of, end_change, trap_change, result_change, is_in_range, alloca_change, differing, bytes_from}
use Rattle.machine_form.specs.Edge.{phi_writes, block_now, jump_change, case_of}
use Rattle.machine_form.specs.Calls.{Answers, numbered, enter_change, call_change, take_change, return_change, answer_change, width_of_sign}
use Rattle.machine_form.specs.Next.{next_of}
use Rattle.machine_form.specs.After.{after_change}
use Rattle.machine_form.specs.Machine.{next_by}
use Rattle.machine_form.specs.Start.{start_of}
use Rattle.machine_form.specs.SoundState.{IsSoundState}
use Rattle.machine_form.proofs.Fits.{variant_fits, place_within, laid_function}
use Rattle.machine_form.proofs.FoundPlaces.{some_at, function_found, block_found}
use Rattle.machine_form.proofs.StraightShapes.{cond_has, length-bytes_from}
use Rattle.machine_form.proofs.StartStates.{states_begin, function_at-is}
use Rattle.machine_form.proofs.SoundStates.{operand_of_width}
use Rattle.machine_form.proofs.SoundEdges.{branch_target, case_target}
use Rattle.machine_form.proofs.Apart.{params_fit, length-types}
use Rattle.machine_form.proofs.Kept.{states_stay}
use Rattle.ports.specs.Words.{AreWords}
use Rattle.lane_eval.specs.Operands.{HoldsWord, HasMemory, IsSmallAlignment, CanGo, CanStep, CanChange, is_port_call}
use Rattle.lane_eval.specs.Plain.{IsQuiet, CanApply}
use Rattle.lane_eval.specs.Running.{IsRunning}

-- ---- operands

cast_operand : (types : List TyScalar) (r : Option ℕ) (c : Conversion) (from to : Width) (a : Operand) → CastFits types r c from to a → HasWidth types from a
cast_operand types r Trunc from to a h = (Int from, h.1, refl)
cast_operand types r ZExt from to a h = (Int from, h.1, refl)
cast_operand types r SExt from to a h = (Int from, h.1, refl)
cast_operand types r PtrToInt from to a h = (Ptr, h.1, sym h.0)
cast_operand types r IntToPtr from to a h = (Int from, h.1, refl)

small_alignment : (n : ℕ) → IsAlignment n → IsSmallAlignment n
small_alignment n (inl e) = (omega arith, omega arith)
small_alignment n (inr (inl e)) = (omega arith, omega arith)
small_alignment n (inr (inr (inl e))) = (omega arith, omega arith)
small_alignment n (inr (inr (inr e))) = (omega arith, omega arith)

one_argument : (types : List TyScalar) (t : TyScalar) (args : List Operand) → HaveTypes types (t ∷ []) args → length args ≡ 1
one_argument types t [] h = absurd h
one_argument types t (a ∷ []) h = refl
one_argument types t (a ∷ b ∷ args) h = absurd h.1

no_argument : (types : List TyScalar) (args : List Operand) → HaveTypes types [] args → length args ≡ 0
no_argument types [] h = refl
no_argument types (a ∷ args) h = absurd h

few_arguments : (code : Code) (f : Func) (types : List TyScalar) (args : List Operand) → IsSoundFunc code f → HaveTypes types f.params args → length args < 2 ^ 32
few_arguments code f types args sound h = omega (arith, length-types types f.params args h, params_fit code f sound, sound.few)

-- each of the words of several operands is there
record AreJoined (o : Option ℕ) (p : Option (List ℕ)) (xs : List ℕ) : Type 0 where
  first : ℕ
  rest : List ℕ
  here : o ≡ Some first
  there : p ≡ Some rest
  both : xs ≡ first ∷ rest

joined_both : (o : Option ℕ) (p : Option (List ℕ)) (xs : List ℕ) → joined o p ≡ Some xs → AreJoined o p xs
joined_both None p xs e = cc
joined_both (Some x) None xs e = cc
joined_both (Some x) (Some ys) xs e = record { first = x; rest = ys; here = refl; there = refl; both = cc }

module _ (code : Code) (s : State) (code_sound : IsSound code) (sound : IsSoundState code s) where
  has_memory : HasMemory s
  has_memory = record { bytes = sound.memory; top = sound.top }

  place_here : s.running.place < length code.instrs
  place_here = place_within code sound.number sound.function s.running.place code_sound sound.running.is sound.running.stands

  -- the running frame can go to each block of its function
  can_go : (b : ℕ) → IsTarget sound.function b → CanGo code s b
  can_go b target =
      let block = some_at sound.function.blocks b target.1 in
      let found : block_of code s.running.place b ≡ block.0 = block_found code sound.number sound.function s.running.place b block.0 code_sound sound.running.is sound.running.stands block.1 in
      let here : function_of code s.running.place ≡ sound.function = function_found code sound.number sound.function s.running.place code_sound sound.running.is sound.running.stands in
      let inside : block.0.first + block.0.len ≤ length code.instrs =
      laid_function 0 code.funcs (length code.instrs) sound.number b sound.function block.0 code_sound.laid sound.running.is block.1 in
      let P : Block → Type 0 = λ x. x.first + x.len ≤ length code.instrs in
      let Q : Func → Type 0 = λ f. b < length f.blocks in
      record {
        within = place_here;
        block = subst Q (sym here) target.1;
        inside = subst P (sym found) inside;
        few = omega (arith, code_sound.few_instrs);
        results = code_sound.results;
      }

  cases_go : (w : Width) (cases : List (ℕ × ℕ)) → All (λ c. IsWord w c.0 × IsTarget sound.function c.1) cases → All (λ c. CanGo code s c.1) cases
  cases_go w cases all = All-weaker (λ c. IsWord w c.0 × IsTarget sound.function c.1) (λ c. CanGo code s c.1) (λ c h. can_go c.1 h.1) cases all

  index_word : (i : ℕ × Width × Operand) → (i.0 < 2 ^ 64) × HasType sound.function.types (Int i.1) i.2 → HoldsWord s i.1 i.2
  index_word i h = operand_of_width code s sound.number sound.function sound.running i.1 i.2 (Int i.1, h.1, refl)

  argument_words : (params : List Width) (args : List Operand) (xs : List ℕ) → HaveTypes sound.function.types (map (λ w. Int w) params) args → values_of s args ≡ Some xs → AreWords params xs
  argument_words [] [] [] f e = tt
  argument_words [] [] (x ∷ xs) f e = cc
  argument_words [] (a ∷ args) xs f e = absurd f
  argument_words (w ∷ params) [] xs f e = absurd f
  argument_words (w ∷ params) (a ∷ args) xs f e =
      let parts = joined_both (value_of s a) (values_of s args) xs e in
      let word = operand_of_width code s sound.number sound.function sound.running w a (Int w, f.0, refl) parts.first parts.here in
      subst (AreWords (w ∷ params)) (sym parts.both) (word, argument_words params args parts.rest f.1 parts.there)

  can_step : (r : Option ℕ) (i : Instr) → InstrFits code sound.function r i → CanChange code s i
  can_step r (Bin op w a b) f =
      (operand_of_width code s sound.number sound.function sound.running w a f.0, operand_of_width code s sound.number sound.function sound.running w b f.1)
  can_step r (Cmp p w a b) f =
      (operand_of_width code s sound.number sound.function sound.running w a f.0, operand_of_width code s sound.number sound.function sound.running w b f.1)
  can_step r (Select c a b) f = tt
  can_step r (Cast c from to a) f = operand_of_width code s sound.number sound.function sound.running from a (cast_operand sound.function.types r c from to a f)
  can_step r (Freeze a) f = tt
  can_step r (Alloca size align count) f = (has_memory, small_alignment align f.1)
  can_step r (Load w a) f = has_memory
  can_step r (Store w a b) f = has_memory
  can_step r (Get a literal indices) f =
      All-weaker (λ i. (i.0 < 2 ^ 64) × HasType sound.function.types (Int i.1) i.2) (λ i. HoldsWord s i.1 i.2) (λ i h. index_word i h) indices f.2
  can_step r (Phi entries) f = tt
  can_step r (Call (CallFunc g) args) f = (slice_get_within code.funcs g f.0 f.1, few_arguments code f.0 sound.function.types args (code_sound.funcs g f.0 f.1) f.2)
  can_step r (Call (Port p) args) f = record { sign = f.0; is = f.1; words = λ xs e. argument_words f.0.params args xs f.2 e }
  can_step r (Call PutChar args) f = one_argument sound.function.types _ args f.0
  can_step r (Call GetChar args) f = no_argument sound.function.types args f.0
  can_step r (Call Exit args) f = one_argument sound.function.types _ args f.0
  can_step r (Call Abort args) f = no_argument sound.function.types args f.0
  can_step r (Jump b) f = can_go b f.0
  can_step r (Branch c b d) f = (can_go b f.1, can_go d f.2)
  can_step r (Switch w a other cases) f = (can_go other f.1, cases_go w cases f.2)
  can_step r (Ret a) f = tt
  can_step r Unreachable f = tt

-- what is no call of a port asks what its step asks
pub no_port_steps : (code : Code) (s : State) (i : Instr) → is_port_call i ≡ false → CanChange code s i → CanStep code s i
no_port_steps code s (Bin op w a b) e h = h
no_port_steps code s (Cmp p w a b) e h = h
no_port_steps code s (Select c a b) e h = h
no_port_steps code s (Cast c from to a) e h = h
no_port_steps code s (Freeze a) e h = h
no_port_steps code s (Alloca size align count) e h = h
no_port_steps code s (Load w a) e h = h
no_port_steps code s (Store w a b) e h = h
no_port_steps code s (Get a literal indices) e h = h
no_port_steps code s (Phi entries) e h = h
no_port_steps code s (Call (CallFunc g) args) e h = h
no_port_steps code s (Call (Port p) args) e h = cc
no_port_steps code s (Call PutChar args) e h = h
no_port_steps code s (Call GetChar args) e h = h
no_port_steps code s (Call Exit args) e h = h
no_port_steps code s (Call Abort args) e h = h
no_port_steps code s (Jump b) e h = h
no_port_steps code s (Branch c b d) e h = h
no_port_steps code s (Switch w a other cases) e h = h
no_port_steps code s (Ret a) e h = h
no_port_steps code s Unreachable e h = h

-- ---- where a step goes

-- the bytes of a store lie below the end of the access
differing_below : (bytes new : List ℕ) (at top : ℕ) → at + length new ≤ top → All (λ (b : ℕ × ℕ). b.0 < top) (differing bytes at new)
differing_below bytes [] at top h = All-nil (λ (b : ℕ × ℕ). b.0 < top)
differing_below bytes (n ∷ new) at top h = by (slice_index bytes at == n) (differing_below bytes new (at + 1) top (omega arith))
  where
    by : (t : Bool) → All (λ (b : ℕ × ℕ). b.0 < top) (differing bytes (at + 1) new)
        → All (λ (b : ℕ × ℕ). b.0 < top) (cond t (differing bytes (at + 1) new) ((at, n) ∷ differing bytes (at + 1) new))
    by true rest = rest
    by false rest = All-cons (λ (b : ℕ × ℕ). b.0 < top) (at, n) (differing bytes (at + 1) new) (omega arith) rest

stored_below : (bytes : List ℕ) (k x at top : ℕ) → at + k ≤ top → All (λ (b : ℕ × ℕ). b.0 < top) (differing bytes at (bytes_from k x))
stored_below bytes k x at top h = differing_below bytes (bytes_from k x) at top (omega (arith, length-bytes_from k x))

pub range_end : (s : State) (at k : ℕ) → is_in_range s at k ≡ true → at + k ≤ s.top
range_end s at k e = grind (arith, nat_tests)

module _ (code : Code) (s : State) (code_sound : IsSound code) (sound : IsSoundState code s) where
  abbrev Applies : Change → Type 0
  Applies c = CanApply code s c c.control

  place_next : s.running.place + 1 < 2 ^ 32
  place_next = let here = place_here code s code_sound sound in omega (arith, here, code_sound.few_instrs)

  -- a change that goes on at the next place
  goes : (s.running.place + 1 < 2 ^ 32) × (s.position + 1 < 2 ^ 32) × All (λ (b : ℕ × ℕ). b.0 < s.top) []
  goes = (place_next, omega (arith, sound.position, sound.input), All-nil (λ (b : ℕ × ℕ). b.0 < s.top))

  quiet_end : (e : Ending) → IsQuiet (end_change s e)
  quiet_end e = record { bytes = refl; put = refl; took = refl }

  value_applies : {X : Type 0} (o : Option X) (go : X → Change) → ((x : X) → o ≡ Some x → Applies (go x)) → Applies (with_value s o go)
  value_applies None go h = quiet_end _
  value_applies (Some x) go h = h x refl

  result_applies : (r : Option ℕ) (res : Result ℕ Trap) → Applies (result_change s r res)
  result_applies r (Ok x) = goes
  result_applies r (Err t) = quiet_end _

  alloca_applies : (r : Option ℕ) (size align count : ℕ) → Applies (alloca_change s r size align count)
  alloca_applies r size align count =
      let address = round_up s.top align in
      let taken : Change = record { writes = write_of r address; bytes = []; top = address + size * count; put = None; took = false; control = Next } in
      cond_has Applies (nat_le (address + size * count) 1048576) taken (trap_change s MemoryFull) (λ _. goes) (λ _. quiet_end _)

  take_applies : (r : Option ℕ) (o : Option ℕ) → Applies (take_change s r o)
  take_applies r None = goes
  take_applies r (Some b) = goes

  return_applies : (callers : List Frame) (word : Option ℕ) → s.callers ≡ callers → Applies (return_change s callers word)
  return_applies [] word e = quiet_end _
  return_applies (f ∷ more) word e = (omega (arith, ap length e), record { bytes = refl; put = refl; took = refl })

  jump_applies : (b : ℕ) → IsTarget sound.function b → Applies (jump_change code s b)
  jump_applies b target = value_applies (phi_writes s (block_now code s) (instrs_of code (block_of code s.running.place b)) (results_of code (block_of code s.running.place b))) _
      (λ ws _. (can_go code s code_sound sound b target, record { bytes = refl; put = refl; took = refl }))

  enter_applies : (g : ℕ) (f : Func) (xs : List ℕ) → slice_get code.funcs g ≡ Some f → Applies (enter_change code s g xs)
  enter_applies g f xs is =
      let entry : Change = record { writes = numbered 0 xs; bytes = []; top = s.top; put = None; took = false; control = Enter g } in
      let there : function_at code g ≡ f = function_at-is code g f is in
      let blocks : 0 < length (function_at code g).blocks = let P : Func → Type 0 = λ h. 0 < length h.blocks in subst P (sym there) (code_sound.funcs g f is).some in
      cond_has Applies (nat_lt 512 (frames_of s + 1)) (trap_change s DepthFull)
      (cond (nat_lt 32768 (registers_in_use s + (function_at code g).registers)) (trap_change s RegistersFull) entry) (λ _. quiet_end _)
      (λ _. cond_has Applies (nat_lt 32768 (registers_in_use s + (function_at code g).registers)) (trap_change s RegistersFull) entry (λ _. quiet_end _)
      (λ _. (record { defined = slice_get_within code.funcs g f is; block = blocks; place = place_next }, record { bytes = refl; put = refl; took = refl })))

  answer_applies : (r : Option ℕ) (w : Option Width) (o : Option ℕ) → Applies (answer_change s r w o)
  answer_applies r w None = quiet_end _
  answer_applies r None (Some x) = goes
  answer_applies r (Some w) (Some x) = goes

  call_applies : (answers : Answers) (r : Option ℕ) (callee : Callee) (args : List Operand) (xs : List ℕ) → CallFits code sound.function.types r callee args → Applies (call_change code answers s r callee xs)
  call_applies answers r (CallFunc g) args xs f = enter_applies g f.0 xs f.1
  call_applies answers r (Port p) args xs f = answer_applies r (width_of_sign (slice_get code.signs p)) (answers p xs)
  call_applies answers r PutChar args xs f = cond_has Applies (nat_le 65536 (length s.output)) _ _ (λ _. quiet_end _) (λ _. goes)
  call_applies answers r GetChar args xs f = take_applies r (slice_get s.input s.position)
  call_applies answers r Exit args xs f = quiet_end _
  call_applies answers r Abort args xs f = quiet_end _

  step_applies : (answers : Answers) (r : Option ℕ) (i : Instr) → InstrFits code sound.function r i → Applies (next_of code answers s r i)
  step_applies answers r (Bin op w a b) f = value_applies (value_of s a) _ (λ x _. value_applies (value_of s b) _ (λ y _. result_applies r (binary_of op w x y)))
  step_applies answers r (Cmp p w a b) f = value_applies (value_of s a) _ (λ x _. value_applies (value_of s b) _ (λ y _. goes))
  step_applies answers r (Select c a b) f = value_applies (value_of s c) _ (λ n _. value_applies (value_of s a) _ (λ x _. value_applies (value_of s b) _ (λ y _. goes)))
  step_applies answers r (Cast c from to a) f = value_applies (value_of s a) _ (λ x _. goes)
  step_applies answers r (Freeze a) f = value_applies (value_of s a) _ (λ x _. goes)
  step_applies answers r (Alloca size align count) f = value_applies (value_of s count) _ (λ n _. alloca_applies r size align n)
  step_applies answers r (Load w a) f = value_applies (value_of s a) _ (λ x _. cond_has Applies (is_in_range s x (bytes_of w)) _ _ (λ _. goes) (λ _. quiet_end _))
  step_applies answers r (Store w a b) f =
      value_applies (value_of s a) _ (λ x _. value_applies (value_of s b) _ (λ y _. cond_has Applies (is_in_range s y (bytes_of w)) _ _
      (λ within. cond_has Applies (nat_lt y code.const_end) _ _ (λ _. quiet_end _)
      (λ _. (goes.0, goes.1, stored_below s.bytes (bytes_of w) x y s.top (range_end s y (bytes_of w) within)))) (λ _. quiet_end _)))
  step_applies answers r (Get a literal indices) f = value_applies (value_of s a) _ (λ x _. value_applies (values_of s (map (λ i. i.2) indices)) _ (λ xs _. goes))
  step_applies answers r (Phi entries) f = quiet_end _
  step_applies answers r (Call callee args) f = value_applies (values_of s args) _ (λ xs _. call_applies answers r callee args xs f)
  step_applies answers r (Jump b) f = jump_applies b f.0
  step_applies answers r (Branch c b d) f = value_applies (value_of s c) _ (λ n _. jump_applies (cond (n == 1) b d) (branch_target sound.function (n == 1) b d f.1 f.2))
  step_applies answers r (Switch w a other cases) f = value_applies (value_of s a) _ (λ x _. jump_applies (case_of cases x other) (case_target sound.function w cases x other f.1 f.2))
  step_applies answers r (Ret None) f = return_applies s.callers None refl
  step_applies answers r (Ret (Some a)) f = value_applies (value_of s a) _ (λ x _. return_applies s.callers (Some x) refl)
  step_applies answers r Unreachable f = quiet_end _

-- ---- the same of each variant of the place of a running state

module _ (code : Code) (table : Table) (answers : Answers) (sound : IsSound code) (fits : FitsTable code table) (s : State) (run : IsRunning code s) (v : ℕ) where
  fit : InstrFits code run.sound.function (result_at code s.running.place) (instr_of code table s.running.place v)
  fit = variant_fits code table sound fits run.sound.number run.sound.function s.running.place run.sound.running.is run.sound.running.stands v

  pub variant_can_step : CanChange code s (instr_of code table s.running.place v)
  variant_can_step = can_step code s sound run.sound (result_at code s.running.place) (instr_of code table s.running.place v) fit

  pub variant_applies : let c = next_by code table answers v s in CanApply code s c c.control
  variant_applies = step_applies code s sound run.sound answers (result_at code s.running.place) (instr_of code table s.running.place v) fit

  -- the run goes on from a state like the one before
  pub variant_runs : IsRunning code (after_change code s (next_by code table answers v s))
  variant_runs = record { sound = states_stay code table answers s v sound fits run.sound run.input; input = run.input }

pub place_inside : (code : Code) (s : State) → IsSound code → IsRunning code s → s.running.place < length code.instrs
place_inside code s sound run = place_within code run.sound.number run.sound.function s.running.place sound run.sound.running.is run.sound.running.stands

-- ---- the start

pub start_running : (code : Code) (case : Case) (s : State) → IsSound code → FitsCase code case → s ≡ start_of code case → All (λ b. b < 256) s.bytes → All (λ b. b < 256) s.input → IsRunning code s
start_running code case s sound fits e bytes input =
    let P : State → Type 0 = λ t. All (λ b. b < 256) t.bytes in
    let Q : State → Type 0 = λ t. All (λ b. b < 256) t.input in
    let begun : IsRunning code (start_of code case) = record { sound = states_begin code case sound fits (subst P e bytes); input = subst Q e input } in
    subst (IsRunning code) (sym e) begun
