-- The law of equal changes: where the changes of two variants of one place lead to one state, they are equal.
use Rattle.std.proofs.Common.{◌≡◌, ◌⊎◌, ℕ, ◌+◌, ◌-◌, ◌<◌, ◌≤◌, Bool, true, false, cond, List, [], ◌∷◌, length, replicate, Option, Some, None, slice_get, arith}
use Rattle.std.proofs.Common.{sym, ◌∙◌, ap, refl, subst, inl, inr}
use Rattle.std.specs.Prelude.{◌==◌, nat_lt}
use Rattle.std.proofs.lemmas.List.{length-replicate}
use Rattle.std.proofs.lemmas.Option.{slice_get_within}
use Rattle.am_base.specs.declared.limits.TheConstants.{MAX_FRAMES, MAX_LIVE_REGISTERS, MEMORY_BYTES}
use Rattle.am_base.specs.declared.outcome.Ending.{Ending}
use Rattle.am_base.specs.declared.outcome.Trap.TheVariants.{UnsetRegister, DepthFull, RegistersFull}
use Rattle.code_form.specs.declared.instr.Operand.{Operand}
use Rattle.code_form.specs.declared.instr.Callee.TheVariants.{Func as CallFunc, Port, PutChar, GetChar, Exit, Abort}
use Rattle.code_form.specs.declared.instr.Instr.{Instr}
use Rattle.code_form.specs.declared.instr.Instr.TheVariants.{Bin, Cmp, Select, Cast, Freeze, Alloca, Load, Store, Get, Phi, Call, Jump, Branch, Switch, Ret}
use Rattle.code_form.specs.declared.instr.Instr.TheVariants.{Unreachable}
use Rattle.code_form.specs.declared.code.TyScalar.{TyScalar}
use Rattle.code_form.specs.declared.code.Block.{Block}
use Rattle.code_form.specs.declared.code.Func.{Func}
use Rattle.code_form.specs.declared.code.Code.{Code}
use Rattle.code_form.specs.Places.{instr_at, result_at, function_at, begins_at, block_of, instrs_of, results_of, is_terminator}
use Rattle.code_form.specs.Sound.{IsSound, IsPlaceOf, IsTarget, InstrFits, GivesMaybe}
use Rattle.code_form.specs.Variant.{instr_of}
use Rattle.machine_form.specs.declared.change.Change.{Change}
use Rattle.machine_form.specs.declared.change.Control.{Control}
use Rattle.machine_form.specs.declared.change.Control.TheVariants.{Next, Jump as Go, Enter, Leave}
use Rattle.machine_form.specs.declared.frame.Frame.{Frame}
use Rattle.machine_form.specs.State.{State, with_writes, frames_of, registers_in_use}
use Rattle.machine_form.specs.Straight.{value_of, values_of, with_value, end_change, trap_change, write_of}
use Rattle.machine_form.specs.Edge.{phi_writes, block_now, jump_change, case_of}
use Rattle.machine_form.specs.Calls.{Answers, numbered, enter_change, write_back, return_change}
use Rattle.machine_form.specs.Next.{next_of}
use Rattle.machine_form.specs.Machine.{next_by}
use Rattle.machine_form.specs.After.{after_change, frame_after, callers_after, rest_of, ending_after, phis_in, entry_place}
use Rattle.machine_form.specs.SoundState.{AreSoundCallers, IsSoundState}
use Rattle.machine_form.specs.EqualChanges.{DeterminesChanges}
use Rattle.machine_form.proofs.ChangeShapes.{IsStraightChange}
use Rattle.machine_form.proofs.Fits.{variant_fits, variant_terminates, place_within}
use Rattle.machine_form.proofs.FoundPlaces.{some_at, block_found, phis_before_last}
use Rattle.machine_form.proofs.StartStates.{function_at-is, begun_frame}
use Rattle.machine_form.proofs.SoundEdges.{branch_target, case_target}
use Rattle.machine_form.proofs.StraightLaw.{registers_have, same_writes, straight_law}
use Rattle.machine_form.proofs.StraightShapes.{value_has, cond_has, next_straight, result_there}
use Rattle.machine_form.proofs.Apart.{blocks_apart, functions_apart, params_fit, length-types, length-values, words_known}

-- ---- the forms of changes

abbrev Ends : State → Change → Type 0
Ends s c = (e : Ending) × (c ≡ end_change s e)

abbrev entry_change : State → ℕ → List ℕ → Change
entry_change s g xs = record { writes = numbered 0 xs; bytes = []; top = s.top; put = None; took = false; control = Enter g }

-- the change enters a function of the code
record Enters (code : Code) (s : State) (c : Change) : Type 0 where
  number : ℕ
  function : Func
  args : List ℕ
  is : slice_get code.funcs number ≡ Some function
  long : length args ≡ length function.params
  change : c ≡ entry_change s number args

-- the change goes to a block of the function
record Goes (code : Code) (s : State) (f : Func) (c : Change) : Type 0 where
  block : ℕ
  target : IsTarget f block
  change : c ≡ jump_change code s block
  control : c.control ≡ Go block

-- there is a word exactly where there is a type
abbrev HasWord : Option TyScalar → Option ℕ → Type 0
HasWord None word = word ≡ None
HasWord (Some t) word = (x : ℕ) × (word ≡ Some x)

-- the change returns to a caller
record Leaves (s : State) (f : Func) (c : Change) : Type 0 where
  word : Option ℕ
  fits : HasWord f.result word
  some : 0 < length s.callers
  change : c ≡ return_change s s.callers word
  control : c.control ≡ Leave

abbrev StepShape : Code → State → Option ℕ → Change → Type 0
StepShape code s r c = IsStraightChange s r c ⊎ Enters code s c

abbrev EdgeShape : Code → State → Func → Change → Type 0
EdgeShape code s f c = Goes code s f c ⊎ (Leaves s f c ⊎ Ends s c)

-- ---- the form of each instruction's change

module _ (code : Code) (s : State) (f : Func) (answers : Answers) (bytes : length s.bytes ≡ MEMORY_BYTES) (top : s.top ≤ MEMORY_BYTES) where
  enter_shape : (r : Option ℕ) (g : ℕ) (h : Func) (xs : List ℕ) → slice_get code.funcs g ≡ Some h → length xs ≡ length h.params
      → StepShape code s r (enter_change code s g xs)
  enter_shape r g h xs is long =
      cond_has (StepShape code s r) (nat_lt MAX_FRAMES (frames_of s + 1)) (trap_change s DepthFull)
      (cond (nat_lt MAX_LIVE_REGISTERS (registers_in_use s + (function_at code g).registers)) (trap_change s RegistersFull) (entry_change s g xs))
      (λ _. inl (inr (_, refl)))
      (λ _. cond_has (StepShape code s r) (nat_lt MAX_LIVE_REGISTERS (registers_in_use s + (function_at code g).registers)) (trap_change s RegistersFull)
      (entry_change s g xs) (λ _. inl (inr (_, refl)))
      (λ _. inr (record { number = g; function = h; args = xs; is = is; long = long; change = refl })))

  call_shape : (r : Option ℕ) (g : ℕ) (h : Func) (args : List Operand) → slice_get code.funcs g ≡ Some h → length args ≡ length h.params → (o : Option (List ℕ))
      → values_of s args ≡ o
      → StepShape code s r (with_value s o (λ xs. enter_change code s g xs))
  call_shape r g h args is long None e = inl (inr (_, refl))
  call_shape r g h args is long (Some xs) e = enter_shape r g h xs is (length-values s args xs e ∙ long)

  step_shape : (r : Option ℕ) (i : Instr) → is_terminator i ≡ false → InstrFits code f r i → StepShape code s r (next_of code answers s r i)
  step_shape r (Bin op w a b) t h = inl (next_straight code s bytes top answers f r (Bin op w a b) tt h)
  step_shape r (Cmp p w a b) t h = inl (next_straight code s bytes top answers f r (Cmp p w a b) tt h)
  step_shape r (Select c a b) t h = inl (next_straight code s bytes top answers f r (Select c a b) tt h)
  step_shape r (Cast c from to a) t h = inl (next_straight code s bytes top answers f r (Cast c from to a) tt h)
  step_shape r (Freeze a) t h = inl (next_straight code s bytes top answers f r (Freeze a) tt h)
  step_shape r (Alloca size align count) t h = inl (next_straight code s bytes top answers f r (Alloca size align count) tt h)
  step_shape r (Load w a) t h = inl (next_straight code s bytes top answers f r (Load w a) tt h)
  step_shape r (Store w a b) t h = inl (next_straight code s bytes top answers f r (Store w a b) tt h)
  step_shape r (Get a literal indices) t h = inl (next_straight code s bytes top answers f r (Get a literal indices) tt h)
  step_shape r (Phi entries) t h = inl (next_straight code s bytes top answers f r (Phi entries) tt h)
  step_shape r (Call (CallFunc g) args) t h = call_shape r g h.0 args h.1 (length-types f.types h.0.params args h.2) (values_of s args) refl
  step_shape r (Call (Port p) args) t h = inl (next_straight code s bytes top answers f r (Call (Port p) args) tt h)
  step_shape r (Call PutChar args) t h = inl (next_straight code s bytes top answers f r (Call PutChar args) tt h)
  step_shape r (Call GetChar args) t h = inl (next_straight code s bytes top answers f r (Call GetChar args) tt h)
  step_shape r (Call Exit args) t h = inl (next_straight code s bytes top answers f r (Call Exit args) tt h)
  step_shape r (Call Abort args) t h = inl (next_straight code s bytes top answers f r (Call Abort args) tt h)
  step_shape r (Jump b) t h = absurd (cc)
  step_shape r (Branch c b d) t h = absurd (cc)
  step_shape r (Switch w a other cases) t h = absurd (cc)
  step_shape r (Ret a) t h = absurd (cc)
  step_shape r Unreachable t h = absurd (cc)

  abbrev jump_to : ℕ → List (ℕ × ℕ) → Change
  jump_to b ws = record { writes = ws; bytes = []; top = s.top; put = None; took = false; control = Go b }

  jump_shape : (b : ℕ) → IsTarget f b → EdgeShape code s f (jump_change code s b)
  jump_shape b target =
      by (phi_writes s (block_now code s) (instrs_of code (block_of code s.running.place b)) (results_of code (block_of code s.running.place b))) refl
    where
      by : (o : Option (List (ℕ × ℕ))) → phi_writes s (block_now code s) (instrs_of code (block_of code s.running.place b))
          (results_of code (block_of code s.running.place b)) ≡ o
          → EdgeShape code s f (jump_change code s b)
      by None e = inr (inr (_, ap (λ o. with_value s o (jump_to b)) e))
      by (Some ws) e = inl (record { block = b; target = target; change = refl; control = ap (λ o. (with_value s o (jump_to b)).control) e })

  return_shape : (cs : List Frame) (word : Option ℕ) → s.callers ≡ cs → HasWord f.result word → EdgeShape code s f (return_change s cs word)
  return_shape [] word e fits = inr (inr (_, refl))
  return_shape (caller ∷ more) word e fits =
      inr (inl (record { word = word; fits = fits; some = omega (arith, ap length e); change = ap (λ cs. return_change s cs word) (sym e); control = refl }))

  unset_shape : EdgeShape code s f (trap_change s UnsetRegister)
  unset_shape = inr (inr (_, refl))

  edge_shape : (r : Option ℕ) (i : Instr) → is_terminator i ≡ true → InstrFits code f r i → EdgeShape code s f (next_of code answers s r i)
  edge_shape r (Jump b) t h = jump_shape b h.0
  edge_shape r (Branch c b d) t h = value_has (EdgeShape code s f) s (value_of s c) _ unset_shape
      (λ n. jump_shape (cond (n == 1) b d) (branch_target f (n == 1) b d h.1 h.2))
  edge_shape r (Switch w a other cases) t h = value_has (EdgeShape code s f) s (value_of s a) _ unset_shape
      (λ x. jump_shape (case_of cases x other) (case_target f w cases x other h.1 h.2))
  edge_shape r (Ret None) t h = return_shape s.callers None refl (let P : Option TyScalar → Type 0 = λ o. HasWord o None in subst P (sym h.0) refl)
  edge_shape r (Ret (Some a)) t h =
      value_has (EdgeShape code s f) s (value_of s a) _ unset_shape
      (λ x. return_shape s.callers (Some x) refl (let P : Option TyScalar → Type 0 = λ o. HasWord o (Some x) in subst P (sym h.0.1) (x, refl)))
  edge_shape r Unreachable t h = inr (inr (_, refl))
  edge_shape r (Bin op w a b) t h = absurd (cc)
  edge_shape r (Cmp p w a b) t h = absurd (cc)
  edge_shape r (Select c a b) t h = absurd (cc)
  edge_shape r (Cast c from to a) t h = absurd (cc)
  edge_shape r (Freeze a) t h = absurd (cc)
  edge_shape r (Alloca size align count) t h = absurd (cc)
  edge_shape r (Load w a) t h = absurd (cc)
  edge_shape r (Store w a b) t h = absurd (cc)
  edge_shape r (Get a literal indices) t h = absurd (cc)
  edge_shape r (Phi entries) t h = absurd (cc)
  edge_shape r (Call callee args) t h = absurd (cc)

-- ---- the law for two changes of one kind

none_some : {X : Type 0} (x : X) → None ≡ Some x → ⊥
none_some x e = cc

shorter : (cs : List Frame) → 0 < length cs → length (rest_of cs) < length cs
shorter [] l = absurd (omega arith)
shorter (caller ∷ more) l = omega arith

back_none : (word : Option ℕ) → write_back None word ≡ []
back_none None = refl
back_none (Some x) = refl

back_known : (types : List TyScalar) (registers : List (Option ℕ)) (result : Option ℕ) (t : Option TyScalar) (v w : Option ℕ) → length types ≡ length registers
    → GivesMaybe types result t → HasWord t v → HasWord t w
    → with_writes registers (write_back result v) ≡ with_writes registers (write_back result w) → write_back result v ≡ write_back result w
back_known types registers None t v w long gives p q e = back_none v ∙ sym (back_none w)
back_known types registers (Some r) None v w long gives p q e = absurd (cc)
back_known types registers (Some r) (Some t) v w long gives p q e =
    let first : write_back (Some r) v ≡ write_of (Some r) p.0 = ap (write_back (Some r)) p.1 in
    let second : write_back (Some r) w ≡ write_of (Some r) q.0 = ap (write_back (Some r)) q.1 in
    let there : registers_have registers (Some r) = omega (arith, slice_get_within types r t gives) in
    let same : with_writes registers (write_of (Some r) p.0) ≡ with_writes registers (write_of (Some r) q.0) = sym (ap (with_writes registers) first) ∙ e
    ∙ ap (with_writes registers) second in
    first ∙ same_writes registers (Some r) p.0 q.0 there same ∙ sym second

module _ (code : Code) (s : State) (code_sound : IsSound code) (sound : IsSoundState code s) (lives : s.ending ≡ None) where
  callers_of : (c : Change) (k : Control) → c.control ≡ k → (after_change code s c).callers ≡ callers_after s k
  callers_of c k e = ap (callers_after s) e

  -- a change that doesn't end the run leads to another state than one that does
  clash : (c d : Change) → ending_after s c.control ≡ None → Ends s d → after_change code s c ≡ after_change code s d → ⊥
  clash c d on p e = none_some p.0 (sym on ∙ ap (λ (t : State). t.ending) e ∙ ap (λ (k : Change). (after_change code s k).ending) p.1)

  both_end : (c d : Change) → Ends s c → Ends s d → after_change code s c ≡ after_change code s d → c ≡ d
  both_end c d p q e = straight_law code s None c d tt lives (inr p) (inr q) e

  begins : (g : ℕ) (f : Func) → slice_get code.funcs g ≡ Some f → IsPlaceOf f (begins_at code g)
  begins g f is = (begun_frame code g f [] None 0 code_sound is (λ i x t a b. absurd (cc))).stands

  enter_law : (c d : Change) → Enters code s c → Enters code s d → after_change code s c ≡ after_change code s d → c ≡ d
  enter_law c d p q e =
      let f = p.function in
      let place : begins_at code p.number ≡ begins_at code q.number =
      sym (ap (λ (k : Change). (after_change code s k).running.place) p.change) ∙ ap (λ (t : State). t.running.place) e
      ∙ ap (λ (k : Change). (after_change code s k).running.place) q.change in
      let number : p.number ≡ q.number =
      functions_apart code p.number q.number (begins_at code p.number) (begins_at code q.number) p.function q.function code_sound p.is q.is
      (begins p.number p.function p.is) (begins q.number q.function q.is) place in
      let found : Some p.function ≡ Some q.function = sym p.is ∙ ap (slice_get code.funcs) number ∙ q.is in
      let function : p.function ≡ q.function = cc in
      let many : length p.args ≡ length q.args = p.long ∙ ap (λ (h : Func). length h.params) function ∙ sym q.long in
      let registers : List (Option ℕ) = replicate (function_at code p.number).registers None in
      let fit : 0 + length p.args ≤ length (replicate (function_at code p.number).registers no_word) =
      omega (
        arith,
        p.long,
        params_fit code p.function (code_sound.funcs p.number p.function p.is),
        ap (λ (h : Func). h.registers) (function_at-is code p.number p.function p.is),
        length-replicate (function_at code p.number).registers no_word,
      ) in
      let begun : with_writes (replicate (function_at code p.number).registers None) (numbered 0 p.args) ≡ with_writes
      (replicate (function_at code p.number).registers None) (numbered 0 q.args) =
      sym (ap (λ (k : Change). (after_change code s k).running.registers) p.change) ∙ ap (λ (t : State). t.running.registers) e
      ∙ ap (λ (k : Change). (after_change code s k).running.registers) q.change
      ∙ ap (λ (n : ℕ). with_writes (replicate (function_at code n).registers None) (numbered 0 q.args)) (sym number) in
      let args : p.args ≡ q.args = words_known (replicate (function_at code p.number).registers None) 0 p.args q.args many fit begun in
      p.change ∙ (λ i. entry_change s (number i) (args i)) ∙ sym q.change
    where
      no_word : Option ℕ
      no_word = None

  straight_not_entry : (r : Option ℕ) (c d : Change) → IsStraightChange s r c → Enters code s d → after_change code s c ≡ after_change code s d → ⊥
  straight_not_entry r c d (inl p) q e =
      let before : length (after_change code s c).callers ≡ length s.callers = ap length (callers_of c Next p.goes_on) in
      let after : length (after_change code s d).callers ≡ length s.callers + 1 =
      let k = ap (λ (x : Change). x.control) q.change in let m = ap length (callers_of d (Enter q.number) k) in omega (arith, m) in
      let same : length (after_change code s c).callers ≡ length (after_change code s d).callers = ap (λ (t : State). length t.callers) e in
      omega (arith, before, after, same)
  straight_not_entry r c d (inr p) q e = clash d c (ap (λ (x : Change). ending_after s x.control) q.change ∙ lives) p (sym e)

  step_law : (r : Option ℕ) (c d : Change) → registers_have s.running.registers r → StepShape code s r c → StepShape code s r d
      → after_change code s c ≡ after_change code s d → c ≡ d
  step_law r c d has (inl p) (inl q) e = straight_law code s r c d has lives p q e
  step_law r c d has (inl p) (inr q) e = absurd (straight_not_entry r c d p q e)
  step_law r c d has (inr p) (inl q) e = absurd (straight_not_entry r d c q p (sym e))
  step_law r c d has (inr p) (inr q) e = enter_law c d p q e

  -- ---- edges

  entry_in : (b : ℕ) → IsTarget sound.function b → (x : Block) × (slice_get sound.function.blocks b ≡ Some x) × (x.first ≤ entry_place code s.running.place b)
      × (entry_place code s.running.place b < x.first + x.len)
  entry_in b target = at (some_at sound.function.blocks b target.1)
    where
      at : (y : (x : Block) × (slice_get sound.function.blocks b ≡ Some x)) → (x : Block) × (slice_get sound.function.blocks b ≡ Some x)
          × (x.first ≤ entry_place code s.running.place b) × (entry_place code s.running.place b < x.first + x.len)
      at y =
          let inner = (code_sound.funcs sound.number sound.function sound.running.is).blocks b y.0 y.1 in
          let last : IsPlaceOf sound.function (y.0.first + y.0.len - 1) =
          record { block = y.0; number = b; is = y.1; from = omega (arith, inner.some); below = omega (arith, inner.some) } in
          let within = place_within code sound.number sound.function (y.0.first + y.0.len - 1) code_sound sound.running.is last in
          let less : phis_in (instrs_of code y.0) < y.0.len = phis_before_last code sound.function b y.0 (omega (arith, within, inner.some)) inner in
          let found : block_of code s.running.place b ≡ y.0 = block_found code sound.number sound.function s.running.place b y.0 code_sound sound.running.is
          sound.running.stands y.1 in
          let entry : entry_place code s.running.place b ≡ y.0.first + phis_in (instrs_of code y.0) =
          ap (λ (k : Block). k.first + phis_in (instrs_of code k)) found in
          (y.0, y.1, omega (arith, entry), omega (arith, entry, less))

  goes_law : (c d : Change) → Goes code s sound.function c → Goes code s sound.function d → after_change code s c ≡ after_change code s d → c ≡ d
  goes_law c d p q e =
      let place : entry_place code s.running.place p.block ≡ entry_place code s.running.place q.block =
      sym (ap (λ (k : Control). (frame_after code s c.writes k).place) p.control) ∙ ap (λ (t : State). t.running.place) e
      ∙ ap (λ (k : Control). (frame_after code s d.writes k).place) q.control in
      let first = entry_in p.block p.target in
      let second = entry_in q.block q.target in
      let same : p.block ≡ q.block =
      blocks_apart code sound.number sound.function p.block q.block (entry_place code s.running.place p.block) first.0 second.0 code_sound sound.running.is
      first.1 second.1 first.2 first.3
      (omega (arith, second.2, place)) (omega (arith, second.3, place)) in
      p.change ∙ ap (jump_change code s) same ∙ sym q.change

  goes_not_leaves : (c d : Change) → Goes code s sound.function c → Leaves s sound.function d → after_change code s c ≡ after_change code s d → ⊥
  goes_not_leaves c d p q e =
      let before : length (after_change code s c).callers ≡ length s.callers = ap length (callers_of c (Go p.block) p.control) in
      let after : length (after_change code s d).callers ≡ length (rest_of s.callers) = ap length (callers_of d Leave q.control) in
      let same : length (after_change code s c).callers ≡ length (after_change code s d).callers = ap (λ (t : State). length t.callers) e in
      let less : length (rest_of s.callers) < length s.callers = shorter s.callers q.some in
      omega (arith, before, after, same, less)

  abbrev with_callers : List Frame → State
  with_callers cs = record s { callers = cs }

  leave_known : (cs : List Frame) (v w : Option ℕ) → AreSoundCallers code sound.function s.running.result s.running.restores cs
      → HasWord sound.function.result v → HasWord sound.function.result w
      → after_change code (with_callers cs) (return_change (with_callers cs) cs v) ≡ after_change code (with_callers cs) (return_change (with_callers cs) cs w)
      → 0 < length cs
      → return_change (with_callers cs) cs v ≡ return_change (with_callers cs) cs w
  leave_known [] v w callers p q e l = absurd (omega arith)
  leave_known (caller ∷ more) v w callers p q e l =
      let typed = (code_sound.funcs callers.0 callers.1 callers.2.is).typed in
      let long : length callers.1.types ≡ length caller.registers = omega (arith, typed, callers.2.registers) in
      let same : write_back s.running.result v ≡ write_back s.running.result w =
      back_known callers.1.types caller.registers s.running.result sound.function.result v w long callers.3.fits p q
      (ap (λ (t : State). t.running.registers) e) in
      λ i. record { writes = same i; bytes = []; top = s.running.restores; put = None; took = false; control = Leave }

  leaves_law : (c d : Change) → Leaves s sound.function c → Leaves s sound.function d → after_change code s c ≡ after_change code s d → c ≡ d
  leaves_law c d p q e =
      let same : return_change s s.callers p.word ≡ return_change s s.callers q.word =
      leave_known s.callers p.word q.word sound.callers p.fits q.fits (sym (ap (after_change code s) p.change) ∙ e
      ∙ ap (after_change code s) q.change) p.some in
      p.change ∙ same ∙ sym q.change

  goes_on : (c : Change) → Goes code s sound.function c → ending_after s c.control ≡ None
  goes_on c p = ap (ending_after s) p.control ∙ lives

  leaves_on : (c : Change) → Leaves s sound.function c → ending_after s c.control ≡ None
  leaves_on c p = ap (ending_after s) p.control ∙ lives

  edge_law : (c d : Change) → EdgeShape code s sound.function c → EdgeShape code s sound.function d → after_change code s c ≡ after_change code s d → c ≡ d
  edge_law c d (inl p) (inl q) e = goes_law c d p q e
  edge_law c d (inl p) (inr (inl q)) e = absurd (goes_not_leaves c d p q e)
  edge_law c d (inl p) (inr (inr q)) e = absurd (clash c d (goes_on c p) q e)
  edge_law c d (inr (inl p)) (inl q) e = absurd (goes_not_leaves d c q p (sym e))
  edge_law c d (inr (inl p)) (inr (inl q)) e = leaves_law c d p q e
  edge_law c d (inr (inl p)) (inr (inr q)) e = absurd (clash c d (leaves_on c p) q e)
  edge_law c d (inr (inr p)) (inl q) e = absurd (clash d c (goes_on d q) p (sym e))
  edge_law c d (inr (inr p)) (inr (inl q)) e = absurd (clash d c (leaves_on d q) p (sym e))
  edge_law c d (inr (inr p)) (inr (inr q)) e = both_end c d p q e

-- ---- the law

pub equal_changes : DeterminesChanges
equal_changes code table answers s v w sound fits state lives e =
    by (is_terminator (instr_at code s.running.place)) refl
  where
    fit : (n : ℕ) → InstrFits code state.function (result_at code s.running.place) (instr_of code table s.running.place n)
    fit n = variant_fits code table sound fits state.number state.function s.running.place state.running.is state.running.stands n

    terminates : (n : ℕ) → is_terminator (instr_of code table s.running.place n) ≡ is_terminator (instr_at code s.running.place)
    terminates n = variant_terminates code table sound fits state.number state.function s.running.place state.running.is state.running.stands n

    long : length state.function.types ≡ length s.running.registers
    long = let typed = (sound.funcs state.number state.function state.running.is).typed in omega (arith, typed, state.running.registers)

    has : registers_have s.running.registers (result_at code s.running.place)
    has = result_there code state.function s.running.registers long (result_at code s.running.place) (instr_of code table s.running.place v) (fit v)

    by : (b : Bool) → is_terminator (instr_at code s.running.place) ≡ b → next_by code table answers v s ≡ next_by code table answers w s
    by true t =
        edge_law code s sound state lives (next_by code table answers v s) (next_by code table answers w s)
        (edge_shape code s state.function answers state.memory state.top _ (instr_of code table s.running.place v) (terminates v ∙ t) (fit v))
        (edge_shape code s state.function answers state.memory state.top _ (instr_of code table s.running.place w) (terminates w ∙ t) (fit w)) e
    by false t =
        step_law code s sound state lives (result_at code s.running.place) (next_by code table answers v s) (next_by code table answers w s) has
        (step_shape code s state.function answers state.memory state.top _ (instr_of code table s.running.place v) (terminates v ∙ t) (fit v))
        (step_shape code s state.function answers state.memory state.top _ (instr_of code table s.running.place w) (terminates w ∙ t) (fit w)) e
